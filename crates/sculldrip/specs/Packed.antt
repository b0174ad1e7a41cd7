-- include/sculldrip.h: "An answer is one number. Its low byte is 0 where the function did what it is for, and then the rest
-- (answer >> 8) is a count or a length; else the low byte is the refusal's number .. and the rest is the byte place".
use Rattle.std.specs.Prelude.{ℕ, ◌+◌, ◌*◌, ltb, Result}
use Rattle.answer.specs.Answer.{Answer, got, refused, pick, answer_of}
use Rattle.answer.specs.declared.Refused.{Refused}

-- the most that the rest of an answer holds, 2^56 - 1; no buffer's length or place comes near it
abbrev pub rest_top : ℕ
rest_top = 72057594037927935

abbrev pub rest : ℕ → ℕ
rest n = pick (ltb rest_top n) rest_top n

-- a number in the low byte and the rest above it
abbrev pub word : ℕ → ℕ → ℕ
word number n = number + 256 * rest n

abbrev pub packed : Answer ℕ → ℕ
packed (got n) = word 0 n
packed (refused number place) = word number place

-- what the code answers: what stands beside it, or a refusal
abbrev pub of_answer : Result ℕ Refused → Answer ℕ
of_answer = answer_of (λ n. n)
