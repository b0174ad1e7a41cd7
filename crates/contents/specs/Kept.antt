-- What is kept of a content that was read, beside what it says: sets within their slots, octet parts within n bytes, and all
-- that is spare or absent zero.
use Rattle.std.specs.Prelude.{◌≡◌, Bool, true, false, ℕ, ◌+◌, ◌≤◌, Result, IfOk}
use Rattle.answer.specs.declared.Refused.{Refused}
use Rattle.schema.specs.Table.{Kind}
use Rattle.records.specs.Slots.{SetInSlots}
use Rattle.records.specs.Clear.{uses_value, uses_size, SpareClear, HashClear}
use Rattle.records.specs.declared.NumberSet.{NumberSet}
use Rattle.records.specs.declared.RootOfTrust.{RootOfTrust}
use Rattle.contents.specs.Root.{HashedAs, PartsIn}
use Rattle.contents.specs.Content.{Stored, plain_content, is_plain}
use Rattle.contents.specs.declared.taken.Taken.{Taken}
use Rattle.contents.specs.declared.content.Plain.{Plain}

-- a set that was read
abbrev pub SetKept : Result NumberSet Refused → Type 0
SetKept r = IfOk r (λ g. SetInSlots g × SpareClear g)

abbrev pub SetTakenKept : Result (Taken NumberSet) Refused → Type 0
SetTakenKept r = IfOk r (λ w. SetInSlots w.val × SpareClear w.val)

-- a content that has a number or a start (value), a length (size), or neither
pub record ContentIn (value size : Bool) (n : ℕ) (c : Stored) : Type 0 where
  pub set : SetInSlots c.set
  pub spare : SpareClear c.set
  pub root : PartsIn n c.root
  pub hash : HashClear c.root
  pub no_value : value ≡ false → c.value ≡ 0
  pub no_size : size ≡ false → c.size ≡ 0
  pub octet : size ≡ true → c.value + c.size ≤ n

-- a content, by its field's kind
abbrev pub ContentKept : Kind → ℕ → Stored → Type 0
ContentKept k n c = ContentIn (uses_value k) (uses_size k) n c

-- the same of the code's answers
abbrev pub PlainIn : Bool → Bool → ℕ → Result Plain Refused → Type 0
PlainIn value size n r = IfOk r (λ p. ContentIn value size n (plain_content p.value p.size))

abbrev pub PlainKept : Kind → ℕ → Result Plain Refused → Type 0
PlainKept k n r = is_plain k ≡ true → PlainIn (uses_value k) (uses_size k) n r

abbrev pub RootKept : ℕ → Bool → Result RootOfTrust Refused → Type 0
RootKept n h r = IfOk r (λ t. PartsIn n t × HashedAs h t)
