-- What the walk's answers say in the definitions' terms, and an extension's limits.
use Rattle.std.specs.Prelude.{List, ℕ, ◌+◌, ◌<◌, ◌≤◌, Result, IfOk}
use Rattle.std.proofs.Math.Seq.{slice}
use Rattle.answer.specs.Answer.{Answer, got, refused, answer_of}
use Rattle.answer.specs.declared.Refused.{Refused}
use Rattle.codec.specs.Octets.{Taken, taken}
use Rattle.codec.specs.Limits.{extension_bytes, extension_depth, extension_elements}
use Rattle.codec.specs.Tree.{Node, Nodes, nodes, all_nodes, run, walk_element}
use Rattle.der.specs.declared.walk.Limits.{Limits}
use Rattle.der.specs.declared.walk.Past.{Past}

-- document 01: "down to depth 8", "at most 8,192 bytes and 512 elements"
abbrev pub extension_limits : Limits
extension_limits = record { bytes = extension_bytes; depth = extension_depth; elements = extension_elements }

-- accepted with the element count, or refused with number and place
abbrev pub of_walked : Result ℕ Refused → Answer ℕ
of_walked = answer_of (λ n. n)

-- "The walk reports how many elements it met": the node count of the tree
abbrev pub node_count : Answer Node → Answer ℕ
node_count (got t) = got (nodes t)
node_count (refused k p) = refused k p

-- ---- inside the walk: a step past an element or a run, with the count so far

abbrev pub of_step : List ℕ → ℕ → Result Past Refused → Answer (Taken ℕ)
of_step s end = answer_of (λ p. taken p.met p.next (slice p.next end s))

abbrev pub of_run : Result ℕ Refused → Answer ℕ
of_run = answer_of (λ n. n)

-- the count after an element, `met` being met before
abbrev pub counted : ℕ → Answer (Taken Node) → Answer (Taken ℕ)
counted met (got w) = got (taken (met + nodes w.val) w.next w.rest)
counted met (refused k p) = refused k p

abbrev pub summed : ℕ → Answer Nodes → Answer ℕ
summed met (got ts) = got (met + all_nodes ts)
summed met (refused k p) = refused k p

-- the count after a run of elements with depth levels left
abbrev pub run_counted : ℕ → ℕ → ℕ → ℕ → ℕ → List ℕ → Answer ℕ
run_counted most depth f met at s = summed met (run (walk_element most depth) f met at s)

-- a step past an element goes on, and stays inside
abbrev pub StepInside : ℕ → ℕ → Result Past Refused → Type 0
StepInside at end r = IfOk r (λ p. (at < p.next) × (p.next ≤ end))
