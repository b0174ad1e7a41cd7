-- The ruling's own answers: the first refusal, or the permit with its marks. Assumes nothing.
use mathlib.Core.Path.{◌≡◌, refl}
use mathlib.Core.Bool.{Bool, true, false}
use mathlib.Core.List.{List}
use Prim.Native.Nat.{ℕ}
use borrow.Author.Tests.{ne_eqb}
use Rattle.answer.specs.Answer.{Answer, got, refused, guard, pick}
use Rattle.std.specs.Prelude.{Result, Ok, Err}
use Rattle.answer.specs.Refusal.{ill_shaped, number_of}
use Rattle.answer.specs.declared.Refusal.{Refusal}
use Rattle.records.specs.Shape.{well_shaped_record}
use Rattle.records.specs.declared.Record.{Record}
use Rattle.ruling.specs.Rules.{Rules, said_fields, rules_of}
use Rattle.ruling.specs.Code.{number_or_zero}
use Rattle.ruling.proofs.First.{above_0}
use Rattle.ruling.specs.Ruling.{first_refusing, checks, held_tags, mark_of, Permit, permit_of, looked_at, unless, ruled, ruling}
use Rattle.ruling.specs.declared.request.Request.{Request}

module _ (level keymint_level : ℕ) (s h : Rules) (q : Request) (f : Result (Unit {0}) Refusal) (e : number_or_zero f ≡ first_refusing (checks s h q)) where
  pub ruled-refused : (x : Refusal) → f ≡ Err x → refused (number_of x) 0 ≡ ruled level keymint_level s h q
  unfolding ruled unless pick
  ruled-refused x r = let n : number_of x ≡ first_refusing (checks s h q) = rw r at e in rw (← n, ne_eqb (number_of x) 0 (above_0 x)) refl

  pub ruled-permitted : f ≡ Ok tt → (l t u : List Bool) → l ≡ looked_at s h q → t ≡ held_tags h → u ≡ held_tags s → (m k : ℕ) → m ≡ mark_of t l → k ≡ mark_of u l
      → (a : Permit) → a ≡ permit_of level keymint_level m k → got a ≡ ruled level keymint_level s h q
  unfolding ruled unless pick
  ruled-permitted r l t u j g i m k v w a b = let n : 0 ≡ first_refusing (checks s h q) = rw r at e in rw (← n, ← j, ← g, ← i, ← v, ← w, b) refl

module _ (r : Record) (q : Request) (x : Bool) (e : x ≡ well_shaped_record r) where
  pub rule_ill_shaped : x ≡ false → refused ill_shaped 0 ≡ ruling r q
  unfolding ruling guard
  rule_ill_shaped n = rw (← e, n) refl

  pub rule_by_lists : x ≡ true → (s h : Rules) → s ≡ rules_of (said_fields r.software) → h ≡ rules_of (said_fields r.hardware)
      → (a : Answer Permit) → a ≡ ruled r.attestation.level r.keymint.level s h q → a ≡ ruling r q
  unfolding ruling guard
  rule_by_lists n s h f g a b = rw (← e, n, ← f, ← g) b
