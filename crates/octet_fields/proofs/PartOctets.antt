-- The octets of a part: one law for each way in which it can lie in the bytes. Assumes nothing.
use mathlib.Core.Path.{◌≡◌, refl, sym, ◌∙◌}
use mathlib.Core.List.{List, []}
use Prim.Native.Nat.{ℕ, ◌+◌, ◌-◌, ◌<◌, ◌≤◌, min}
use native.Mathlib.Omega.{arith}
use lib.ListN.{length, take, drop, length-drop, drop_of_length-le}
use lib.Seq.{take_all, take-nil}
use borrow.Author.Tests.{le-leb, lt-leb}
use Rattle.answer.specs.Answer.{pick}
use Rattle.answer.proofs.Logic.{by_le}
use Rattle.records.specs.Content.{octets_at}
use Rattle.octet_fields.specs.Asked.{start_within}

module _ (s : List ℕ) (start len : ℕ) where
  pub part_past : length s ≤ start → take (length s - length s) (drop (length s) s) ≡ octets_at s start len
  part_past h =
      let e : drop (length s) s ≡ [] = drop_of_length-le s {i = length s} (omega arith) in
      rw (e, drop_of_length-le s h, take-nil (length s - length s), take-nil len) refl

  -- as many as there are, and no more than the part has
  pub part_cut : start < length s → {m : ℕ} → m ≡ min len (length s - start) → take (start + m - start) (drop start s) ≡ octets_at s start len
  part_cut h {m} e =
      let z : start + m - start ≡ m = omega arith in
      rw z (by_le len (length s - start)
      (λ l. let q : m ≡ len = omega (arith, e) in rw q refl)
      (λ l. let q : m ≡ length s - start = omega (arith, e) in
      rw q (take_all (length s - start) (drop start s) (rw length-drop (omega arith)) ∙ sym (take_all len (drop start s) (rw length-drop (omega (arith, l)))))))

-- where it begins
pub within_past : (start n : ℕ) → n ≤ start → n ≡ start_within start n
unfolding pick
within_past start n h = rw (le-leb n start h) refl

pub within_start : (start n : ℕ) → start < n → start ≡ start_within start n
unfolding pick
within_start start n h = rw (lt-leb n start h) refl
