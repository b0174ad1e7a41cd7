-- `short_tagged` meets its contract: a header of two octets. Assumes nothing.
use native.Mathlib.Nat.{le_refl}
use Rattle.contents.proofs.Shorts.{header-short}
use Rattle.contents.proofs.element.short_tagged.Goals as goal

pub returns : goal.returns
returns c =
    rw c.from-size.ensures
    (header-short _ _ _ _ _ (le_refl _) c.if-number-ge31.false (rw (c.from.ensures, c.from-2.ensures) at c.if-from-number.false)
    c.if-end-at.false c.if-end-at-lt2.false c.if-b-ge128.false (rw c.from-size.ensures at c.if-end-at-2.false))
