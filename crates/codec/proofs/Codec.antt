-- A codec under another name of what is good. Assumes nothing.
use mathlib.Core.Bool.{Bool}
use mathlib.Core.List.{List}
use Prim.Native.Nat.{ℕ}
use lib.Dec.{T}
use Rattle.answer.specs.Answer.{Answer}
use Rattle.codec.specs.Octets.{Taken}
use Rattle.codec.specs.Codec.{Front}

-- the same codec under another name of what is good
module _ {A : Type 0} {enc : A → List ℕ} {good : A → Bool} {rd : ℕ → List ℕ → Answer (Taken A)} (laws : Front enc good rd)
    (good' : A → Bool) (to : (a : A) → T (good a) → T (good' a)) (fro : (a : A) → T (good' a) → T (good a)) where
  pub regood : Front enc good' rd
  regood = record {
    back = λ p a r t. laws.back p a r (fro a t);
    sound = λ p bs w o e. let s = laws.sound p bs w o e in (to w.val s.0, s.1);
  }
