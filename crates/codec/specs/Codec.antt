-- The two laws of a codec, over an encoding, what is good to encode, and a reader: what is encoded is read back, with
-- anything after it; what is read was encoded.
use Rattle.std.specs.Prelude.{◌≡◌, Bool, List, ◌++◌, ℕ, ◌+◌, length, T}
use Rattle.answer.specs.Answer.{Answer, got}
use Rattle.codec.specs.Octets.{Octets, Taken, taken}
use Rattle.codec.specs.Header.{Identifier}

-- a reader of an element's whole content: p is the element's place, q the content's
pub record Whole {A : Type 0} (enc : A → List ℕ) (good : A → Bool) (dec : ℕ → ℕ → List ℕ → Answer A) : Type 0 where
  pub back : (p q : ℕ) (a : A) → T (good a) → dec p q (enc a) ≡ got a
  pub sound : (p q : ℕ) (bs : List ℕ) (a : A) → Octets bs → dec p q bs ≡ got a → T (good a) × (enc a ≡ bs)

-- a reader from the front
pub record Front {A : Type 0} (enc : A → List ℕ) (good : A → Bool) (rd : ℕ → List ℕ → Answer (Taken A)) : Type 0 where
  pub back : (p : ℕ) (a : A) (r : List ℕ) → T (good a) → rd p (enc a ++ r) ≡ got (taken a (p + length (enc a)) r)
  pub sound : (p : ℕ) (bs : List ℕ) (w : Taken A) → Octets bs → rd p bs ≡ got w → T (good w.val) × (enc w.val ++ w.rest ≡ bs)

-- a reader of the content of an element whose identifier the value gives
pub record Inside {A : Type 0} (id_of : A → Identifier) (enc : A → List ℕ) (good : A → Bool) (dec : Identifier → ℕ → ℕ → List ℕ → Answer A) : Type 0 where
  pub back : (p q : ℕ) (a : A) → T (good a) → dec (id_of a) p q (enc a) ≡ got a
  pub sound : (i : Identifier) (p q : ℕ) (bs : List ℕ) (a : A) → Octets bs → dec i p q bs ≡ got a → T (good a) × (id_of a ≡ i) × (enc a ≡ bs)
