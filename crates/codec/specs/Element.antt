-- Readers of whole elements, and their composition: what a schema is made of. Each is the mirror of a piece of an
-- encoding; proofs/ has one law a combinator. A schema's own refusal numbers are parameters.
use Rattle.std.specs.Prelude.{Bool, true, ◌&&◌, List, [], ◌∷◌, ◌++◌, ℕ, zero, suc, ◌+◌, length, take, drop, ltb, eqb}
use Rattle.answer.specs.Answer.{Answer, got, refused, guard, bind}
use Rattle.codec.specs.Octets.{Taken, taken}
use Rattle.codec.specs.Header.{Identifier, read_header}

-- the element at p, whose content `content` reads: given its identifier, its place, its content's place and octets.
-- Where none is left in the holder, the refusal `missing` at the holder's end
unfoldable pub element : {A : Type 0} → ℕ → (Identifier → ℕ → ℕ → List ℕ → Answer A) → ℕ → List ℕ → Answer (Taken A)
element missing content p bs =
    guard (ltb 0 (length bs)) missing p
    (bind (read_header p bs) λ h.
    bind (content h.val.id p h.next (take h.val.size h.rest)) λ a.
    got (taken a (h.next + h.val.size) (drop h.val.size h.rest)))

-- an element of just this identifier; else the refusal `wrong`, also where it is missing
unfoldable pub tagged : {A : Type 0} → ℕ → Identifier → (ℕ → ℕ → List ℕ → Answer A) → ℕ → List ℕ → Answer (Taken A)
tagged wrong i content =
    element wrong λ j p q bs. guard (eqb j.form i.form && eqb j.number i.number) wrong p (content p q bs)

-- exactly one: what stands after it is the refusal `extra` at its start
unfoldable pub exactly : {A : Type 0} → ℕ → (ℕ → List ℕ → Answer (Taken A)) → ℕ → List ℕ → Answer A
exactly extra rd p bs = bind (rd p bs) λ w. guard (eqb (length w.rest) 0) extra w.next (got w.val)

-- one, and then another that may depend on it
unfoldable pub both : {A B : Type 0} → (ℕ → List ℕ → Answer (Taken A)) → (A → ℕ → List ℕ → Answer (Taken B)) → ℕ → List ℕ → Answer (Taken (A × B))
both rd rd' p bs =
    bind (rd p bs) λ a.
    bind (rd' a.val a.next a.rest) λ b.
    got (taken (a.val, b.val) b.next b.rest)

-- one after the other to the end, each read at the state that the ones before left; the fuel only bounds the turns
module _ {S A : Type 0} (rd : S → ℕ → List ℕ → Answer (Taken A)) (after : S → A → S) where
  unfoldable pub chain_fuel : ℕ → S → ℕ → List ℕ → Answer (List A)
  chain_fuel zero s p [] = got []
  chain_fuel zero s p (x ∷ xs) = refused 0 p
  chain_fuel (suc f) s p [] = got []
  chain_fuel (suc f) s p (x ∷ xs) =
      bind (rd s p (x ∷ xs)) (λ w.
      bind (chain_fuel f (after s w.val) w.next w.rest) (λ l.
      got (w.val ∷ l)))

  -- an element has an octet, so as many turns as octets are enough
  unfoldable pub chain : S → ℕ → List ℕ → Answer (List A)
  unfolding chain_fuel
  chain s p bs = chain_fuel (length bs) s p bs

abbrev pub chain_octets : {A : Type 0} → (A → List ℕ) → List A → List ℕ
chain_octets enc [] = []
chain_octets enc (a ∷ l) = enc a ++ chain_octets enc l

-- each is good at the state before it, as "strictly ascending" has it
abbrev pub chain_good : {S A : Type 0} → (S → A → Bool) → (S → A → S) → S → List A → Bool
chain_good good after s [] = true
chain_good good after s (a ∷ l) = good s a && chain_good good after (after s a) l

-- a count over all of them
abbrev pub total : {A : Type 0} → (A → ℕ) → List A → ℕ
total count [] = 0
total count (a ∷ l) = count a + total count l

-- the same reader, its value under a constructor
unfoldable pub under : {A B : Type 0} → (A → B) → (ℕ → ℕ → List ℕ → Answer A) → ℕ → ℕ → List ℕ → Answer B
under f content p q bs = bind (content p q bs) λ a. got (f a)
