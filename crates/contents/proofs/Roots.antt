-- Field 704's content, member by member, and all of it (`exactly`). Assumes nothing.
use mathlib.Core.Path.{◌≡◌, refl}
use mathlib.Core.Bool.{Bool, true, false}
use mathlib.Core.List.{List}
use Prim.Native.Nat.{ℕ, ◌≤◌}
use native.Mathlib.Omega.{arith}
use lib.ListN.{length}
use lib.Seq.{slice}
use Rattle.std.specs.Prelude.{Option, Some, None, Result}
use Rattle.std.specs.Option.{unwrap_or}
use Rattle.answer.specs.Answer.{got, refused, bind, pick, answer_of}
use Rattle.answer.specs.declared.Refused.{Refused}
use Rattle.codec.specs.Octets.{taken}
use Rattle.codec.specs.Element.{exactly, both}
use Rattle.schema.specs.Content.{Place, place_at}
use Rattle.schema.specs.Decode.{read_octets, read_boolean, read_enumerated, read_hash, RootParts, root_from, root_parts, read_root, as_place}
use Rattle.records.specs.Content.{root_of}
use Rattle.records.specs.declared.Part.{Part}
use Rattle.records.specs.declared.RootOfTrust.{RootOfTrust}
use Rattle.contents.specs.Element.{opened_as}
use Rattle.contents.specs.Leaf.{read_number, PartBefore}
use Rattle.contents.specs.Root.{place_of, trust_of, trust_from, HashedAs, HashIs, PartsIn}
use Rattle.contents.specs.Taken.{exactly_taken}
use Rattle.contents.specs.declared.taken.Taken.{Taken}
use Rattle.contents.proofs.Exact.{exactly_no_taken, exactly_as}
use Rattle.contents.proofs.Open.{leaf_no, leaf_is}

pub root-value : (r : RootOfTrust) → root_from (trust_of r) ≡ root_of place_at r
root-value r = refl

-- ---- the hash, where there is to be one

module _ (s : List ℕ) (at end : ℕ) (h : Bool) where
  pub hash_none : h ≡ false → got (taken (place_of None) at (slice at end s)) ≡ read_hash as_place h at (slice at end s)
  unfolding read_hash
  hash_none u = rw u refl

  pub hash_no : h ≡ true → (k p : ℕ) → refused k p ≡ read_octets as_place at (slice at end s) → refused k p ≡ read_hash as_place h at (slice at end s)
  unfolding read_hash bind
  hash_no u k p e = rw (u, ← e) refl

  pub hash_some : h ≡ true → (q : Part) (x : ℕ) → got (taken (place_at q.start q.len) x (slice x end s)) ≡ read_octets as_place at (slice at end s)
      → got (taken (place_of (Some q)) x (slice x end s)) ≡ read_hash as_place h at (slice at end s)
  unfolding read_hash bind
  hash_some u q x e = rw (u, ← e) refl

pub hash_is_none : (end : ℕ) (h : Bool) → h ≡ false → HashIs end h None
hash_is_none end h u = rw u tt

pub hash_is_some : (end : ℕ) (h : Bool) (q : Part) → h ≡ true → PartBefore end q → HashIs end h (Some q)
hash_is_some end h q u i = rw u i

-- ---- the four, one after the other

module _ (s : List ℕ) (at end : ℕ) (h : Bool) (fit : end ≤ length s) where
  pub key_no : (k p : ℕ) → refused k p ≡ read_octets as_place at (slice at end s) → refused k p ≡ trust_from h at (slice at end s)
  unfolding trust_from exactly root_parts both bind
  key_no k p e = rw (← e) refl

  module _ (key : Place) (x : ℕ) (e : got (taken key x (slice x end s)) ≡ read_octets as_place at (slice at end s)) where
    pub locked_no : (k p : ℕ) → refused k p ≡ read_boolean x (slice x end s) → refused k p ≡ trust_from h at (slice at end s)
    unfolding trust_from exactly root_parts both bind
    locked_no k p e₂ = rw (← e, ← e₂) refl

    module _ (b : Bool) (y : ℕ) (e₂ : got (taken b y (slice y end s)) ≡ read_boolean x (slice x end s)) where
      pub state_no : (k p : ℕ) → refused k p ≡ read_number 10 3 y (slice y end s) → refused k p ≡ trust_from h at (slice at end s)
      unfolding trust_from exactly root_parts both bind read_enumerated read_number
      state_no k p e₃ = rw (← e, ← e₂, ← e₃) refl

      module _ (n z : ℕ) (e₃ : got (taken n z (slice z end s)) ≡ read_number 10 3 y (slice y end s)) where
        parts_no : (k p : ℕ) → refused k p ≡ read_hash as_place h z (slice z end s) → refused k p ≡ root_parts as_place h at (slice at end s)
        unfolding root_parts both bind read_enumerated read_number
        parts_no k p e₄ = rw (← e, ← e₂, ← e₃, ← e₄) refl

        parts_of : Option Part → RootParts Place
        parts_of v = (key, (b, (n, place_of v)))

        parts_is : (v : Option Part) (w : ℕ) → got (taken (place_of v) w (slice w end s)) ≡ read_hash as_place h z (slice z end s)
            → got (taken (key, (b, (n, place_of v))) w (slice w end s)) ≡ root_parts as_place h at (slice at end s)
        unfolding root_parts both bind read_enumerated read_number
        parts_is v w e₄ = rw (← e, ← e₂, ← e₃, ← e₄) refl

        pub hash_refused : (k p : ℕ) → refused k p ≡ read_hash as_place h z (slice z end s) → refused k p ≡ trust_from h at (slice at end s)
        unfolding trust_from
        hash_refused k p e₄ = exactly_no_taken (λ (v : RootParts Place). v) (root_parts as_place h) s at end fit k p (parts_no k p e₄)

        -- the hash, and the end
        pub trust_ends : (w : Taken (Option Part)) (r : Result (Option Part) Refused) → got (taken (place_of w.val) w.next (slice w.next end s)) ≡ read_hash as_place h z (slice z end s)
            → w.next ≤ end → r ≡ exactly_taken w end → answer_of (λ v. (key, (b, (n, place_of v)))) r ≡ trust_from h at (slice at end s)
        unfolding trust_from
        trust_ends w r e₄ l q = exactly_as (λ v. (key, (b, (n, place_of v)))) (root_parts as_place h) s at end fit w r (parts_is w.val w.next e₄) l q

-- ---- as a record

abbrev pub root_with : Part → Bool → ℕ → Bool → Part → RootOfTrust
root_with key b n h p = record { key = key; hash = p; state = n; locked = b; hashed = h }

nowhere : Part
nowhere = record { start = 0; len = 0 }

module _ (end : ℕ) (key : Part) (b : Bool) (n : ℕ) where
  pub trust_is : (h : Bool) (v : Option Part) → HashIs end h v
      → trust_of (root_with key b n h (unwrap_or v (record { start = 0; len = 0 }))) ≡ (place_at key.start key.len, (b, (n, place_of v)))
  unfolding pick
  trust_is true (Some p) i = refl
  trust_is true None i = absurd i
  trust_is false (Some p) i = absurd i
  trust_is false None i = refl

  pub trust_kept : (h : Bool) (v : Option Part) → PartBefore end key → HashIs end h v
      → PartsIn end (root_with key b n h (unwrap_or v (record { start = 0; len = 0 }))) × HashedAs h (root_with key b n h (unwrap_or v (record { start = 0; len = 0 })))
  trust_kept true (Some p) k i = ((k, i), refl)
  trust_kept true None k i = absurd i
  trust_kept false (Some p) k i = absurd i
  trust_kept false None k i = ((k, omega arith), (refl, refl))

-- ---- the SEQUENCE

module _ (s : List ℕ) (at end : ℕ) (h : Bool) where
  pub root_no : (k p : ℕ) → refused k p ≡ opened_as 1 16 at (slice at end s) → refused k p ≡ read_root as_place h at (slice at end s)
  unfolding read_root
  root_no k p e = leaf_no _ at 1 16 s end k p e

  module _ (b x : ℕ) (e : got (taken (b, slice b x s) x (slice x end s)) ≡ opened_as 1 16 at (slice at end s)) where
    pub root_trust_no : (k p : ℕ) → refused k p ≡ trust_from h b (slice b x s) → refused k p ≡ read_root as_place h at (slice at end s)
    unfolding read_root trust_from bind
    root_trust_no k p q = rw (← q) at (leaf_is (λ p q bs. exactly 9 (root_parts as_place h) q bs) at 1 16 s end b x e)

    pub root_is_lem : (t : RootOfTrust) → got (trust_of t) ≡ trust_from h b (slice b x s) → got (taken (trust_of t) x (slice x end s)) ≡ read_root as_place h at (slice at end s)
    unfolding read_root trust_from bind
    root_is_lem t q = rw (← q) at (leaf_is (λ p q bs. exactly 9 (root_parts as_place h) q bs) at 1 16 s end b x e)
