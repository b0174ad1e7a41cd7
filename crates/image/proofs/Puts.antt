-- Words put one after the other: the loop that puts a list, and writes that join. Assumes nothing.
use mathlib.Core.Path.{◌≡◌, refl, sym, ap, ◌∙◌}
use mathlib.Core.List.{List, [], ◌∷◌, ◌++◌, map, append_assoc}
use Prim.Native.Nat.{ℕ, ◌+◌, ◌-◌, ◌<◌, ◌≤◌}
use native.Mathlib.Nat.{zero-add}
use native.Mathlib.Omega.{arith}
use native.Mathlib.Numerals.{add-one}
use mir.Syntax.{w32}
use mir.Val.{Fits}
use borrow.Author.Tests.{le-leb}
use Rattle.records.proofs.ContentShaped.{all_of}
use lib.ListN.{length, get_or, take, drop, set, length-append, length-drop, length-map}
use lib.Seq.{take-suc, take_all, length-take-le, drop-drop}
use borrow.Rule.Slice.PartMut.{put_mid}
use Rattle.std.proofs.lemmas.List.{append-nil, drop_all}
use Rattle.codec.specs.Octets.{splice}
use Rattle.codec.proofs.Splice.{splice-nothing, splice_one, splice-splice, length-splice, splice_stores}
use Rattle.image.specs.Whole.{WholeMembers, WholeSets, WholeList, WholeRecord}
use Rattle.records.specs.declared.NumberSet.{NumberSet}
use Rattle.records.specs.declared.RootOfTrust.{RootOfTrust}
use Rattle.records.specs.declared.FieldList.{FieldList}
use Rattle.records.specs.declared.Record.{Record}
use Rattle.image.specs.Image.{flag_word, number_word, narrow_at, set_words, root_words, head_words, sets_words, list_words, image_of}

-- the first k of xs stand at the front of old, and give new
pub record Placed (old : List ℕ) (n : ℕ) (xs new : List ℕ) (k : ℕ) : Type 0 where
  pub within : k ≤ n
  pub same : new ≡ splice old 0 (take k xs)

module _ (old : List ℕ) (n : ℕ) (xs : List ℕ) where
  pub placed_none : Placed old n xs old 0
  placed_none = record { within = omega arith; same = sym (splice-nothing old 0) }

  module _ (new : List ℕ) (k : ℕ) (c : Placed old n xs new k) (z : length xs ≡ n) where
    pub placed_more : (v d : ℕ) → k < n → n ≤ length old → v ≡ get_or xs k d → Placed old n xs (set new k v) (k + 1)
    placed_more v d h q e =
        let t : 0 + length (take k xs) ≡ k = zero-add _ ∙ length-take-le k xs (omega arith) in
        let l : 0 + length (take k xs) ≤ length old = omega arith in
        let f : k < length (splice old 0 (take k xs)) = omega (arith, length-splice old 0 (take k xs) l) in
        record {
          within = omega arith;
          same =
              rw (c.same, ← splice_one (splice old 0 (take k xs)) k v f, e, add-one, take-suc xs k d (omega arith))
              (rw t at (splice-splice old 0 (take k xs) (get_or xs k d ∷ []) l));
        }

    pub placed_all : n ≤ k → new ≡ splice old 0 xs
    placed_all h =
        let e : k ≡ n = omega (arith, c.within) in
        c.same ∙ rw (e, take_all n xs (omega arith)) refl

-- ---- stores one after the other

pub root_stored_lem : (old : List ℕ) (t : RootOfTrust) → 7 ≤ length old → {locked state hashed : ℕ}
    → locked ≡ flag_word t.locked → state ≡ t.state → hashed ≡ flag_word t.hashed
    → set (set (set (set (set (set (set old 0 t.key.start) 1 t.key.len) 2 locked) 3 state) 4 hashed) 5 t.hash.start) 6 t.hash.len ≡ splice old 0 (root_words t)
unfolding root_words
root_stored_lem old t h a b c = rw (a, b, c) (splice_stores old 0 (root_words t) h)

pub head_stored : (old : List ℕ) (r : Record) → 8 ≤ length old → {version level keymint keymint_level : ℕ}
    → version ≡ r.attestation.version → level ≡ r.attestation.level → keymint ≡ r.keymint.version → keymint_level ≡ r.keymint.level
    → set (set (set (set (set (set (set (set old 0 version) 1 level) 2 keymint) 3 keymint_level) 4 r.challenge.start) 5 r.challenge.len) 6 r.unique.start) 7 r.unique.len
    ≡ splice old 0 (head_words r)
unfolding head_words
head_stored old r h a b c d = rw (a, b, c, d) (splice_stores old 0 (head_words r) h)

-- ---- words that are lent from a place on, and come back

-- all from k on, at whose front xs was put
pub put_part : (o : List ℕ) (k n : ℕ) (xs sub : List ℕ) → n ≡ length o - k → sub ≡ splice (take n (drop k o)) 0 xs → put_mid k n o sub ≡ splice o k xs
unfolding splice
put_part o k n xs sub e q =
    let l : length (drop k o) ≤ n = omega (arith, length-drop k o) in
    rw (q, take_all n (drop k o) l, drop_all n (drop k o) l, append-nil, zero-add, drop-drop) refl

-- ---- writes one after the other

-- the write after one that ends where this one starts
pub then : (old : List ℕ) (p : ℕ) (xs ys : List ℕ) (q : ℕ) {mid new : List ℕ} → q ≡ p + length xs → q ≤ length old
    → mid ≡ splice old p xs → new ≡ splice mid q ys → new ≡ splice old p (xs ++ ys)
then old p xs ys q e h a b = b ∙ rw (a, e) (splice-splice old p xs ys (omega arith))

map_number : (xs : List ℕ) → map number_word xs ≡ xs
map_number [] = refl
map_number (x ∷ xs) = ap (λ (ys : List ℕ). x ∷ ys) (map_number xs)

-- the slots, and the count stored after them
pub set_stored_lem : (old : List ℕ) (g : NumberSet) {mid : List ℕ} → length g.members ≡ 16 → 17 ≤ length old → mid ≡ splice old 0 (map number_word g.members)
    → set mid 16 g.count ≡ splice old 0 (set_words g)
unfolding set_words
set_stored_lem old g {mid} z h m =
    let e : mid ≡ splice old 0 g.members = m ∙ ap (splice old 0) (map_number g.members) in
    let l : 0 + length g.members ≤ length old = omega arith in
    let f : 16 < length mid = rw e (omega (arith, length-splice old 0 g.members l)) in
    sym (splice_one mid 16 g.count f) ∙ rw (e, ← z) (rw zero-add at (splice-splice old 0 g.members (g.count ∷ []) l))

-- ---- how many words there are

-- slots are whole where each holds 32 bits
pub whole_members : (members : List ℕ) → length members ≡ 16 → ((k : ℕ) → Fits w32 (get_or members k 0)) → WholeMembers members
whole_members members z f =
    record { sized = z; narrow = all_of (narrow_at members) 16 (λ k h. let q : Fits w32 (get_or members k 0) = f k in le-leb (get_or members k 0) 0xffff_ffff (omega (arith, q))) }

pub set-length : (g : NumberSet) → WholeMembers g.members → length (set_words g) ≡ 17
unfolding set_words
set-length g w = simp length-append (omega (arith, w.sized))

root-length : (t : RootOfTrust) → length (root_words t) ≡ 7
unfolding root_words
root-length t = refl

pub head-length : (r : Record) → length (head_words r) ≡ 8
unfolding head_words
head-length r = refl

pub sets-length : (l : FieldList) → WholeSets l → length (sets_words l) ≡ 68
unfolding sets_words
sets-length l w =
    simp length-append
    (omega (arith, set-length l.purpose w.purpose, set-length l.digest w.digest, set-length l.padding w.padding, set-length l.mgf w.mgf))

pub list_length : (l : FieldList) → WholeList l → length (list_words l) ≡ 201
unfolding list_words
list_length l w = simp (length-append, length-map) (omega (arith, w.present, w.values, w.sizes, sets-length l w.sets, root-length l.root))

pub image-length : (r : Record) → WholeRecord r → length (image_of r) ≡ 410
unfolding image_of
image-length r w = simp length-append (omega (arith, head-length r, list_length r.software w.software, list_length r.hardware w.hardware))

-- ---- the words of a list and of a record, one write after the other

pub set-long : (g : NumberSet) → length g.members ≡ 16 → length (set_words g) ≡ 17
unfolding set_words
set-long g z = simp length-append (omega (arith, z))

module _ (old : List ℕ) (l : FieldList) where
  pub sets-put : 68 ≤ length old → {o1 o2 o3 new : List ℕ}
      → (o1 ≡ splice old 0 (set_words l.purpose)) × (length (set_words l.purpose) ≡ 17)
      → (o2 ≡ splice o1 17 (set_words l.digest)) × (length (set_words l.digest) ≡ 17)
      → (o3 ≡ splice o2 34 (set_words l.padding)) × (length (set_words l.padding) ≡ 17)
      → (new ≡ splice o3 51 (set_words l.mgf)) × (length (set_words l.mgf) ≡ 17)
      → (new ≡ splice old 0 (sets_words l)) × (length (sets_words l) ≡ 68)
  unfolding sets_words
  sets-put h a b c d =
      let x1 = set_words l.purpose ++ set_words l.digest in
      let m1 : length x1 ≡ 34 = length-append (set_words l.purpose) (set_words l.digest) ∙ omega (arith, a.1, b.1) in
      let x2 = x1 ++ set_words l.padding in
      let m2 : length x2 ≡ 51 = length-append x1 (set_words l.padding) ∙ omega (arith, m1, c.1) in
      let t1 = then old 0 (set_words l.purpose) (set_words l.digest) 17 (omega (arith, a.1)) (omega arith) a.0 b.0 in
      let t2 = then old 0 x1 (set_words l.padding) 34 (omega (arith, m1)) (omega arith) t1 c.0 in
      let t3 = then old 0 x2 (set_words l.mgf) 51 (omega (arith, m2)) (omega arith) t2 d.0 in
      (t3 ∙ simp append_assoc, simp length-append (omega (arith, a.1, b.1, c.1, d.1)))

  pub list_put : 201 ≤ length old → {o1 o2 o3 o4 new : List ℕ}
      → (o1 ≡ splice old 0 (map flag_word l.present)) × (length l.present ≡ 42)
      → (o2 ≡ splice o1 42 l.values) × (length l.values ≡ 42)
      → (o3 ≡ splice o2 84 l.sizes) × (length l.sizes ≡ 42)
      → (o4 ≡ splice o3 126 (sets_words l)) × (length (sets_words l) ≡ 68)
      → new ≡ splice o4 194 (root_words l.root)
      → (new ≡ splice old 0 (list_words l)) × (length (list_words l) ≡ 201)
  unfolding list_words
  list_put h a b c d e =
      let flags = map flag_word l.present in
      let n0 : length flags ≡ 42 = length-map l.present flag_word ∙ a.1 in
      let x1 = flags ++ l.values in
      let m1 : length x1 ≡ 84 = length-append flags l.values ∙ omega (arith, n0, b.1) in
      let x2 = x1 ++ l.sizes in
      let m2 : length x2 ≡ 126 = length-append x1 l.sizes ∙ omega (arith, m1, c.1) in
      let x3 = x2 ++ sets_words l in
      let m3 : length x3 ≡ 194 = length-append x2 (sets_words l) ∙ omega (arith, m2, d.1) in
      let t1 = then old 0 flags l.values 42 (omega (arith, n0)) (omega arith) a.0 b.0 in
      let t2 = then old 0 x1 l.sizes 84 (omega (arith, m1)) (omega arith) t1 c.0 in
      let t3 = then old 0 x2 (sets_words l) 126 (omega (arith, m2)) (omega arith) t2 d.0 in
      let t4 = then old 0 x3 (root_words l.root) 194 (omega (arith, m3)) (omega arith) t3 e in
      (t4 ∙ simp append_assoc, simp (length-append, length-map) (omega (arith, a.1, b.1, c.1, d.1, root-length l.root)))

pub image-put : (old : List ℕ) (r : Record) → 410 ≤ length old → {o1 o2 new : List ℕ}
    → o1 ≡ splice old 0 (head_words r)
    → (o2 ≡ splice o1 8 (list_words r.software)) × (length (list_words r.software) ≡ 201)
    → new ≡ splice o2 209 (list_words r.hardware)
    → new ≡ splice old 0 (image_of r)
unfolding image_of
image-put old r h a b c =
    let n0 = head-length r in
    let m1 : length (head_words r ++ list_words r.software) ≡ 209 = length-append (head_words r) (list_words r.software) ∙ omega (arith, n0, b.1) in
    let t1 = then old 0 (head_words r) (list_words r.software) 8 (omega (arith, n0)) (omega arith) a b.0 in
    let t2 = then old 0 (head_words r ++ list_words r.software) (list_words r.hardware) 209 (omega (arith, m1)) (omega arith) t1 c in
    t2 ∙ simp append_assoc
