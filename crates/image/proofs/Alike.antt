-- Lists that are alike in what is looked at: they are well-shaped alike, their parts lie alike, they say the same and the
-- same octet fields are asked for. Row by row, by kind. Assumes nothing.
use mathlib.Core.Path.{◌≡◌, refl, sym, ap, ◌∙◌}
use mathlib.Core.Bool.{Bool, true, false, ◌&&◌, true≢false}
use mathlib.Core.Option.{none, some}
use mathlib.Core.List.{[], ◌∷◌}
use Prim.Native.Nat.{ℕ, zero, suc, ◌<◌, ◌≤◌}
use native.Mathlib.Omega.{arith}
use lib.ListN.{length, get_or, take}
use lib.Seq.{length-take-le, get_or-take, ext_get_or}
use borrow.Author.Tests.{lt-leb}
use Rattle.answer.specs.Answer.{pick}
use Rattle.answer.proofs.Logic.{by_le}
use Rattle.schema.specs.Table.{Kind, set, number32, number64, null, octets, root, row_at, held_in}
use Rattle.schema.specs.Content.{ValueWith, num, nums, trust, field}
use Rattle.records.proofs.Rowwise.{all_agree}
use Rattle.records.proofs.UpTo.{up_to_agree}
use Rattle.records.specs.declared.Part.{Part}
use Rattle.records.specs.declared.NumberSet.{NumberSet}
use Rattle.records.specs.declared.RootOfTrust.{RootOfTrust}
use Rattle.records.specs.declared.FieldList.{FieldList}
use Rattle.records.specs.declared.Record.{Record}
use Rattle.records.specs.Content.{members_of, root_of, set_at, value_at, field_at, fields_of, content_with}
use Rattle.records.specs.Equal.{present_at}
use Rattle.records.specs.Shape.{member_shaped, set_shaped, root_shaped, value_shaped, row_shaped, list_shaped, well_shaped_record}
use Rattle.records.specs.Parts.{part_inside, root_inside, content_inside, row_inside, list_inside, parts_inside}

pub record AlikeSet (g g' : NumberSet) : Type 0 where
  pub sized : length g.members ≡ 16
  pub sized' : length g'.members ≡ 16
  pub count : g.count ≡ g'.count
  pub members : (i : ℕ) → i < 16 → i < g.count → get_or g.members i 0 ≡ get_or g'.members i 0

pub record AlikeRoot (t t' : RootOfTrust) : Type 0 where
  pub key : t.key ≡ t'.key
  pub locked : t.locked ≡ t'.locked
  pub state : t.state ≡ t'.state
  pub hashed : t.hashed ≡ t'.hashed
  pub hash : t.hashed ≡ true → t.hash ≡ t'.hash

abbrev pub AlikeValue : Kind → FieldList → FieldList → ℕ → ℕ → Type 0
AlikeValue number32 l l' n k = get_or l.values k 0 ≡ get_or l'.values k 0
AlikeValue number64 l l' n k = get_or l.values k 0 ≡ get_or l'.values k 0
AlikeValue null l l' n k = Unit {0}
AlikeValue octets l l' n k = (get_or l.values k 0 ≡ get_or l'.values k 0) × (get_or l.sizes k 0 ≡ get_or l'.sizes k 0)
AlikeValue set l l' n k = AlikeSet (set_at l n) (set_at l' n)
AlikeValue root l l' n k = AlikeRoot l.root l'.root

pub record AlikeRow (l l' : FieldList) (k : ℕ) : Type 0 where
  pub held : present_at l k ≡ present_at l' k
  pub value : present_at l k ≡ true → AlikeValue (row_at k).kind l l' (row_at k).number k

-- ---- what is picked where a flag is set

pub pick_agree : {A : Type 0} (b b' : Bool) (x y z : A) → b ≡ b' → (b ≡ true → x ≡ y) → pick b x z ≡ pick b' y z
unfolding pick
pick_agree true true x y z e f = f refl
pick_agree true false x y z e f = absurd (true≢false e)
pick_agree false true x y z e f = absurd (true≢false (sym e))
pick_agree false false x y z e f = refl

-- ---- sets

module _ (g g' : NumberSet) (a : AlikeSet g g') where
  few-members : g.count ≤ 16 → (i : ℕ) → i < g.count → member_shaped g.members i ≡ member_shaped g'.members i
  few-members h zero q = rw (a.members 0 (omega arith) q) refl
  few-members h (suc i) q = rw (a.members (suc i) (omega arith) q, a.members i (omega arith) (omega arith)) refl

  set-shaped : set_shaped g ≡ set_shaped g'
  unfolding set_shaped
  set-shaped =
      by_le g.count 16
      (λ h. rw (all_agree (member_shaped g.members) (member_shaped g'.members) g.count (few-members h), a.count) refl)
      (λ h. let q : 16 < g'.count = rw (← a.count) h in rw (lt-leb g.count 16 h, lt-leb g'.count 16 q) refl)

  members-same : members_of g ≡ members_of g'
  members-same = by_le g.count 16 few many
    where
      few : g.count ≤ 16 → members_of g ≡ members_of g'
      few h =
          let n : length (take g.count g.members) ≡ g.count = length-take-le g.count g.members (omega (arith, a.sized)) in
          let n' : length (take g.count g'.members) ≡ g.count = length-take-le g.count g'.members (omega (arith, a.sized')) in
          ext_get_or 0 (take g.count g.members) (take g.count g'.members) (n ∙ sym n')
          (λ i q. let z : i < g.count = omega (arith, n) in
          get_or-take g.count g.members i 0 z ∙ (a.members i (omega arith) z ∙ sym (get_or-take g.count g'.members i 0 z)))
          ∙ ap (λ (m : ℕ). take m g'.members) a.count

      many : 16 < g.count → members_of g ≡ members_of g'
      many h =
          let e : g.members ≡ g'.members = ext_get_or 0 g.members g'.members (a.sized ∙ sym a.sized') (λ i q. a.members i (omega (arith, a.sized)) (omega (arith, a.sized))) in
          rw (e, a.count) refl

-- ---- roots of trust

module _ (t t' : RootOfTrust) (a : AlikeRoot t t') where
  root-shaped : (v : ℕ) → root_shaped v t ≡ root_shaped v t'
  unfolding root_shaped
  root-shaped v = rw (a.state, a.hashed) refl

  root-inside : (len : ℕ) → root_inside t len ≡ root_inside t' len
  unfolding root_inside
  root-inside len = rw (a.key, pick_agree t.hashed t'.hashed (part_inside t.hash len) (part_inside t'.hash len) true a.hashed (λ h. ap (λ (p : Part). part_inside p len) (a.hash h))) refl

  root-same : {O : Type 0} (part : ℕ → ℕ → O) → root_of part t ≡ root_of part t'
  root-same part =
      rw (a.key, a.locked, a.state, pick_agree t.hashed t'.hashed (some (part t.hash.start t.hash.len)) (some (part t'.hash.start t'.hash.len)) none a.hashed (λ h. ap (λ (p : Part). some (part p.start p.len)) (a.hash h))) refl

-- ---- a field that is there

module _ (l l' : FieldList) (n k : ℕ) where
  value-shaped : (v : ℕ) (kind : Kind) → AlikeValue kind l l' n k → value_shaped v kind (get_or l.values k 0) (set_at l n) l.root ≡ value_shaped v kind (get_or l'.values k 0) (set_at l' n) l'.root
  unfolding value_shaped
  value-shaped v set a = set-shaped (set_at l n) (set_at l' n) a
  value-shaped v number32 a = rw a refl
  value-shaped v number64 a = rw a refl
  value-shaped v null a = refl
  value-shaped v octets a = refl
  value-shaped v root a = root-shaped l.root l'.root a v

  value-inside : (len : ℕ) (kind : Kind) → AlikeValue kind l l' n k → content_inside kind (get_or l.values k 0) (get_or l.sizes k 0) l.root len ≡ content_inside kind (get_or l'.values k 0) (get_or l'.sizes k 0) l'.root len
  unfolding content_inside
  value-inside len set a = refl
  value-inside len number32 a = refl
  value-inside len number64 a = refl
  value-inside len null a = refl
  value-inside len octets a = rw (a.0, a.1) refl
  value-inside len root a = root-inside l.root l'.root a len

  value_same : {O : Type 0} (part : ℕ → ℕ → O) (kind : Kind) → AlikeValue kind l l' n k → value_at l part n kind k ≡ value_at l' part n kind k
  unfolding value_at
  value_same part set a = ap nums (members-same (set_at l n) (set_at l' n) a)
  value_same part number32 a = ap num a
  value_same part number64 a = ap num a
  value_same part null a = refl
  value_same part octets a = rw (a.0, a.1) refl
  value_same part root a = ap trust (root-same l.root l'.root a part)

-- ---- lists

module _ (l l' : FieldList) (a : (k : ℕ) → k < 42 → AlikeRow l l' k) where
  pub list_shaped_lem : (v : ℕ) → list_shaped v l ≡ list_shaped v l'
  unfolding list_shaped row_shaped
  list_shaped_lem v =
      all_agree (row_shaped v l) (row_shaped v l') 42
      (λ k h. pick_agree (present_at l k) (present_at l' k) _ _ true (a k h).held
      (λ p. ap (λ (b : Bool). held_in v (row_at k) && b) (value-shaped l l' (row_at k).number k v (row_at k).kind ((a k h).value p))))

  pub list_inside_lem : (len : ℕ) → list_inside l len ≡ list_inside l' len
  unfolding list_inside row_inside
  list_inside_lem len =
      all_agree (row_inside l len) (row_inside l' len) 42
      (λ k h. pick_agree (present_at l k) (present_at l' k) _ _ true (a k h).held
      (λ p. value-inside l l' (row_at k).number k len (row_at k).kind ((a k h).value p)))

  pub list_same : {O : Type 0} (part : ℕ → ℕ → O) → fields_of l part ≡ fields_of l' part
  unfolding field_at
  list_same {O} part =
      up_to_agree (field_at l part) (field_at l' part) 42
      (λ k h. pick_agree (present_at l k) (present_at l' k) _ _ [] (a k h).held
      (λ p. ap (λ (v : ValueWith O). field (row_at k).number v ∷ []) (value_same l l' (row_at k).number k part (row_at k).kind ((a k h).value p))))

-- ---- records

pub record AlikeRecord (r r' : Record) : Type 0 where
  pub attestation : r.attestation ≡ r'.attestation
  pub keymint : r.keymint ≡ r'.keymint
  pub challenge : r.challenge ≡ r'.challenge
  pub unique : r.unique ≡ r'.unique
  pub software : (k : ℕ) → k < 42 → AlikeRow r.software r'.software k
  pub hardware : (k : ℕ) → k < 42 → AlikeRow r.hardware r'.hardware k

module _ (r r' : Record) (a : AlikeRecord r r') where
  pub record_shaped : well_shaped_record r ≡ well_shaped_record r'
  unfolding well_shaped_record
  record_shaped =
      rw (a.attestation, a.keymint, list_shaped_lem r.software r'.software a.software r'.attestation.version, list_shaped_lem r.hardware r'.hardware a.hardware r'.attestation.version) refl

  pub record_inside : (len : ℕ) → parts_inside r len ≡ parts_inside r' len
  unfolding parts_inside
  record_inside len = rw (a.challenge, a.unique, list_inside_lem r.software r'.software a.software len, list_inside_lem r.hardware r'.hardware a.hardware len) refl

  pub record_same : {O : Type 0} (part : ℕ → ℕ → O) → content_with part r ≡ content_with part r'
  record_same part = rw (a.attestation, a.keymint, a.challenge, a.unique, list_same r.software r'.software a.software part, list_same r.hardware r'.hardware a.hardware part) refl
