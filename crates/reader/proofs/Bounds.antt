-- What a record's sets and octet parts keep to while it is filled, and that what is absent or spare is zero: an empty list
-- does, and a list with a field more that does. With the content's shape that makes the record well-shaped, its parts inside
-- and it the one that its places make. Assumes nothing.
use mathlib.Core.Path.{◌≡◌, refl, sym}
use mathlib.Core.Bool.{Bool, true, false, ◌&&◌}
use mathlib.Core.List.{List}
use Prim.Native.Nat.{ℕ, ◌+◌, ◌<◌, ◌≤◌}
use native.Mathlib.Omega.{arith}
use mir.Val.{Fits}
use mir.Syntax.{w8}
use lib.Dec.{T, eqb, le→leb}
use lib.ListN.{length, get_or, set, get_or-replicate}
use lib.Seq.{get_or-set_same, get_or-set_other}
use borrow.Author.Tests.{eq-eqb, ne_eqb}
use Rattle.answer.specs.Answer.{Answer, got, refused, pick}
use Rattle.answer.proofs.Logic.{and_both, by_le}
use Rattle.schema.specs.Table as table
use Rattle.schema.specs.Table.{row_at, row_count}
use Rattle.schema.specs.Decode.{read_places}
use Rattle.schema.proofs.Accepted.{read-sound}
use Rattle.records.specs.Content.{octets_at, content_of, places_of}
use Rattle.records.specs.Equal.{present_at}
use Rattle.records.specs.Slots.{SetInSlots}
use Rattle.records.specs.Parts.{part_inside, root_inside, content_inside, row_inside, list_inside, parts_inside}
use Rattle.records.specs.Empty.{empty_list}
use Rattle.records.specs.Clear.{uses_value, uses_size, SetClear, RootClear, RowsSized}
use Rattle.records.specs.Made.{record_made}
use Rattle.records.specs.declared.NumberSet.{NumberSet}
use Rattle.records.specs.declared.RootOfTrust.{RootOfTrust}
use Rattle.records.specs.declared.FieldList.{FieldList}
use Rattle.records.specs.declared.Part.{Part}
use Rattle.records.specs.declared.Record.{Record}
use Rattle.records.proofs.PlacesRead.{places_read}
use Rattle.records.proofs.Made.{record_made_lem}
use Rattle.records.proofs.ContentShaped.{content_shaped, all_of}
use Rattle.contents.specs.Content.{Stored}
use Rattle.contents.specs.Root.{PartsIn}
use Rattle.reader.specs.Lists.{with_field}
use Rattle.reader.specs.Reading.{of_reading, AcceptedSound}
use Rattle.contents.specs.Kept.{ContentIn, ContentKept}
use Rattle.reader.specs.Inside.{ListIn, RecordIn}
use Rattle.contents.specs.declared.head.Head.{Head}
use Rattle.contents.proofs.Kept.{empty-spare, differ}
use Rattle.contents.proofs.Spelled.{octets_all}
use Rattle.reader.proofs.Lists.{stored_sized, empty-sized}

-- ---- one list

either : {A : Type 0} (P : A → Type 0) (b : Bool) (x y : A) → P x → P y → P (pick b x y)
unfolding pick
either P true x y p q = p
either P false x y p q = q

by_eq {ℓ} : {X : Type ℓ} (a b : ℕ) → (a ≡ b → X) → ((a ≡ b → ⊥) → X) → X
by_eq a b f g = by_le a b (λ p. by_le b a (λ q. f (omega arith)) (λ q. g (λ e. absurd (omega arith)))) (λ p. g (λ e. absurd (omega arith)))

-- of a list with a row more: that row is there, and any other as it was
module _ (l : FieldList) (row : ℕ) (c : Stored) (z : RowsSized l) (h : row < row_count) where
  stored_present : present_at (with_field l row c) row ≡ true
  stored_present = get_or-set_same l.present row true false (omega (arith, z.present))

  other_present : (k : ℕ) → (k ≡ row → ⊥) → present_at (with_field l row c) k ≡ present_at l k
  other_present k ne = get_or-set_other l.present row k true false ne

  -- what has row k for its own: what was stored there, else as it was
  stored_own : {A : Type 0} (P : Bool → A → Type 0) (k : ℕ) (x y : A) → P true x → P (present_at l k) y → P (present_at (with_field l row c) k) (pick (eqb row k) x y)
  unfolding pick
  stored_own P k x y p q =
      by_eq row k
      (λ e. rw (eq-eqb row k e, ← e, stored_present) p)
      (λ ne. rw (ne_eqb row k ne, other_present k (λ u. ne (sym u))) q)

  -- a word of row k
  stored_word : (uses : table.Kind → Bool) (words : List ℕ) (w k : ℕ) → length words ≡ row_count → k < row_count → (uses (row_at row).kind ≡ false → w ≡ 0) → ((present_at l k && uses (row_at k).kind) ≡ false → get_or words k 0 ≡ 0)
      → (present_at (with_field l row c) k && uses (row_at k).kind) ≡ false → get_or (set words row w) k 0 ≡ 0
  stored_word uses words w k m b new old e =
      by_eq k row
      (λ q. rw (q, get_or-set_same words row w 0 (omega (arith, m))) (new (rw (q, stored_present) at e)))
      (λ ne. rw (get_or-set_other words row k w 0 ne) (old (rw (other_present k ne) at e)))

module _ (n : ℕ) where
  pub empty_in : ListIn n empty_list
  empty_in = record {
    sized = empty-sized;
    sets = record { purpose = (omega arith, refl); digest = (omega arith, refl); padding = (omega arith, refl); mgf = (omega arith, refl) };
    root = (omega arith, omega arith);
    octet = λ k h e. rw (get_or-replicate {A = ℕ} row_count k 0 0 h) (omega arith);
    clear = record {
      value = λ k h e. get_or-replicate {A = ℕ} row_count k 0 0 h;
      size = λ k h e. get_or-replicate {A = ℕ} row_count k 0 0 h;
      purpose = record { spare = empty-spare; absent = λ e. refl };
      digest = record { spare = empty-spare; absent = λ e. refl };
      padding = record { spare = empty-spare; absent = λ e. refl };
      mgf = record { spare = empty-spare; absent = λ e. refl };
      root = record { hash = λ e. refl; absent = λ e. refl };
    };
  }

  module _ (l : FieldList) (row : ℕ) (c : Stored) (h : row < row_count) (i : ListIn n l) (j : ContentKept (row_at row).kind n c) where
    stored_octet : (k : ℕ) → k < row_count → (row_at k).kind ≡ table.octets → get_or (set l.values row c.value) k 0 + get_or (set l.sizes row c.size) k 0 ≤ n
    stored_octet k b e =
        by_eq k row
        (λ q. rw (q, get_or-set_same l.values row c.value 0 (omega (arith, i.sized.values)), get_or-set_same l.sizes row c.size 0 (omega (arith, i.sized.sizes))) (j.octet (rw (← q, e) refl)))
        (λ ne. rw (get_or-set_other l.values row k c.value 0 ne, get_or-set_other l.sizes row k c.size 0 ne) (i.octet k b e))

    own_set : (k : ℕ) (g : NumberSet) → SetClear (present_at l k) g → SetClear (present_at (with_field l row c) k) (pick (eqb row k) c.set g)
    own_set k g d = stored_own l row c i.sized h SetClear k c.set g (record { spare = j.spare; absent = λ q. absurd (differ q) }) d

    pub stored_in : ListIn n (with_field l row c)
    stored_in = record {
      sized = stored_sized l row c i.sized h;
      sets = record {
        purpose = either SetInSlots (eqb row 0) c.set l.purpose j.set i.sets.purpose;
        digest = either SetInSlots (eqb row 3) c.set l.digest j.set i.sets.digest;
        padding = either SetInSlots (eqb row 4) c.set l.padding j.set i.sets.padding;
        mgf = either SetInSlots (eqb row 7) c.set l.mgf j.set i.sets.mgf;
      };
      root = either (PartsIn n) (eqb row 26) c.root l.root j.root i.root;
      octet = stored_octet;
      clear = record {
        value = λ k b e. stored_word l row c i.sized h uses_value l.values c.value k i.sized.values b j.no_value (i.clear.value k b) e;
        size = λ k b e. stored_word l row c i.sized h uses_size l.sizes c.size k i.sized.sizes b j.no_size (i.clear.size k b) e;
        purpose = own_set 0 l.purpose i.clear.purpose;
        digest = own_set 3 l.digest i.clear.digest;
        padding = own_set 4 l.padding i.clear.padding;
        mgf = own_set 7 l.mgf i.clear.mgf;
        root = stored_own l row c i.sized h RootClear 26 c.root l.root (record { hash = j.hash; absent = λ q. absurd (differ q) }) i.clear.root;
      };
    }

  part-inside : (p : Part) → p.start + p.len ≤ n → T (part_inside p n)
  part-inside p h = le→leb (p.start + p.len) n h

  root-inside : (t : RootOfTrust) → PartsIn n t → T (root_inside t n)
  unfolding root_inside
  root-inside t i = and_both (part_inside t.key n) _ (part-inside t.key i.0) (either T t.hashed (part_inside t.hash n) true (part-inside t.hash i.1) tt)

  is_true : (b : Bool) → T b → b ≡ true
  is_true true t = refl
  is_true false t = absurd t

  content_inside_lem : (d : table.Kind) (a z : ℕ) (t : RootOfTrust) → PartsIn n t → (d ≡ table.octets → a + z ≤ n) → T (content_inside d a z t n)
  unfolding content_inside
  content_inside_lem table.set a z t i o = tt
  content_inside_lem table.number32 a z t i o = tt
  content_inside_lem table.number64 a z t i o = tt
  content_inside_lem table.null a z t i o = tt
  content_inside_lem table.octets a z t i o = le→leb (a + z) n (o refl)
  content_inside_lem table.root a z t i o = root-inside t i

  row_inside_lem : (l : FieldList) → ListIn n l → (k : ℕ) → k < row_count → row_inside l n k ≡ true
  unfolding row_inside
  row_inside_lem l i k h = is_true _ (either T (get_or l.present k false) _ true (content_inside_lem (row_at k).kind (get_or l.values k 0) (get_or l.sizes k 0) l.root i.root (λ e. i.octet k h e)) tt)

  list_inside_lem : (l : FieldList) → ListIn n l → T (list_inside l n)
  unfolding list_inside
  list_inside_lem l i = rw (all_of (row_inside l n) row_count (row_inside_lem l i)) tt

  -- ---- the record

  pub eight_in : (h : Head) (l g : FieldList) → (h.challenge.start + h.challenge.len ≤ n) × (h.unique.start + h.unique.len ≤ n) → ListIn n l → ListIn n g
      → RecordIn n (record { attestation = h.attestation; keymint = h.keymint; challenge = h.challenge; unique = h.unique; software = l; hardware = g })
  eight_in h l g j p q = record { challenge = j.0; unique = j.1; software = p; hardware = q }

  parts-inside : (r : Record) → RecordIn n r → T (parts_inside r n)
  unfolding parts_inside
  parts-inside r i =
      and_both (part_inside r.challenge n) _ (part-inside r.challenge i.challenge)
      (and_both (part_inside r.unique n) _ (part-inside r.unique i.unique)
      (and_both (list_inside r.software n) _ (list_inside_lem r.software i.software) (list_inside_lem r.hardware i.hardware)))

-- what lies within n bytes lies within more
module _ (n m : ℕ) (more : n ≤ m) where
  pub kept_more : (value size : Bool) (c : Stored) → ContentIn value size n c → ContentIn value size m c
  kept_more value size c i = record {
    set = i.set;
    spare = i.spare;
    root = (omega (arith, i.root.0), omega (arith, i.root.1));
    hash = i.hash;
    no_value = i.no_value;
    no_size = i.no_size;
    octet = λ q. omega (arith, i.octet q);
  }

  pub list_more : (l : FieldList) → ListIn n l → ListIn m l
  list_more l i = record {
    sized = i.sized;
    sets = i.sets;
    root = (omega (arith, i.root.0), omega (arith, i.root.1));
    octet = λ k h e. omega (arith, i.octet k h e);
    clear = i.clear;
  }

-- what is accepted is sound
pub accepted-sound : (s : List ℕ) → ((k : ℕ) → Fits w8 (get_or s k 0)) → (o : Answer ℕ) (r : Record) → RecordIn (length s) r → of_reading o r ≡ read_places s → AcceptedSound (length s) o r
accepted-sound s f (got k) r i e =
    (content_shaped r (octets_at s) i.software.sets i.hardware.sets (read-sound s (content_of r s) k (octets_all s f) (places_read r s k (octets_all s f) (sym e))).0, parts-inside (length s) r i)
accepted-sound s f (refused k p) r i e = tt

-- and nothing in it is open
pub kept_made : (n : ℕ) (r : Record) → RecordIn n r → record_made (places_of r) ≡ r
kept_made n r i = record_made_lem r i.software.sized i.software.sets i.software.clear i.hardware.sized i.hardware.sets i.hardware.clear
