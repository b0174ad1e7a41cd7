-- Record, image, record: the record of an image's words is the record that they came from, whatever follows them, and
-- they fit. Each part is taken off the front of the words. Assumes nothing.
use mathlib.Core.Path.{◌≡◌, refl, sym, ap, ◌∙◌}
use mathlib.Core.Bool.{Bool, true, false}
use mathlib.Core.List.{List, [], ◌∷◌, ◌++◌, map, append_assoc}
use Prim.Native.Nat.{ℕ, ◌+◌, ◌<◌, ◌≤◌}
use native.Mathlib.Omega.{arith}
use lib.Dec.{leb}
use lib.ListN.{length, get_or, take, drop, length-map, get_or-map, get_or-append}
use lib.Seq.{take_at, drop_at, get_or_at, drop-drop, ext_get_or}
use borrow.Author.Tests.{le-leb, le-ltb, lt-ltb}
use Rattle.answer.specs.Answer.{pick}
use Rattle.answer.proofs.Logic.{by_le}
use Rattle.schema.specs.Table.{top32}
use Rattle.records.specs.Rows.{all_below}
use Rattle.records.proofs.Rowwise.{all_agree, all_fewer}
use Rattle.records.proofs.ContentShaped.{all_of}
use Rattle.records.specs.declared.NumberSet.{NumberSet}
use Rattle.records.specs.declared.RootOfTrust.{RootOfTrust}
use Rattle.records.specs.declared.FieldList.{FieldList}
use Rattle.records.specs.declared.Record.{Record}
use Rattle.image.specs.Image.{flag_word, is_set, low, slots_below, set_words, root_words, sets_words, list_words, head_words, image_of, set_from, root_from_words, list_from, record_of, flag_at, narrow_at, set_fits, root_fits, list_fits, words_fit}
use Rattle.image.specs.Whole.{WholeMembers, WholeList, WholeHead, WholeRecord}
use Rattle.image.specs.Statements.{RecordBack}
use Rattle.image.proofs.Parts.{list_made_lem, record_made_lem}
use Rattle.image.proofs.Puts.{set-length, list_length}
use Rattle.image.proofs.Fits.{all_at_most, list_tests}

-- ---- flags

set-flag : (b : Bool) → is_set (flag_word b) ≡ b
set-flag true = refl
set-flag false = refl

flag_small : (b : Bool) → flag_word b ≤ 1
flag_small true = omega arith
flag_small false = omega arith

pub flags_back : (bs : List Bool) → map is_set (map flag_word bs) ≡ bs
flags_back [] = refl
flags_back (b ∷ bs) = rw (set-flag b, flags_back bs) refl

flags_fit : (bs : List Bool) (rest : List ℕ) → length bs ≡ 42 → all_below (flag_at (map flag_word bs ++ rest)) 42 ≡ true
flags_fit bs rest z =
    all_of (flag_at (map flag_word bs ++ rest)) 42
    (λ k h.
    let n : k < length (map flag_word bs) = omega (arith, length-map bs flag_word) in
    let e : get_or (map flag_word bs ++ rest) k 0 ≡ flag_word (get_or bs k false) = get_or-append (map flag_word bs) rest 0 k n ∙ get_or-map flag_word bs k false in
    le-leb (get_or (map flag_word bs ++ rest) k 0) 1 (rw e (flag_small (get_or bs k false))))

-- ---- a set

-- 32 bits are all of a number that they hold
low_same : (n : ℕ) → n ≤ top32 → low n ≡ n
low_same n h = omega arith

members-back : (l : List ℕ) → WholeMembers l → map low l ≡ l
members-back l w =
    let n : length (map low l) ≡ length l = length-map l low in
    ext_get_or 0 (map low l) l n
    (λ i q. get_or-map low l i 0 ∙ low_same (get_or l i 0) (all_at_most l 16 i top32 (omega (arith, n, w.sized)) w.narrow))

pub slots_few : (n : ℕ) → slots_below n ≤ 16
unfolding pick
slots_few n = by_le 16 n (λ h. rw (le-ltb n 16 h) (omega arith)) (λ h. rw (lt-ltb n 16 h) (omega arith))

pub slots_count : (n : ℕ) → slots_below n ≤ n
unfolding pick
slots_count n = by_le 16 n (λ h. rw (le-ltb n 16 h) h) (λ h. rw (lt-ltb n 16 h) (omega arith))

fits_any : (flag : ℕ) (b : Bool) → b ≡ true → pick (is_set flag) b true ≡ true
unfolding pick
fits_any flag b e = rw e (go (is_set flag))
  where
    go : (f : Bool) → pick f true true ≡ true
    go true = refl
    go false = refl

module _ (g : NumberSet) (rest : List ℕ) (w : WholeMembers g.members) where
  pub set_back : set_from (set_words g ++ rest) ≡ g
  unfolding set_from set_words
  set_back = rw (append_assoc g.members (g.count ∷ []) rest, take_at g.members (g.count ∷ rest) 16 w.sized, members-back g.members w, get_or_at g.members g.count rest 0 16 w.sized) refl

  slots_fit : all_below (narrow_at (set_words g ++ rest)) 16 ≡ true
  unfolding set_words
  slots_fit =
      rw (append_assoc g.members (g.count ∷ []) rest)
      (all_agree (narrow_at (g.members ++ (g.count ∷ rest))) (narrow_at g.members) 16
      (λ k h.
      let n : k < length g.members = omega (arith, w.sized) in
      ap (λ (x : ℕ). leb x top32) (get_or-append g.members (g.count ∷ rest) 0 k n))
      ∙ w.narrow)

  pub set-fits : (flag : ℕ) → set_fits flag (set_words g ++ rest) ≡ true
  unfolding set_fits
  set-fits flag =
      let n = slots_below (get_or (set_words g ++ rest) 16 0) in
      fits_any flag _ (sym (all_fewer (narrow_at (set_words g ++ rest)) n 16 (slots_few (get_or (set_words g ++ rest) 16 0)) slots_fit))

-- ---- a root of trust

module _ (t : RootOfTrust) (rest : List ℕ) where
  pub root-back : t.state ≤ top32 → root_from_words (root_words t ++ rest) ≡ t
  unfolding root_from_words root_words
  root-back h = rw (set-flag t.locked, low_same t.state h, set-flag t.hashed) refl

  pub root-fits : t.state ≤ top32 → (flag : ℕ) → root_fits flag (root_words t ++ rest) ≡ true
  unfolding root_fits root_words
  root-fits h flag = fits_any flag _ (rw (le-leb (flag_word t.locked) 1 (flag_small t.locked), le-leb t.state top32 h, le-leb (flag_word t.hashed) 1 (flag_small t.hashed)) refl)

-- ---- a list

-- past the first n of what is left past m
past : (m n : ℕ) (w xs ys : List ℕ) → drop m w ≡ xs ++ ys → length xs ≡ n → drop (m + n) w ≡ ys
past m n w xs ys e z = sym (drop-drop n m w) ∙ (ap (drop n) e ∙ drop_at xs ys n z)

module _ (l : FieldList) (rest : List ℕ) (w : WholeList l) where
  abbrev words : List ℕ
  words = list_words l ++ rest

  abbrev r7 : List ℕ
  r7 = root_words l.root ++ rest

  abbrev r6 : List ℕ
  r6 = set_words l.mgf ++ r7

  abbrev r5 : List ℕ
  r5 = set_words l.padding ++ r6

  abbrev r4 : List ℕ
  r4 = set_words l.digest ++ r5

  abbrev r3 : List ℕ
  r3 = set_words l.purpose ++ r4

  spread : words ≡ map flag_word l.present ++ (l.values ++ (l.sizes ++ r3))
  unfolding list_words sets_words
  spread = simp append_assoc

  past_flags : drop 42 words ≡ l.values ++ (l.sizes ++ r3)
  past_flags = ap (drop 42) spread ∙ drop_at (map flag_word l.present) (l.values ++ (l.sizes ++ r3)) 42 (length-map l.present flag_word ∙ w.present)

  past_values : drop 84 words ≡ l.sizes ++ r3
  past_values = past 42 42 words l.values (l.sizes ++ r3) past_flags w.values

  past_sizes : drop 126 words ≡ r3
  past_sizes = past 84 42 words l.sizes r3 past_values w.sizes

  past_purpose : drop 143 words ≡ r4
  past_purpose = past 126 17 words (set_words l.purpose) r4 past_sizes (set-length l.purpose w.sets.purpose)

  past_digest : drop 160 words ≡ r5
  past_digest = past 143 17 words (set_words l.digest) r5 past_purpose (set-length l.digest w.sets.digest)

  past_padding : drop 177 words ≡ r6
  past_padding = past 160 17 words (set_words l.padding) r6 past_digest (set-length l.padding w.sets.padding)

  past_mgf : drop 194 words ≡ r7
  past_mgf = past 177 17 words (set_words l.mgf) r7 past_padding (set-length l.mgf w.sets.mgf)

  pub list_back : list_from (list_words l ++ rest) ≡ l
  list_back =
      sym (list_made_lem words
      (sym (ap (λ (x : List ℕ). map is_set (take 42 x)) spread ∙ (ap (map is_set) (take_at (map flag_word l.present) (l.values ++ (l.sizes ++ r3)) 42 (length-map l.present flag_word ∙ w.present)) ∙ flags_back l.present)))
      (sym (ap (take 42) past_flags ∙ take_at l.values (l.sizes ++ r3) 42 w.values))
      (sym (ap (take 42) past_values ∙ take_at l.sizes r3 42 w.sizes))
      (sym (ap set_from past_sizes ∙ set_back l.purpose r4 w.sets.purpose))
      (sym (ap set_from past_purpose ∙ set_back l.digest r5 w.sets.digest))
      (sym (ap set_from past_digest ∙ set_back l.padding r6 w.sets.padding))
      (sym (ap set_from past_padding ∙ set_back l.mgf r7 w.sets.mgf))
      (sym (ap root_from_words past_mgf ∙ root-back l.root rest w.state)))

  pub list_fits_lem : list_fits (list_words l ++ rest) ≡ true
  list_fits_lem =
      rw (
        list_tests words,
        ap (λ (x : List ℕ). all_below (flag_at x) 42) spread ∙ flags_fit l.present (l.values ++ (l.sizes ++ r3)) w.present,
        ap (set_fits (get_or words 0 0)) past_sizes ∙ set-fits l.purpose r4 w.sets.purpose (get_or words 0 0),
        ap (set_fits (get_or words 3 0)) past_purpose ∙ set-fits l.digest r5 w.sets.digest (get_or words 3 0),
        ap (set_fits (get_or words 4 0)) past_digest ∙ set-fits l.padding r6 w.sets.padding (get_or words 4 0),
        ap (set_fits (get_or words 7 0)) past_padding ∙ set-fits l.mgf r7 w.sets.mgf (get_or words 7 0),
        ap (root_fits (get_or words 26 0)) past_mgf ∙ root-fits l.root rest w.state (get_or words 26 0),
      ) refl

-- ---- the record

head-fits : (r : Record) (rest : List ℕ) → WholeHead r → all_below (narrow_at (head_words r ++ rest)) 4 ≡ true
unfolding all_below head_words
head-fits r rest w =
    rw (le-leb r.attestation.version top32 w.version, le-leb r.attestation.level top32 w.level, le-leb r.keymint.version top32 w.keymint, le-leb r.keymint.level top32 w.keymint_level) refl

module _ (r : Record) (rest : List ℕ) (w : WholeRecord r) where
  abbrev image : List ℕ
  image = image_of r ++ rest

  opened : image ≡ head_words r ++ (list_words r.software ++ (list_words r.hardware ++ rest))
  unfolding image_of
  opened = simp append_assoc

  past_head : drop 8 image ≡ list_words r.software ++ (list_words r.hardware ++ rest)
  unfolding head_words
  past_head = ap (drop 8) opened

  past_software : drop 209 image ≡ list_words r.hardware ++ rest
  past_software = past 8 201 image (list_words r.software) (list_words r.hardware ++ rest) past_head (list_length r.software w.software)

  read_back : record_of (image_of r ++ rest) ≡ r
  unfolding record_of head_words
  read_back =
      let h = w.head in
      rw opened
      (sym (record_made_lem (head_words r ++ (list_words r.software ++ (list_words r.hardware ++ rest)))
      (sym (rw (low_same r.attestation.version h.version, low_same r.attestation.level h.level) refl))
      (sym (rw (low_same r.keymint.version h.keymint, low_same r.keymint.level h.keymint_level) refl))
      refl refl
      (sym (list_back r.software (list_words r.hardware ++ rest) w.software))
      (sym (rw opened at (ap list_from past_software) ∙ list_back r.hardware rest w.hardware))))

  pub image-fits : words_fit (image_of r ++ rest) ≡ true
  unfolding words_fit
  image-fits =
      rw (
        ap (λ (x : List ℕ). all_below (narrow_at x) 4) opened ∙ head-fits r (list_words r.software ++ (list_words r.hardware ++ rest)) w.head,
        ap list_fits past_head ∙ list_fits_lem r.software (list_words r.hardware ++ rest) w.software,
        ap list_fits past_software ∙ list_fits_lem r.hardware rest w.hardware,
      ) refl

pub record_back : RecordBack
record_back r rest w = read_back r rest w
