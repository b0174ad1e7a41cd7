-- What is not looked at does not matter: images that agree have words that fit alike, and records that are alike. Each part
-- of a list is taken from its words. Assumes nothing.
use mathlib.Core.Path.{◌≡◌, refl, sym, ap, ◌∙◌}
use mathlib.Core.Bool.{Bool, true, false}
use mathlib.Core.List.{List}
use Prim.Native.Nat.{ℕ, ◌+◌, ◌<◌, ◌≤◌}
use native.Mathlib.Omega.{arith}
use lib.ListN.{length, get_or, take, drop, length-map, length-drop, get_or-map}
use lib.Seq.{length-take-le, get_or-take, get_or-drop}
use lib.Dec.{eqb, leb, eqb→eq}
use Rattle.answer.specs.Answer.{pick}
use Rattle.schema.specs.Table.{Kind, set, number32, number64, null, octets, root, rows, row_at, top32}
use Rattle.records.specs.Rows.{all_below}
use Rattle.schema.specs.Content.{place_at}
use Rattle.records.proofs.Rowwise.{all_agree}
use Rattle.records.specs.Content.{set_at}
use Rattle.records.specs.Equal.{present_at}
use Rattle.image.specs.Image.{is_set, low, set_from, root_from_words, list_from, record_of, narrow_at, flag_at, slots_below, set_fits, root_fits, list_fits, words_fit}
use Rattle.image.specs.Agree.{SameSet, SameRoot, set_place, SameValue, SameRowWords, Agree}
use Rattle.image.specs.Statements.{NotLookedAt}
use Rattle.image.proofs.Fits.{list_tests}
use Rattle.image.proofs.RoundTrip.{slots_few, slots_count}
use Rattle.image.proofs.Alike.{AlikeSet, AlikeRoot, AlikeValue, AlikeRow, AlikeRecord, pick_agree, record_shaped, record_inside, record_same}

is_one : (n : ℕ) → is_set n ≡ true → n ≡ 1
is_one n e = eqb→eq n 1 (rw e tt)

-- ---- sets and roots of trust

module _ (u u' : List ℕ) where
  set_alike : 17 ≤ length u → 17 ≤ length u' → SameSet u u' → AlikeSet (set_from u) (set_from u')
  unfolding set_from
  set_alike h h' s = record {
    sized = length-map (take 16 u) low ∙ length-take-le 16 u (omega arith);
    sized' = length-map (take 16 u') low ∙ length-take-le 16 u' (omega arith);
    count = s.count;
    members = λ i q c.
        get_or-map low (take 16 u) i 0
        ∙ (ap low (get_or-take 16 u i 0 q ∙ (s.members i q c ∙ sym (get_or-take 16 u' i 0 q)))
        ∙ sym (get_or-map low (take 16 u') i 0));
  }

  root_alike : SameRoot u u' → AlikeRoot (root_from_words u) (root_from_words u')
  unfolding root_from_words
  root_alike s = record {
    key = rw (s.words 0 (omega arith), s.words 1 (omega arith)) refl;
    locked = ap is_set (s.words 2 (omega arith));
    state = ap low (s.words 3 (omega arith));
    hashed = ap is_set (s.words 4 (omega arith));
    hash = λ h. let e = s.hash (is_one (get_or u 4 0) h) in rw (e.0, e.1) refl;
  }

  slots_same : SameSet u u' → all_below (narrow_at u) (slots_below (get_or u 16 0)) ≡ all_below (narrow_at u') (slots_below (get_or u' 16 0))
  slots_same s =
      let n = slots_below (get_or u 16 0) in
      all_agree (narrow_at u) (narrow_at u') n
      (λ i h. ap (λ (x : ℕ). leb x top32) (s.members i (omega (arith, slots_few (get_or u 16 0))) (omega (arith, slots_count (get_or u 16 0)))))
      ∙ ap (λ (m : ℕ). all_below (narrow_at u') (slots_below m)) s.count

  set-fits-same : (f f' : ℕ) → f ≡ f' → (f ≡ 1 → SameSet u u') → set_fits f u ≡ set_fits f' u'
  unfolding set_fits
  set-fits-same f f' e s = pick_agree (is_set f) (is_set f') _ _ true (ap is_set e) (λ h. slots_same (s (is_one f h)))

  root-fits-same : (f f' : ℕ) → f ≡ f' → (f ≡ 1 → SameRoot u u') → root_fits f u ≡ root_fits f' u'
  unfolding root_fits
  root-fits-same f f' e s =
      pick_agree (is_set f) (is_set f') _ _ true (ap is_set e)
      (λ h. let t = s (is_one f h) in rw (t.words 2 (omega arith), t.words 3 (omega arith), t.words 4 (omega arith)) refl)

-- ---- the parts of a list, word by word

module _ (u : List ℕ) where
  present_at_lem : (k : ℕ) → k < 42 → present_at (list_from u) k ≡ is_set (get_or u k 0)
  unfolding list_from
  present_at_lem k h = get_or-map is_set (take 42 u) k 0 ∙ ap is_set (get_or-take 42 u k 0 h)

  value_at_lem : (k : ℕ) → k < 42 → get_or (list_from u).values k 0 ≡ get_or u (42 + k) 0
  unfolding list_from
  value_at_lem k h = get_or-take 42 (drop 42 u) k 0 h ∙ get_or-drop 42 u k 0

  size_at : (k : ℕ) → k < 42 → get_or (list_from u).sizes k 0 ≡ get_or u (84 + k) 0
  unfolding list_from
  size_at k h = get_or-take 42 (drop 84 u) k 0 h ∙ get_or-drop 84 u k 0

  set_at_lem : (n : ℕ) → set_at (list_from u) n ≡ set_from (drop (set_place n) u)
  unfolding list_from pick
  set_at_lem n = go (eqb n 1) (eqb n 5) (eqb n 6)
    where
      go : (a b c : Bool) → pick a (set_from (drop 126 u)) (pick b (set_from (drop 143 u)) (pick c (set_from (drop 160 u)) (set_from (drop 177 u)))) ≡ set_from (drop (pick a 126 (pick b 143 (pick c 160 177))) u)
      go true b c = refl
      go false true c = refl
      go false false true = refl
      go false false false = refl

  root_at : (list_from u).root ≡ root_from_words (drop 194 u)
  unfolding list_from
  root_at = refl

set_room : (n : ℕ) → set_place n + 17 ≤ 201
unfolding pick
set_room n = go (eqb n 1) (eqb n 5) (eqb n 6)
  where
    go : (a b c : Bool) → pick a 126 (pick b 143 (pick c 160 177)) + 17 ≤ 201
    go true b c = omega arith
    go false true c = omega arith
    go false false true = omega arith
    go false false false = omega arith

module _ (w w' : List ℕ) (z : 201 ≤ length w) (z' : 201 ≤ length w') where
  value_alike : (n k : ℕ) → k < 42 → (kind : Kind) → SameValue kind w w' n k → AlikeValue kind (list_from w) (list_from w') n k
  value_alike n k h number32 s = value_at_lem w k h ∙ (s ∙ sym (value_at_lem w' k h))
  value_alike n k h number64 s = value_at_lem w k h ∙ (s ∙ sym (value_at_lem w' k h))
  value_alike n k h null s = tt
  value_alike n k h octets s = (value_at_lem w k h ∙ (s.0 ∙ sym (value_at_lem w' k h)), size_at w k h ∙ (s.1 ∙ sym (size_at w' k h)))
  value_alike n k h set s =
      let r = set_room n in
      rw (set_at_lem w n, set_at_lem w' n) (set_alike (drop (set_place n) w) (drop (set_place n) w') (omega (arith, length-drop (set_place n) w)) (omega (arith, length-drop (set_place n) w')) s)
  value_alike n k h root s = rw (root_at w, root_at w') (root_alike (drop 194 w) (drop 194 w') s)

  row_alike : (k : ℕ) → k < 42 → SameRowWords w w' k → AlikeRow (list_from w) (list_from w') k
  row_alike k h s = record {
    held = present_at_lem w k h ∙ (ap is_set s.flag ∙ sym (present_at_lem w' k h));
    value = λ p. value_alike (row_at k).number k h (row_at k).kind (s.value (is_one (get_or w k 0) (sym (present_at_lem w k h) ∙ p)));
  }

-- the rows of 1, 5, 6, 203 and 704
module _ (w w' : List ℕ) (s : (k : ℕ) → k < 42 → SameRowWords w w' k) where
  list_fits-same : list_fits w ≡ list_fits w'
  unfolding rows pick
  list_fits-same =
      list_tests w
      ∙ (rw (
        all_agree (flag_at w) (flag_at w') 42 (λ k h. ap (λ (x : ℕ). leb x 1) (s k h).flag),
        set-fits-same (drop 126 w) (drop 126 w') (get_or w 0 0) (get_or w' 0 0) (s 0 (omega arith)).flag (s 0 (omega arith)).value,
        set-fits-same (drop 143 w) (drop 143 w') (get_or w 3 0) (get_or w' 3 0) (s 3 (omega arith)).flag (s 3 (omega arith)).value,
        set-fits-same (drop 160 w) (drop 160 w') (get_or w 4 0) (get_or w' 4 0) (s 4 (omega arith)).flag (s 4 (omega arith)).value,
        set-fits-same (drop 177 w) (drop 177 w') (get_or w 7 0) (get_or w' 7 0) (s 7 (omega arith)).flag (s 7 (omega arith)).value,
        root-fits-same (drop 194 w) (drop 194 w') (get_or w 26 0) (get_or w' 26 0) (s 26 (omega arith)).flag (s 26 (omega arith)).value,
      ) refl
      ∙ sym (list_tests w'))

-- ---- the whole

module _ (w w' : List ℕ) (a : Agree w w') where
  words_fit_same : words_fit w ≡ words_fit w'
  unfolding words_fit
  words_fit_same =
      rw (
        all_agree (narrow_at w) (narrow_at w') 4 (λ k h. ap (λ (x : ℕ). leb x top32) (a.head k (omega arith))),
        list_fits-same (drop 8 w) (drop 8 w') a.software,
        list_fits-same (drop 209 w) (drop 209 w') a.hardware,
      ) refl

  record_alike : AlikeRecord (record_of w) (record_of w')
  unfolding record_of
  record_alike =
      let n = length-drop 8 w in
      let n' = length-drop 8 w' in
      let m = length-drop 209 w in
      let m' = length-drop 209 w' in
      let h = a.long in
      let h' = a.long' in
      record {
        attestation = rw (a.head 0 (omega arith), a.head 1 (omega arith)) refl;
        keymint = rw (a.head 2 (omega arith), a.head 3 (omega arith)) refl;
        challenge = rw (a.head 4 (omega arith), a.head 5 (omega arith)) refl;
        unique = rw (a.head 6 (omega arith), a.head 7 (omega arith)) refl;
        software = λ k q. row_alike (drop 8 w) (drop 8 w') (omega (arith, h, n)) (omega (arith, h', n')) k q (a.software k q);
        hardware = λ k q. row_alike (drop 209 w) (drop 209 w') (omega (arith, h, m)) (omega (arith, h', m')) k q (a.hardware k q);
      }

pub not_looked_at : NotLookedAt
not_looked_at w w' a =
    let r = record_alike w w' a in
    record {
      fits = words_fit_same w w' a;
      shaped = record_shaped (record_of w) (record_of w') r;
      inside = record_inside (record_of w) (record_of w') r;
      says = record_same (record_of w) (record_of w') r place_at;
    }
