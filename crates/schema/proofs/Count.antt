-- A good content's encoding is one element of at most five levels with `count_of` elements in all (`encode_one`), which are
-- at most 313 (`count-few`): each row's field has at most its kind's weight, and the rows' weights add up. Assumes nothing.
use mathlib.Core.Path.{◌≡◌, refl, ap, ◌∙◌}
use mathlib.Core.Bool.{Bool, true, false, not, ◌&&◌}
use mathlib.Core.Option.{Option, none, some}
use mathlib.Core.List.{List, [], ◌∷◌}
use Prim.Native.Nat.{ℕ, suc, ◌+◌, ◌≤◌}
use native.Mathlib.Omega.{arith}
use lib.ListN.{length}
use lib.Dec.{T, leb, ltb, eqb, leb→le, le→leb, ltb→lt}
use borrow.Author.Tests.{le-leb, lt-leb, eqb-true}
use Rattle.answer.specs.Answer.{got, pick}
use Rattle.answer.proofs.Answer.{bind-got}
use Rattle.answer.proofs.Logic.{and_left, and_right, and_both}
use Rattle.codec.specs.Shortest.{integer_octets}
use Rattle.codec.specs.Header.{Identifier, identifier, holds, identifier_good, element_octets}
use Rattle.codec.specs.Integer.{integer_element}
use Rattle.codec.specs.Element.{chain_octets, chain_good, total}
use Rattle.codec.proofs.Walks.{One, Walks, nothing, single, append, flat, around, chained, top}
use Rattle.schema.specs.Table.{Kind, set, number32, number64, null, octets, root, Row, rows, known_version, held_in, find, level_top, top32, top64}
use Rattle.schema.specs.Content.{Root, Value, Field, Content, enumerated_element, octets_element, boolean_element, hash_element, root_content, value_element, field_element, list_element, key_description, encode, member_good, after_member, value_good, row_good, field_good, after_field, list_good, well_shaped}
use Rattle.schema.specs.Decode.{read_with, read}
use Rattle.schema.specs.Count.{hash_count, value_count, field_count, list_count, count_of}
use Rattle.schema.proofs.Codecs.{integer_small, boolean_small, octets_small, hash_small, root_small, shaped, are_octets, value_small, field_small, fields_small, list_small, small, good, decode_back, version_small, level_small, field_below, fields_parts}
use Rattle.codec.specs.Limits.{extension_bytes, extension_depth, extension_elements}

-- ---- one element each

module _ (d : ℕ) where
  number_one : (i : Identifier) → T (identifier_good i) → T (not (holds i)) → (n : ℕ) → n ≤ top64 → One (suc d) 1 (element_octets i (integer_octets n))
  number_one i g y n h = flat d i (integer_octets n) g (integer_small n h) y

  integer_one : (n : ℕ) → n ≤ top64 → One (suc d) 1 (integer_element n)
  unfolding integer_element holds
  integer_one = number_one (identifier 0 2) tt tt

  enumerated_one : (n : ℕ) → n ≤ top64 → One (suc d) 1 (enumerated_element n)
  unfolding enumerated_element holds
  enumerated_one = number_one (identifier 0 10) tt tt

  octets_one : (bs : List ℕ) → T (octets_small bs) → One (suc d) 1 (octets_element bs)
  unfolding octets_element holds
  octets_one bs t = flat d (identifier 0 4) bs tt (and_right (are_octets bs) _ t) tt

  boolean_one : (b : Bool) → One (suc d) 1 (boolean_element b)
  unfolding boolean_element holds
  boolean_one b = flat d (identifier 0 1) (pick b (255 ∷ []) (0 ∷ [])) tt (boolean_small b) tt

  hash_walks : (o : Option (List ℕ)) → T (hash_small o) → Walks (suc d) (hash_count o) (hash_element o)
  unfolding hash_count hash_element
  hash_walks none t = nothing
  hash_walks (some bs) t = single (octets_one bs t)

  root_walks : (r : Root) → r.state ≤ 3 → T (octets_small r.key) → T (hash_small r.hash) → Walks (suc d) (1 + (1 + (1 + hash_count r.hash))) (root_content r)
  unfolding root_content
  root_walks r h k t = append (single (octets_one r.key k)) (append (single (boolean_one r.locked)) (append (single (enumerated_one r.state (omega arith))) (hash_walks r.hash t)))

recount : {d k l : ℕ} {e : List ℕ} → k ≡ l → One d k e → One d l e
recount q o = rw q at o

module _ (d : ℕ) where
  value_one : (v : ℕ) (k : Kind) (x : Value) → T (value_good v k x) → T (value_small x) → One (suc (suc d)) (value_count x) (value_element x)
  unfolding value_count value_element holds
  value_one v number32 x t s = let u = shaped v number32 x t in rw (← u.1) (integer_one (suc d) u.0 (omega (arith, leb→le u.0 top32 u.2)))
  value_one v number64 x t s = let u = shaped v number64 x t in rw (← u.1) (integer_one (suc d) u.0 (leb→le u.0 top64 u.2))
  value_one v null x t s = rw (← shaped v null x t) (flat (suc d) (identifier 0 5) [] tt tt tt)
  value_one v octets x t s = let u = shaped v octets x t in rw (← u.1) (octets_one (suc d) u.0 (rw (← u.1) at s))
  value_one v set x t s =
      let u = shaped v set x t in
      rw (← u.1)
      (around (suc d) (identifier 1 17) (chain_octets integer_element u.0) tt (rw (← u.1) at s) tt
      (chained integer_element member_good after_member (λ n. 1) (λ m n g. integer_one d n (omega (arith, leb→le n top32 (and_left (leb n top32) _ (and_right (ltb m.0 16) _ g))))) (0, 0) u.0 u.2))
  value_one v root x t s =
      let u = shaped v root x t in
      let r = u.0 in
      let s₁ : T (root_small r) = rw (← u.1) at s in
      let s₂ = and_right (octets_small r.key) _ s₁ in
      rw (← u.1)
      (recount (omega arith)
      (around (suc d) (identifier 1 16) (root_content r) tt (and_right (hash_small r.hash) _ s₂) tt
      (root_walks d r (leb→le r.state 3 (and_left (leb r.state 3) _ u.2)) (and_left (octets_small r.key) _ s₁) (and_left (hash_small r.hash) _ s₂))))

  row_one : (v : ℕ) (o : Option Row) (x : Value) → T (row_good v o x) → T (value_small x) → One (suc (suc d)) (value_count x) (value_element x)
  unfolding row_good
  row_one v none x t s = absurd t
  row_one v (some r) x t s = value_one v r.kind x (and_right (held_in v r) _ t) s

  field_one : (v low : ℕ) (f : Field) → T (field_good v low f && field_small f) → One (suc (suc (suc d))) (field_count f) (field_element f)
  unfolding field_count field_element field_good holds
  field_one v low f t =
      let g = and_left (field_good v low f) _ t in
      let s = and_right (field_good v low f) _ t in
      around (suc (suc d)) (identifier 5 f.number) (value_element f.value) (field_below v low f g) (and_right (value_small f.value) _ s) tt
      (single (row_one v (find rows f.number) f.value (and_right (leb low f.number) _ g) (and_left (value_small f.value) _ s)))

  list_one : (v : ℕ) (fs : List Field) → T (list_good v fs) → T (list_small fs) → One (suc (suc (suc (suc d)))) (list_count fs) (list_element fs)
  unfolding list_count list_element list_good holds
  list_one v fs t s =
      around (suc (suc (suc d))) (identifier 1 16) (chain_octets field_element fs) tt (and_right (fields_small fs) _ s) tt
      (chained field_element (λ low f. field_good v low f && field_small f) after_field field_count (field_one v) 0 fs
      (rw (fields_parts v 0 fs) (and_both (list_good v fs) (fields_small fs) t (and_left (fields_small fs) _ s))))

  eight_walks : (c : Content) → T (well_shaped c) → T (small c)
      → Walks (suc (suc (suc (suc d)))) (1 + (1 + (1 + (1 + (1 + (1 + (list_count c.software + list_count c.hardware))))))) (key_description c)
  unfolding key_description well_shaped
  eight_walks c t s =
      let e : ℕ = suc (suc (suc d)) in
      let v : ℕ = c.version in
      let t₁ = and_right (known_version v) _ t in
      let t₂ = and_right (leb c.level (level_top v)) _ t₁ in
      let t₃ = and_right (leb c.keymint top32) _ t₂ in
      let t₄ = and_right (leb c.keymint_level (level_top v)) _ t₃ in
      let s₁ = and_right (octets_small c.challenge) _ s in
      let s₂ = and_right (octets_small c.unique) _ s₁ in
      let s₃ = and_right (list_small c.software) _ s₂ in
      append (single (integer_one e v (omega (arith, version_small v (and_left (known_version v) _ t)))))
      (append (single (enumerated_one e c.level (omega (arith, level_small v, leb→le c.level (level_top v) (and_left (leb c.level (level_top v)) _ t₁)))))
      (append (single (integer_one e c.keymint (omega (arith, leb→le c.keymint top32 (and_left (leb c.keymint top32) _ t₂)))))
      (append (single (enumerated_one e c.keymint_level (omega (arith, level_small v, leb→le c.keymint_level (level_top v) (and_left (leb c.keymint_level (level_top v)) _ t₃)))))
      (append (single (octets_one e c.challenge (and_left (octets_small c.challenge) _ s)))
      (append (single (octets_one e c.unique (and_left (octets_small c.unique) _ s₁)))
      (append (single (list_one v c.software (and_left (list_good v c.software) _ t₄) (and_left (list_small c.software) _ s₂)))
      (single (list_one v c.hardware (and_right (list_good v c.software) _ t₄) (and_left (list_small c.hardware) _ s₃)))))))))

  -- a good content's encoding is one element, five levels deep at most, with its count
  pub encode_one : (c : Content) → T (good c) → One (suc (suc (suc (suc (suc d))))) (count_of c) (encode c)
  unfolding count_of encode holds
  encode_one c t =
      let s = and_right (well_shaped c) (small c) t in
      let n = and_right (list_small c.hardware) _ (and_right (list_small c.software) _ (and_right (octets_small c.unique) _ (and_right (octets_small c.challenge) _ s))) in
      recount (omega arith) (around (suc (suc (suc (suc d)))) (identifier 1 16) (key_description c) tt n tt (eight_walks c (and_left (well_shaped c) (small c) t) s))

-- ---- how many at most

-- the most elements that a field of a kind has
unfoldable weight : Kind → ℕ
weight set = 1 + (1 + 16)
weight root = 1 + (1 + 4)
weight number32 = 2
weight number64 = 2
weight null = 2
weight octets = 2

unfoldable row_weight : Option Row → ℕ
row_weight none = 0
row_weight (some r) = weight r.kind

-- the weights of the rows whose number is not below `low`
unfoldable weights : List Row → ℕ → ℕ
weights [] low = 0
weights (r ∷ rs) low = pick (leb low r.number) (weight r.kind) 0 + weights rs low

members-few : (s : ℕ × ℕ) (l : List ℕ) → s.0 ≤ 16 → T (chain_good member_good after_member s l) → s.0 + total (λ n. 1) l ≤ 16
members-few s [] h t = omega arith
members-few s (n ∷ l) h t =
    let m = ltb→lt s.0 16 (and_left (ltb s.0 16) _ (and_left (member_good s n) _ t)) in
    omega (arith, members-few (after_member s n) l (omega arith) (and_right (member_good s n) _ t))

hash-few : (o : Option (List ℕ)) → hash_count o ≤ 1
unfolding hash_count
hash-few none = omega arith
hash-few (some bs) = omega arith

value-few : (v : ℕ) (k : Kind) (x : Value) → T (value_good v k x) → suc (value_count x) ≤ weight k
unfolding value_count weight
value-few v number32 x t = let u = shaped v number32 x t in rw (← u.1) (omega arith)
value-few v number64 x t = let u = shaped v number64 x t in rw (← u.1) (omega arith)
value-few v null x t = rw (← shaped v null x t) (omega arith)
value-few v octets x t = let u = shaped v octets x t in rw (← u.1) (omega arith)
value-few v set x t = let u = shaped v set x t in rw (← u.1) (omega (arith, members-few (0, 0) u.0 (omega arith) u.2))
value-few v root x t = let u = shaped v root x t in rw (← u.1) (omega (arith, hash-few u.0.hash))

row-few : (v : ℕ) (o : Option Row) (x : Value) → T (row_good v o x) → suc (value_count x) ≤ row_weight o
unfolding row_good row_weight
row-few v none x t = absurd t
row-few v (some r) x t = value-few v r.kind x (and_right (held_in v r) _ t)

-- fewer rows are above a higher number
pick_fewer : (a b : Bool) (w : ℕ) → (T a → T b) → pick a w 0 ≤ pick b w 0
unfolding pick
pick_fewer true true w f = omega arith
pick_fewer true false w f = absurd (f tt)
pick_fewer false true w f = omega arith
pick_fewer false false w f = omega arith

row_fewer : (x a b w : ℕ) → a ≤ b → pick (leb b x) w 0 ≤ pick (leb a x) w 0
row_fewer x a b w h = pick_fewer (leb b x) (leb a x) w (λ t. le→leb a x (omega (arith, leb→le b x t)))

weights_fewer : (l : List Row) (a b : ℕ) → a ≤ b → weights l b ≤ weights l a
unfolding weights
weights_fewer [] a b h = omega arith
weights_fewer (r ∷ rs) a b h = omega (arith, weights_fewer rs a b h, row_fewer r.number a b (weight r.kind) h)

-- a row's own weight is not in what is above it
weights_step : (l : List Row) (low n : ℕ) → low ≤ n → row_weight (find l n) + weights l (n + 1) ≤ weights l low
unfolding weights row_weight find pick
weights_step [] low n h = omega arith
weights_step (r ∷ rs) low n h = go (eqb r.number n) refl (weights_step rs low n h)
  where
    go : (b : Bool) → eqb r.number n ≡ b → row_weight (find rs n) + weights rs (n + 1) ≤ weights rs low
        → row_weight (pick b (some r) (find rs n)) + (pick (leb (n + 1) r.number) (weight r.kind) 0 + weights rs (n + 1)) ≤ pick (leb low r.number) (weight r.kind) 0 + weights rs low
    go true e ih =
        let q : r.number ≡ n = eqb-true r.number n e in
        rw (lt-leb (n + 1) r.number (omega arith), le-leb low r.number (omega arith)) (omega (arith, weights_fewer rs low (n + 1) (omega arith)))
    go false e ih = omega (arith, row_fewer r.number low (n + 1) (weight r.kind) (omega arith))

fields_few : (v low : ℕ) (fs : List Field) → T (chain_good (field_good v) after_field low fs) → total field_count fs ≤ weights rows low
unfolding field_count field_good
fields_few v low [] t = omega arith
fields_few v low (f ∷ fs) t =
    let n : ℕ = f.number in
    let g = and_left (field_good v low f) _ t in
    omega (
      arith,
      fields_few v (n + 1) fs (and_right (field_good v low f) _ t),
      row-few v (find rows n) f.value (and_right (leb low n) _ g),
      weights_step rows low n (leb→le low n (and_left (leb low n) _ g)),
    )

rows_weigh : weights rows 0 ≡ 152
unfolding rows weights weight pick
rows_weigh = refl

list_few : (v : ℕ) (fs : List Field) → T (list_good v fs) → list_count fs ≤ 153
unfolding list_good list_count
list_few v fs t = omega (arith, fields_few v 0 fs t, rows_weigh)

-- a well-shaped content's encoding has at most 313 elements
pub count-few : (c : Content) → T (well_shaped c) → count_of c ≤ 313
unfolding well_shaped count_of
count-few c t =
    let v : ℕ = c.version in
    let g = and_right (leb c.keymint_level (level_top v)) _ (and_right (leb c.keymint top32) _ (and_right (leb c.level (level_top v)) _ (and_right (known_version v) _ t))) in
    omega (arith, list_few v c.software (and_left (list_good v c.software) _ g), list_few v c.hardware (and_right (list_good v c.software) _ g))

-- ---- the whole: a good content is read back, with its count

pub good_read : (c : Content) → T (good c) → length (encode c) ≤ extension_bytes → read (encode c) ≡ got (c, count_of c)
unfolding read_with
good_read c t h =
    let a = top extension_bytes extension_depth extension_elements (encode_one 3 c t) (omega (arith, count-few c (and_left (well_shaped c) (small c) t))) h in
    bind-got _ _ _ a.2 ∙ bind-got _ _ _ (decode_back c t) ∙ ap (λ (k : ℕ). got (c, k)) a.1
