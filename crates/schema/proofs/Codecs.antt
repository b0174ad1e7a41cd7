-- The schema's codecs: each reader of specs/Decode.antt gives back what its encoding holds, and takes nothing else. One law
-- of a combinator for each. What is good to encode is well-shaped and `small`: lengths and octets in range. Assumes nothing.
use mathlib.Core.Path.{◌≡◌, refl, sym, ◌∙◌}
use mathlib.Core.Bool.{Bool, true, false, ◌&&◌, ◌||◌, and_assoc}
use mathlib.Core.Option.{Option, none, some}
use mathlib.Core.List.{List, [], ◌∷◌, ◌++◌}
use Prim.Native.Nat.{ℕ, ◌+◌, ◌<◌, ◌≤◌}
use native.Mathlib.Omega.{arith}
use lib.ListN.{length}
use lib.Dec.{T, leb, ltb, eqb, leb→le, le→leb, lt→ltb, eqb→eq}
use borrow.Author.Tests.{ne_eqb}
use Rattle.answer.specs.Answer.{Answer, got, guard, bind, pick}
use Rattle.answer.specs.Refusal.{spare_bytes, unknown_version, wrong_element, bad_content}
use Rattle.answer.proofs.Logic.{by_le, and_left, and_right, and_both}
use Rattle.answer.proofs.Answer.{pick_case, guard_yes, guard_case, got_inj, refused-got, bind-got, bind_case}
use Rattle.codec.specs.Octets.{Octets, Taken, taken}
use Rattle.codec.specs.Shortest.{integer_size, integer_octets}
use Rattle.codec.specs.Header.{Identifier, identifier, identifier_good, length_good, element_octets}
use Rattle.codec.specs.Integer.{integer_of, integer_element}
use Rattle.codec.specs.Element.{tagged, exactly, chain_octets, chain_good}
use Rattle.codec.proofs.Shortest.{bits-le, length-integer_octets}
use Rattle.codec.proofs.Octets.{same_taken}
use Rattle.codec.specs.Codec.{Whole, Front, Inside}
use Rattle.codec.proofs.Codec.{regood}
use Rattle.codec.proofs.Header.{same-identifier}
use Rattle.codec.proofs.Element.{element-long, element_laws, tagged_laws, exactly_laws, both_laws, under_laws}
use Rattle.codec.proofs.Integer.{integer_laws}
use Rattle.codec.proofs.Chain.{chain_laws}
use Rattle.schema.specs.Table.{Kind, set, number32, number64, null, octets, root, Row, rows, known_version, held_in, find, level_top, hashed, top32, top64}
use Rattle.schema.specs.Content.{RootWith, Root, ValueWith, Value, num, nul, oct, nums, trust, Field, field, Content, enumerated_element, octets_element, boolean_element, hash_element, root_content, value_element, field_element, list_element, key_description, encode, member_good, after_member, hash_good, value_good, row_good, field_good, after_field, list_good, well_shaped}
use Rattle.schema.specs.Decode.{read_integer, read_enumerated, read_octets, boolean_of, read_boolean, null_of, read_null, read_member, read_set, read_hash, root_from, root_parts, read_root, read_value, row_content, field_content, read_field, read_list, read_version, Eight, eight_from, read_eight, decode_with, as_octets}

-- ---- tests in another order

and_swap : (a b c : Bool) → (a && (b && c)) ≡ (b && (a && c))
and_swap true b c = refl
and_swap false true c = refl
and_swap false false c = refl

same_good : {A : Type 0} {enc : A → List ℕ} {good : A → Bool} {rd : ℕ → List ℕ → Answer (Taken A)} → Front enc good rd → (good' : A → Bool) → ((a : A) → good a ≡ good' a) → Front enc good' rd
same_good laws good' e = regood laws good' (λ a t. rw (e a) at t) (λ a t. rw (e a) t)

-- ---- INTEGER and ENUMERATED: their content is short by itself

pub integer_small : (n : ℕ) → n ≤ top64 → T (length_good (length (integer_octets n)))
unfolding integer_size
integer_small n h = lt→ltb (length (integer_octets n)) 65536 (omega (arith, length-integer_octets n, bits-le n 64 (omega arith)))

number_laws : (i : Identifier) → T (identifier_good i) → (top : ℕ) → top ≤ top64
    → Front (λ n. element_octets i (integer_octets n)) (λ n. leb n top) (tagged wrong_element i (λ p q bs. integer_of top bad_content p bs))
number_laws i g top h =
    regood (tagged_laws wrong_element i g (integer_laws top bad_content)) (λ n. leb n top)
    (λ n t. and_left (leb n top) _ t)
    (λ n t. and_both (leb n top) _ t (integer_small n (omega (arith, leb→le n top t))))

pub read_integer_laws : (top : ℕ) → top ≤ top64 → Front integer_element (λ n. leb n top) (read_integer top)
unfolding integer_element read_integer
read_integer_laws = number_laws (identifier 0 2) tt

pub read_enumerated_laws : (top : ℕ) → top ≤ top64 → Front enumerated_element (λ n. leb n top) (read_enumerated top)
unfolding enumerated_element read_enumerated
read_enumerated_laws = number_laws (identifier 0 10) tt

-- ---- OCTET STRING, BOOLEAN, NULL

abbrev pub are_octets : List ℕ → Bool
are_octets [] = true
are_octets (x ∷ xs) = ltb x 256 && are_octets xs

pub are_octets_lem : (bs : List ℕ) → Octets bs → T (are_octets bs)
are_octets_lem [] o = tt
are_octets_lem (x ∷ bs) o = and_both (ltb x 256) _ (lt→ltb x 256 o.0) (are_octets_lem bs o.1)

abbrev pub octets_small : List ℕ → Bool
octets_small bs = are_octets bs && length_good (length bs)

octets_laws : Whole (λ bs. bs) are_octets (λ p q bs. got bs)
octets_laws = record { back = λ p q a t. refl; sound = λ p q bs a o e. rw (← got_inj e) (are_octets_lem bs o, refl) }

pub read_octets_laws : Front octets_element octets_small (read_octets as_octets)
unfolding octets_element read_octets
read_octets_laws = tagged_laws wrong_element (identifier 0 4) tt octets_laws

or_right : (a b : Bool) → T (a || b) → b ≡ false → T a
or_right true b t e = tt
or_right false b t e = rw e at t

boolean_back : (p : ℕ) (b : Bool) → boolean_of p (pick b (255 ∷ []) (0 ∷ [])) ≡ got b
unfolding boolean_of pick guard
boolean_back p true = refl
boolean_back p false = refl

boolean_sound : (p : ℕ) (bs : List ℕ) (b : Bool) → boolean_of p bs ≡ got b → pick b (255 ∷ []) (0 ∷ []) ≡ bs
unfolding boolean_of pick
boolean_sound p [] b e = absurd (refused-got e)
boolean_sound p (a ∷ []) b e = guard_case _ _ _ _ e λ t e₁. rw (← got_inj e₁) (go (eqb a 255) refl t)
  where
    go : (c : Bool) → eqb a 255 ≡ c → T (eqb a 0 || eqb a 255) → pick c (255 ∷ []) (0 ∷ []) ≡ a ∷ []
    go true q t = rw (eqb→eq a 255 (rw q tt)) refl
    go false q t = rw (eqb→eq a 0 (or_right (eqb a 0) (eqb a 255) t q)) refl
boolean_sound p (a ∷ b ∷ r) c e = absurd (refused-got e)

boolean_laws : Whole (λ b. pick b (255 ∷ []) (0 ∷ [])) (λ b. true) (λ p q bs. boolean_of p bs)
boolean_laws = record { back = λ p q b t. boolean_back p b; sound = λ p q bs b o e. (tt, boolean_sound p bs b e) }

pub boolean_small : (b : Bool) → T (length_good (length {A = ℕ} (pick b (255 ∷ []) (0 ∷ []))))
unfolding pick
boolean_small true = tt
boolean_small false = tt

pub read_boolean_laws : Front boolean_element (λ b. true) read_boolean
unfolding boolean_element read_boolean
read_boolean_laws = regood (tagged_laws wrong_element (identifier 0 1) tt boolean_laws) (λ b. true) (λ b t. tt) (λ b t. boolean_small b)

null_sound : (p : ℕ) (bs : List ℕ) (u : Unit {0}) → null_of p bs ≡ got u → [] ≡ bs
unfolding null_of
null_sound p [] u e = refl
null_sound p (a ∷ r) u e = absurd (refused-got e)

null_laws : Whole (λ u. []) (λ u. true) (λ p q bs. null_of p bs)
unfolding null_of
null_laws = record { back = λ p q u t. refl; sound = λ p q bs u o e. (tt, null_sound p bs u e) }

pub read_null_laws : Front (λ u. element_octets (identifier 0 5) []) (λ u. true) read_null
unfolding read_null
read_null_laws = tagged_laws wrong_element (identifier 0 5) tt null_laws

-- ---- a set

pub read_member_laws : (s : ℕ × ℕ) → Front integer_element (member_good s) (read_member s)
unfolding read_member
read_member_laws s = record {
  back = λ p n r t.
      let u = and_right (ltb s.0 16) _ t in
      guard_yes _ _ _ _ (and_left (ltb s.0 16) _ t)
      ∙ bind-got _ _ _ ((read_integer_laws top32 (omega arith)).back p n r (and_left (leb n top32) _ u))
      ∙ guard_yes _ _ _ _ (and_right (leb n top32) _ u);
  sound = λ p bs w o e.
      guard_case _ _ _ _ e λ few e₁.
      bind_case _ _ e₁ λ v ev e₂.
      guard_case _ _ _ _ e₂ λ above e₃.
      let k = (read_integer_laws top32 (omega arith)).sound p bs v o ev in
      rw (← got_inj e₃) (and_both (ltb s.0 16) _ few (and_both (leb v.val top32) _ k.0 above), k.1);
}

pub integer_long : (n : ℕ) → 0 < length (integer_element n)
unfolding integer_element
integer_long n = element-long (identifier 0 2) (integer_octets n)

abbrev pub set_good : List ℕ → Bool
set_good l = chain_good member_good after_member (0, 0) l

abbrev pub set_small : List ℕ → Bool
set_small l = length_good (length (chain_octets integer_element l))

pub read_set_laws : Front (λ l. element_octets (identifier 1 17) (chain_octets integer_element l)) (λ l. set_good l && set_small l) read_set
unfolding read_set
read_set_laws = tagged_laws wrong_element (identifier 1 17) tt (chain_laws read_member after_member integer_element member_good read_member_laws integer_long (0, 0))

-- ---- the root of trust

abbrev pub hash_small : Option (List ℕ) → Bool
hash_small none = true
hash_small (some bs) = octets_small bs

-- the boot hash where the version has one, else nothing
pub read_hash_laws : (h : Bool) → Front hash_element (λ o. hash_good h o && hash_small o) (read_hash as_octets h)
unfolding read_hash hash_element hash_good
read_hash_laws true = record {
  back = back;
  sound = λ p bs w o e.
      bind_case _ _ e λ v ev e₁.
      let k = read_octets_laws.sound p bs v o ev in
      rw (← got_inj e₁) k;
}
  where
    back : (p : ℕ) (a : Option (List ℕ)) (r : List ℕ) → T (hash_good true a && hash_small a) → read_hash as_octets true p (hash_element a ++ r) ≡ got (taken a (p + length (hash_element a)) r)
    back p none r t = absurd t
    back p (some bs) r t = bind-got _ _ _ (read_octets_laws.back p bs r t)
read_hash_laws false = record { back = back; sound = λ p bs w o e. rw (← got_inj e) (tt, refl) }
  where
    back : (p : ℕ) (a : Option (List ℕ)) (r : List ℕ) → T (hash_good false a && hash_small a) → read_hash as_octets false p (hash_element a ++ r) ≡ got (taken a (p + length (hash_element a)) r)
    back p none r t = same_taken _ _ _ _ r refl (omega arith)
    back p (some bs) r t = absurd t

abbrev pub root_good : {O : Type 0} → Bool → RootWith O → Bool
root_good h r = leb r.state 3 && hash_good h r.hash

abbrev pub root_small : Root → Bool
root_small r = octets_small r.key && (hash_small r.hash && length_good (length (root_content r)))

root_parts_laws : (h : Bool) → Front (λ t. root_content (root_from t)) (λ t. octets_small t.0 && (true && (leb t.1.1.0 3 && (hash_good h t.1.1.1 && hash_small t.1.1.1)))) (root_parts as_octets h)
unfolding root_content root_parts
root_parts_laws h = both_laws read_octets_laws λ k. both_laws read_boolean_laws λ b. both_laws (read_enumerated_laws 3 (omega arith)) λ n. read_hash_laws h

root-parts : (k s g h n : Bool) → ((k && (s && (g && h))) && n) ≡ ((s && g) && (k && (h && n)))
root-parts k s g h n = simp (and_assoc, and_swap)

pub read_root_laws : (h : Bool) → Front (λ t. element_octets (identifier 1 16) (root_content (root_from t))) (λ t. root_good h (root_from t) && root_small (root_from t)) (read_root as_octets h)
unfolding read_root
read_root_laws h =
    same_good (tagged_laws wrong_element (identifier 1 16) tt (exactly_laws wrong_element (root_parts_laws h))) (λ t. root_good h (root_from t) && root_small (root_from t))
    (λ t. root-parts (octets_small t.0) (leb t.1.1.0 3) (hash_good h t.1.1.1) (hash_small t.1.1.1) (length_good (length (root_content (root_from t)))))

-- ---- a value of each kind

-- what a value that is good for a kind is
abbrev pub Shaped : {O : Type 0} → ℕ → Kind → ValueWith O → Type 0
Shaped {O} v number32 x = (n : ℕ) × (num n ≡ x) × T (leb n top32)
Shaped {O} v number64 x = (n : ℕ) × (num n ≡ x) × T (leb n top64)
Shaped {O} v null x = nul ≡ x
Shaped {O} v octets x = (o : O) × (oct o ≡ x)
Shaped {O} v set x = (l : List ℕ) × (nums l ≡ x) × T (set_good l)
Shaped {O} v root x = (r : RootWith O) × (trust r ≡ x) × T (root_good (hashed v) r)

pub shaped : {O : Type 0} (v : ℕ) (k : Kind) (x : ValueWith O) → T (value_good v k x) → Shaped v k x
unfolding value_good pick
shaped v number32 (num n) t = (n, refl, t)
shaped v number32 nul t = absurd t
shaped v number32 (oct bs) t = absurd t
shaped v number32 (nums l) t = absurd t
shaped v number32 (trust r) t = absurd t
shaped v number64 (num n) t = (n, refl, t)
shaped v number64 nul t = absurd t
shaped v number64 (oct bs) t = absurd t
shaped v number64 (nums l) t = absurd t
shaped v number64 (trust r) t = absurd t
shaped v null (num n) t = absurd t
shaped v null nul t = refl
shaped v null (oct bs) t = absurd t
shaped v null (nums l) t = absurd t
shaped v null (trust r) t = absurd t
shaped v octets (num n) t = absurd t
shaped v octets nul t = absurd t
shaped v octets (oct bs) t = (bs, refl)
shaped v octets (nums l) t = absurd t
shaped v octets (trust r) t = absurd t
shaped v set (num n) t = absurd t
shaped v set nul t = absurd t
shaped v set (oct bs) t = absurd t
shaped v set (nums l) t = (l, refl, t)
shaped v set (trust r) t = absurd t
shaped v root (num n) t = absurd t
shaped v root nul t = absurd t
shaped v root (oct bs) t = absurd t
shaped v root (nums l) t = absurd t
shaped v root (trust r) t = (r, refl, t)

abbrev pub value_small : Value → Bool
value_small (num n) = true
value_small nul = true
value_small (oct bs) = octets_small bs
value_small (nums l) = set_small l
value_small (trust r) = root_small r

abbrev pub value_fits : ℕ → Kind → Value → Bool
value_fits v k x = value_good v k x && value_small x

-- a value that fits a kind has that kind's constructor, and is small under it
module _ (v : ℕ) (k : Kind) (x : Value) (t : T (value_fits v k x)) where
  is : Shaped v k x
  is = shaped v k x (and_left (value_good v k x) _ t)

  small_at : (y : Value) → y ≡ x → T (value_small y)
  small_at y e = rw e (and_right (value_good v k x) _ t)

pub read_value_laws : (v : ℕ) (k : Kind) → Whole value_element (value_fits v k) (read_value as_octets v k)
unfolding read_value value_element value_good pick
read_value_laws v number32 =
    under_laws num value_element (value_fits v number32) (exactly_laws wrong_element (read_integer_laws top32 (omega arith))) (λ n. refl)
    (λ n t. and_both (leb n top32) true t tt)
    (λ x t. is v number32 x t)
read_value_laws v number64 =
    under_laws num value_element (value_fits v number64) (exactly_laws wrong_element (read_integer_laws top64 (omega arith))) (λ n. refl)
    (λ n t. and_both (leb n top64) true t tt)
    (λ x t. is v number64 x t)
read_value_laws v null =
    under_laws (λ u. nul) value_element (value_fits v null) (exactly_laws wrong_element read_null_laws) (λ u. refl)
    (λ u t. tt)
    (λ x t. (tt, is v null x t, tt))
read_value_laws v octets =
    under_laws oct value_element (value_fits v octets) (exactly_laws wrong_element read_octets_laws) (λ bs. refl)
    (λ bs t. t)
    (λ x t. let s = is v octets x t in (s.0, s.1, small_at v octets x t (oct s.0) s.1))
read_value_laws v set =
    under_laws nums value_element (value_fits v set) (exactly_laws wrong_element read_set_laws) (λ l. refl)
    (λ l t. t)
    (λ x t. let s = is v set x t in (s.0, s.1, and_both (set_good s.0) _ s.2 (small_at v set x t (nums s.0) s.1)))
read_value_laws v root =
    under_laws (λ t. trust (root_from t)) value_element (value_fits v root) (exactly_laws wrong_element (read_root_laws (hashed v))) (λ t. refl)
    (λ r t. t)
    (λ x t. let s = is v root x t in let r = s.0 in ((r.key, (r.locked, (r.state, r.hash))), s.1, and_both (root_good (hashed v) r) _ s.2 (small_at v root x t (trust r) s.1)))

-- ---- a field

-- each row's number is one that an identifier can have
abbrev below : List Row → Bool
below [] = true
below (r ∷ rs) = ltb r.number 16384 && below rs

find_below : (l : List Row) (v n : ℕ) (x : Value) → T (below l) → T (row_good v (find l n) x) → T (ltb n 16384)
unfolding find row_good pick
find_below [] v n x b t = absurd t
find_below (r ∷ rs) v n x b t = go (eqb r.number n) refl t (λ u. find_below rs v n x (and_right (ltb r.number 16384) _ b) u)
  where
    go : (c : Bool) → eqb r.number n ≡ c → T (row_good v (pick c (some r) (find rs n)) x) → (T (row_good v (find rs n) x) → T (ltb n 16384)) → T (ltb n 16384)
    go true e u f = rw (eqb→eq r.number n (rw e tt)) at (and_left (ltb r.number 16384) _ b)
    go false e u f = f u

rows_below : T (below rows)
unfolding rows
rows_below = tt

row_back : (v low n p q : ℕ) (o : Option Row) (x : Value) → T (leb low n) → T (row_good v o x) → T (value_small x) → row_content as_octets v low n o p q (value_element x) ≡ got (field n x)
unfolding row_content row_good
row_back v low n p q none x l t s = absurd t
row_back v low n p q (some r) x l t s =
    guard_yes _ _ _ _ (and_left (held_in v r) _ t)
    ∙ guard_yes _ _ _ _ l
    ∙ bind-got _ _ _ ((read_value_laws v r.kind).back p q x (and_both (value_good v r.kind x) _ (and_right (held_in v r) _ t) s))

-- what a row's content that was read says
record Held (v low n : ℕ) (o : Option Row) (bs : List ℕ) (f : Field) : Type 0 where
  number : f.number ≡ n
  above : T (leb low n)
  good : T (row_good v o f.value)
  small : T (value_small f.value)
  whole : value_element f.value ≡ bs

row-sound : (v low n p q : ℕ) (o : Option Row) (bs : List ℕ) (f : Field) → Octets bs → row_content as_octets v low n o p q bs ≡ got f → Held v low n o bs f
unfolding row_content row_good
row-sound v low n p q none bs f o e = absurd (refused-got e)
row-sound v low n p q (some r) bs f o e =
    guard_case _ _ _ _ e λ held e₁.
    guard_case _ _ _ _ e₁ λ l e₂.
    bind_case _ _ e₂ λ x ex e₃.
    let k = (read_value_laws v r.kind).sound p q bs x o ex in
    rw (← got_inj e₃) (record {
      number = refl;
      above = l;
      good = and_both (held_in v r) _ held (and_left (value_good v r.kind x) _ k.0);
      small = and_right (value_good v r.kind x) _ k.0;
      whole = k.1;
    })

abbrev pub field_small : Field → Bool
field_small f = value_small f.value && length_good (length (value_element f.value))

field_content_laws : (v low : ℕ) → Inside (λ f. identifier 5 f.number) (λ f. value_element f.value) (λ f. field_good v low f && value_small f.value) (field_content as_octets v low)
unfolding field_content field_good
field_content_laws v low = record {
  back = λ p q f t.
      let g = and_left (field_good v low f) (value_small f.value) t in
      let l = leb low f.number in
      guard_yes _ _ _ _ tt
      ∙ row_back v low f.number p q (find rows f.number) f.value (and_left l _ g) (and_right l _ g) (and_right (field_good v low f) _ t);
  sound = λ i p q bs f o e.
      guard_case _ _ _ _ e λ t e₁.
      let h = row-sound v low i.number p q (find rows i.number) bs f o e₁ in
      (and_both (field_good v low f) _ (rw h.number (and_both (leb low i.number) _ h.above h.good)) h.small, sym (same-identifier _ _ _ _ (eqb→eq i.form 5 t) (sym h.number)), h.whole);
}

field-parts : (g s i n : Bool) → ((g && s) && (i && n)) ≡ (i && (g && (s && n)))
field-parts g s i n = simp (and_assoc, and_swap)

pub field_below : (v low : ℕ) (f : Field) → T (field_good v low f) → T (ltb f.number 16384)
unfolding field_good
field_below v low f t = find_below rows v f.number f.value rows_below (and_right (leb low f.number) _ t)

pub read_field_laws : (v low : ℕ) → Front field_element (λ f. field_good v low f && field_small f) (read_field as_octets v low)
unfolding field_element read_field
read_field_laws v low =
    regood (element_laws wrong_element (field_content_laws v low)) (λ f. field_good v low f && field_small f)
    (λ f t. and_right (ltb f.number 16384) _ (rw (parts f) at t))
    (λ f t. rw (parts f) (and_both (ltb f.number 16384) _ (field_below v low f (and_left (field_good v low f) _ t)) t))
  where
    parts : (f : Field) → ((field_good v low f && value_small f.value) && (ltb f.number 16384 && length_good (length (value_element f.value)))) ≡ (ltb f.number 16384 && (field_good v low f && field_small f))
    parts f = field-parts (field_good v low f) (value_small f.value) (ltb f.number 16384) (length_good (length (value_element f.value)))

pub field-long : (f : Field) → 0 < length (field_element f)
unfolding field_element
field-long f = element-long (identifier 5 f.number) (value_element f.value)

-- ---- a list of fields

abbrev pub fields_small : List Field → Bool
fields_small [] = true
fields_small (f ∷ fs) = field_small f && fields_small fs

abbrev pub list_small : List Field → Bool
list_small fs = fields_small fs && length_good (length (chain_octets field_element fs))

and_pairs : (a b c d : Bool) → ((a && b) && (c && d)) ≡ ((a && c) && (b && d))
and_pairs a b c d = simp (and_assoc, and_swap)

pub fields_parts : (v low : ℕ) (fs : List Field) → chain_good (λ s f. field_good v s f && field_small f) after_field low fs ≡ (chain_good (field_good v) after_field low fs && fields_small fs)
fields_parts v low [] = refl
fields_parts v low (f ∷ fs) = rw (fields_parts v (f.number + 1) fs) (and_pairs (field_good v low f) (field_small f) (chain_good (field_good v) after_field (f.number + 1) fs) (fields_small fs))

pub read_list_laws : (v : ℕ) → Front list_element (λ fs. list_good v fs && list_small fs) (read_list as_octets v)
unfolding list_element read_list list_good
read_list_laws v =
    same_good (tagged_laws wrong_element (identifier 1 16) tt (chain_laws (read_field as_octets v) after_field field_element (λ low f. field_good v low f && field_small f) (read_field_laws v) field-long 0)) (λ fs. list_good v fs && list_small fs)
    (λ fs. rw (fields_parts v 0 fs) (and_assoc (list_good v fs) (fields_small fs) (length_good (length (chain_octets field_element fs)))))

-- ---- the eight

pub version_small : (v : ℕ) → T (known_version v) → v ≤ 300
unfolding known_version
version_small v t =
    by_le v 300 (λ h. h)
    (λ h. absurd (simp (ne_eqb v 1 (omega arith), ne_eqb v 2 (omega arith), ne_eqb v 3 (omega arith), ne_eqb v 4 (omega arith), ne_eqb v 100 (omega arith), ne_eqb v 200 (omega arith), ne_eqb v 300 (omega arith)) at t))

version_laws : Whole integer_octets (λ v. leb v top32 && known_version v) (λ p q bs. bind (integer_of top32 bad_content p bs) (λ v. guard (known_version v) unknown_version p (got v)))
version_laws = record {
  back = λ p q v t.
      bind-got _ _ _ ((integer_laws top32 bad_content).back p q v (and_left (leb v top32) _ t))
      ∙ guard_yes _ _ _ _ (and_right (leb v top32) _ t);
  sound = λ p q bs v o e.
      bind_case _ _ e λ n en e₁.
      guard_case _ _ _ _ e₁ λ known e₂.
      let k = (integer_laws top32 bad_content).sound p q bs n o en in
      rw (← got_inj e₂) (and_both (leb n top32) _ k.0 known, k.1);
}

pub read_version_laws : Front integer_element known_version read_version
unfolding integer_element read_version
read_version_laws =
    regood (tagged_laws wrong_element (identifier 0 2) tt version_laws) known_version
    (λ v t. and_right (leb v top32) _ (and_left (leb v top32 && known_version v) _ t))
    (λ v t.
    let h = version_small v t in
    and_both (leb v top32 && known_version v) _ (and_both (leb v top32) _ (le→leb v top32 (omega arith)) t) (integer_small v (omega arith)))

pub level_small : (v : ℕ) → level_top v ≤ top64
unfolding level_top
level_small v = pick_case {A = ℕ} (leb 3 v) 2 1 refl (λ t e. rw (← e) (omega arith)) (λ t e. rw (← e) (omega arith))

-- what is in range, beside well-shaped, where a content can be encoded
abbrev pub small : Content → Bool
small c =
    octets_small c.challenge
    && (octets_small c.unique
    && (list_small c.software
    && (list_small c.hardware
    && length_good (length (key_description c)))))

abbrev pub good : Content → Bool
good c = well_shaped c && small c

-- the same tests in the order of the eight
abbrev eight_good : Content → Bool
eight_good c =
    known_version c.version
    && (leb c.level (level_top c.version)
    && (leb c.keymint top32
    && (leb c.keymint_level (level_top c.version)
    && (octets_small c.challenge
    && (octets_small c.unique
    && ((list_good c.version c.software && list_small c.software)
    && (list_good c.version c.hardware && list_small c.hardware)))))))

eight-parts : (v l k m c u g s h t n : Bool) → ((v && (l && (k && (m && (c && (u && ((g && s) && (h && t)))))))) && n) ≡ ((v && (l && (k && (m && (g && h))))) && (c && (u && (s && (t && n)))))
eight-parts v l k m c u g s h t n = simp (and_assoc, and_swap)

eight_laws : Front (λ t. key_description (eight_from t)) (λ t. eight_good (eight_from t)) (read_eight as_octets)
unfolding key_description read_eight
eight_laws =
    both_laws read_version_laws λ v.
    both_laws (read_enumerated_laws (level_top v) (level_small v)) λ l.
    both_laws (read_integer_laws top32 (omega arith)) λ k.
    both_laws (read_enumerated_laws (level_top v) (level_small v)) λ m.
    both_laws read_octets_laws λ c.
    both_laws read_octets_laws λ u.
    both_laws (read_list_laws v) λ s. read_list_laws v

pub read_eight_laws : Front (λ t. encode (eight_from t)) (λ t. good (eight_from t)) (tagged wrong_element (identifier 1 16) (λ p q bs. exactly wrong_element (read_eight as_octets) q bs))
unfolding encode well_shaped
read_eight_laws =
    same_good (tagged_laws wrong_element (identifier 1 16) tt (exactly_laws wrong_element eight_laws)) (λ t. good (eight_from t)) (λ t. parts (eight_from t))
  where
    parts : (c : Content) → (eight_good c && length_good (length (key_description c))) ≡ good c
    parts c =
        eight-parts (known_version c.version) (leb c.level (level_top c.version)) (leb c.keymint top32) (leb c.keymint_level (level_top c.version))
        (octets_small c.challenge) (octets_small c.unique) (list_good c.version c.software) (list_small c.software) (list_good c.version c.hardware) (list_small c.hardware)
        (length_good (length (key_description c)))

abbrev parted : Content → Eight (List ℕ)
parted c = (c.version, (c.level, (c.keymint, (c.keymint_level, (c.challenge, (c.unique, (c.software, c.hardware)))))))

-- ---- the whole

-- what is good to encode is read back
pub decode_back : (c : Content) → T (good c) → decode_with as_octets (encode c) ≡ got c
unfolding decode_with
decode_back c t = bind-got _ _ _ ((exactly_laws spare_bytes read_eight_laws).back 0 0 (parted c) t)

-- what is read was encoded, and is good
pub decode_sound : (bs : List ℕ) (c : Content) → Octets bs → decode_with as_octets bs ≡ got c → T (good c) × (encode c ≡ bs)
unfolding decode_with
decode_sound bs c o e = bind_case _ _ e λ t et e₁. rw (← got_inj e₁) ((exactly_laws spare_bytes read_eight_laws).sound 0 0 bs t o et)
