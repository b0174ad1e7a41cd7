-- Sizes of encodings in plain variables: the size of the whole is the capped sum of those of its pieces, since a sum that
-- is cut at 8,193 on the way is the sum cut at the end. Assumes nothing.
use mathlib.Core.Path.{◌≡◌, refl, sym, ap, ◌∙◌}
use mathlib.Core.Bool.{Bool, true, false}
use mathlib.Core.Logic.{◌⊎◌, inl, inr}
use mathlib.Core.List.{List, [], ◌∷◌, ◌++◌, append_assoc, append-nil}
use Prim.Native.Nat.{ℕ, ◌+◌, ◌<◌, ◌≤◌}
use native.Mathlib.Omega.{arith}
use native.Mathlib.Numerals.{add-one}
use native.Mathlib.Nat.{add_comm}
use lib.ListN.{length, get_or, length-append}
use denote.Enum.Declared.{tag_of}
use types.Run.{OneOf}
use Rattle.answer.specs.Answer.{pick}
use Rattle.answer.proofs.Logic.{by_le}
use Rattle.codec.specs.Shortest.{integer_size, integer_octets, length_octets}
use Rattle.codec.specs.Integer.{integer_element}
use Rattle.codec.specs.Header.{identifier, identifier_octets, header_octets, element_octets}
use Rattle.codec.specs.Element.{chain_octets}
use Rattle.codec.proofs.Shortest.{length-integer_octets, length-short}
use Rattle.codec.proofs.Header.{one_octet, two_octets, three_octets}
use Rattle.schema.specs.declared.Kind.{Kind}
use Rattle.schema.specs.declared.Row.{Row}
use Rattle.schema.specs.contracts.Kind as kinds
use Rattle.schema.specs.Table.{row_at, row_count}
use Rattle.schema.specs.Rows.{of_kind, of_row}
use Rattle.schema.specs.Content.{nul, nums, trust, field, enumerated_element, octets_element, boolean_element, hash_element, root_content, value_element, field_element, list_element, key_description, encode}
use Rattle.records.specs.declared.NumberSet.{NumberSet}
use Rattle.records.specs.declared.RootOfTrust.{RootOfTrust}
use Rattle.records.specs.declared.FieldList.{FieldList}
use Rattle.records.specs.declared.Record.{Record}
use Rattle.records.specs.Content.{octets_at, part_of, members_of, root_of, set_at, value_at, field_at, up_to, fields_of, content_of}
use Rattle.sizes.specs.Plain.{plain_value}
use Rattle.sizes.specs.Size.{past_limit, capped, element_size, Sized, security_octets, head_octets, head_elements}
use Rattle.codec.specs.Limits.{extension_bytes}

-- ---- pieces

capped_all : (n : ℕ) → past_limit ≤ n → capped n ≡ past_limit
capped_all n h = omega arith

capped_left : (x y : ℕ) → capped (capped x + y) ≡ capped (x + y)
capped_left x y = omega arith

-- what is cut on the way is as good as what is not
capped_sum : (x y : ℕ) → capped (capped x + capped y) ≡ capped (x + y)
capped_sum x y =
    capped_left x (capped y)
    ∙ ap capped (add_comm x (capped y))
    ∙ capped_left y x
    ∙ ap capped (add_comm y x)

pub capped_same : (b x : ℕ) → x ≤ extension_bytes → capped b ≡ capped x → b ≡ x
capped_same b x h e = omega arith

capped_over : (b x : ℕ) → extension_bytes < x → capped b ≡ capped x → past_limit ≤ b
capped_over b x h e = omega arith

-- what a size that was found says
pub sized_over : (xs : List ℕ) (n : ℕ) → Sized xs n → extension_bytes < n → extension_bytes < length xs
sized_over xs n e h = omega arith

pub sized_within : (xs : List ℕ) (n : ℕ) → Sized xs n → n ≤ extension_bytes → n ≡ length xs
sized_within xs n e h = omega arith

-- one piece after another
pub joined : (xs ys : List ℕ) (a b r : ℕ) → Sized xs a → Sized ys b → r ≡ capped (a + b) → Sized (xs ++ ys) r
joined xs ys a b r e f q = record { is = q ∙ rw (e.is, f.is, length-append xs ys) (capped_sum (length xs) (length ys)) }

identifier-length : (f n : ℕ) → length (identifier_octets (identifier f n)) ≡ length (identifier_octets (identifier 0 n))
identifier-length f n =
    by_le 31 n
    (λ l. by_le 128 n
    (λ m. rw (three_octets (identifier f n) m, three_octets (identifier 0 n) m) refl)
    (λ m. rw (two_octets (identifier f n) l m, two_octets (identifier 0 n) l m) refl))
    (λ l. rw (one_octet (identifier f n) l, one_octet (identifier 0 n) l) refl)

element-length : (f n : ℕ) (xs : List ℕ) → length (element_octets (identifier f n) xs) ≡ length (identifier_octets (identifier 0 n)) + length (length_octets (length xs)) + length xs
unfolding element_octets header_octets
element-length f n xs = rw (length-append, length-append, identifier-length f n) refl

-- an element, its content counted or known
pub element-sized : (f n b r : ℕ) (xs : List ℕ) → capped b ≡ capped (length xs) → r ≡ element_size n b → Sized (element_octets (identifier f n) xs) r
unfolding element_size
element-sized f n b r xs e q =
    by_le (length xs) extension_bytes
    (λ h. record { is = rw (element-length f n xs, ← capped_same b (length xs) h e) q })
    (λ h. let o = capped_over b (length xs) h e in
    record { is = q ∙ capped_all _ (omega arith) ∙ rw (element-length f n xs) (sym (capped_all _ (omega arith))) })

pub capped_twice : (x : ℕ) → capped (capped x) ≡ capped x
capped_twice x = omega arith

pub around : (f n b r : ℕ) (xs : List ℕ) → Sized xs b → r ≡ element_size n b → Sized (element_octets (identifier f n) xs) r
around f n b r xs e q = element-sized f n b r xs (rw e.is (capped_twice (length xs))) q

pub element-size : (n b i l r : ℕ) → ((form : ℕ) → i ≡ length (identifier_octets (identifier form n))) → l ≡ length (length_octets b) → r ≡ capped (i + l + b) → r ≡ element_size n b
unfolding element_size
element-size n b i l r e f q = rw (← e 0, ← f) q

short-length : (f n : ℕ) (xs : List ℕ) → n < 31 → length xs < 128 → length (element_octets (identifier f n) xs) ≡ 2 + length xs
short-length f n xs h g = element-length f n xs ∙ rw (one_octet (identifier 0 n) h, length-short (length xs) g) refl

pub integer_sized : (x m : ℕ) → m ≡ integer_size x → m ≤ 9 → Sized (integer_element x) (2 + m)
unfolding integer_element
integer_sized x m e h =
    let l = length-integer_octets x in
    record { is = rw (short-length 0 2 (integer_octets x) (omega arith) (omega arith), l, ← e) (omega arith) }

pub enumerated_sized : (x m : ℕ) → m ≡ integer_size x → m ≤ 9 → Sized (enumerated_element x) (2 + m)
unfolding enumerated_element
enumerated_sized x m e h =
    let l = length-integer_octets x in
    record { is = rw (short-length 0 10 (integer_octets x) (omega arith) (omega arith), l, ← e) (omega arith) }

pub octets-sized : (bs xs : List ℕ) (r : ℕ) → bs ≡ xs → r ≡ element_size 4 (length bs) → Sized (octets_element xs) r
unfolding octets_element
octets-sized bs xs r e q = rw (← e) (element-sized 0 4 (length bs) r bs refl q)

-- ---- chains

pub chain-append : {A : Type 0} (enc : A → List ℕ) (xs ys : List A) → chain_octets enc (xs ++ ys) ≡ chain_octets enc xs ++ chain_octets enc ys
chain-append enc [] ys = refl
chain-append enc (x ∷ xs) ys = rw (chain-append enc xs ys) (sym (append_assoc (enc x) (chain_octets enc xs) (chain_octets enc ys)))

pub nothing : Sized [] 0
nothing = record { is = refl }

pub chain_more : {A : Type 0} (enc : A → List ℕ) (xs : List A) (a : A) (n z r : ℕ) → Sized (chain_octets enc xs) n → Sized (enc a) z → r ≡ capped (n + z) → Sized (chain_octets enc (xs ++ (a ∷ []))) r
chain_more enc xs a n z r e f q = rw (chain-append enc xs (a ∷ []), append-nil) (joined (chain_octets enc xs) (enc a) n z r e f q)

pub set-sized : (ms : List ℕ) (m r : ℕ) → Sized (chain_octets integer_element ms) m → r ≡ element_size 17 m → Sized (value_element (nums ms)) r
unfolding value_element
set-sized ms m r e q = around 1 17 m r (chain_octets integer_element ms) e q

-- ---- the root of trust

boolean_sized : (b : Bool) → Sized (boolean_element b) 3
unfolding boolean_element pick
boolean_sized true = record { is = rw (short-length 0 1 (255 ∷ []) (omega arith) (omega arith)) refl }
boolean_sized false = record { is = rw (short-length 0 1 (0 ∷ []) (omega arith) (omega arith)) refl }

module _ (s : List ℕ) (t : RootOfTrust) (k z state locked fixed : ℕ) (d : state ≡ t.state) (e : Sized (octets_element (part_of s t.key)) k) (q : locked ≡ capped (k + 3))
    (f : Sized (enumerated_element state) z) (q₂ : fixed ≡ capped (locked + z)) where
  root_fixed : Sized ((octets_element (part_of s t.key) ++ boolean_element t.locked) ++ enumerated_element t.state) fixed
  root_fixed =
      joined (octets_element (part_of s t.key) ++ boolean_element t.locked) (enumerated_element t.state) locked z fixed
      (joined (octets_element (part_of s t.key)) (boolean_element t.locked) k 3 locked e (boolean_sized t.locked) q) (rw d at f) q₂

  pub root-hashed : (m r : ℕ) → t.hashed ≡ true → Sized (octets_element (part_of s t.hash)) m → r ≡ capped (fixed + m) → Sized (root_content (root_of (octets_at s) t)) r
  unfolding root_content hash_element pick
  root-hashed m r h g q₃ = rw h (simp append_assoc at (joined _ (octets_element (part_of s t.hash)) fixed m r root_fixed g q₃))

  pub root_plain : t.hashed ≡ false → Sized (root_content (root_of (octets_at s) t)) fixed
  unfolding root_content hash_element pick
  root_plain h = rw (h, append-nil) (simp append_assoc at root_fixed)

pub root-sized : (s : List ℕ) (t : RootOfTrust) (m r : ℕ) → Sized (root_content (root_of (octets_at s) t)) m → r ≡ element_size 16 m → Sized (value_element (trust (root_of (octets_at s) t))) r
unfolding value_element
root-sized s t m r e q = around 1 16 m r (root_content (root_of (octets_at s) t)) e q

-- ---- a value that is neither a set nor 704, by its kind

-- all kinds but those of numbers and octets stand as NULL
pub plain_null : (s : List ℕ) (kind : Kind) (value size : ℕ) → OneOf (0 ∷ 3 ∷ 5 ∷ []) (tag_of kinds.the_type kind) → plain_value s (of_kind kind) value size ≡ nul
unfolding plain_value
plain_null s Kind.Set value size o = refl
plain_null s Kind.Number32 value size (inl e) = absurd (omega arith)
plain_null s Kind.Number32 value size (inr (inl e)) = absurd (omega arith)
plain_null s Kind.Number32 value size (inr (inr e)) = absurd (omega arith)
plain_null s Kind.Number64 value size (inl e) = absurd (omega arith)
plain_null s Kind.Number64 value size (inr (inl e)) = absurd (omega arith)
plain_null s Kind.Number64 value size (inr (inr e)) = absurd (omega arith)
plain_null s Kind.Null value size o = refl
plain_null s Kind.Octets value size (inl e) = absurd (omega arith)
plain_null s Kind.Octets value size (inr (inl e)) = absurd (omega arith)
plain_null s Kind.Octets value size (inr (inr e)) = absurd (omega arith)
plain_null s Kind.Root value size o = refl

module _ (s : List ℕ) (kind : Kind) (value size r : ℕ) where
  abbrev Valued : Type 0
  Valued = Sized (value_element (plain_value s (of_kind kind) value size)) r

  pub value_number : (kind ≡ Kind.Number32) ⊎ (kind ≡ Kind.Number64) → Sized (integer_element value) r → Valued
  unfolding value_element plain_value
  value_number (inl e) f = rw e f
  value_number (inr e) f = rw e f

  pub value-octets : kind ≡ Kind.Octets → Sized (octets_element (octets_at s value size)) r → Valued
  unfolding value_element plain_value
  value-octets e f = rw e f

  pub value_null : OneOf (0 ∷ 3 ∷ 5 ∷ []) (tag_of kinds.the_type kind) → r ≡ 2 → Valued
  unfolding value_element
  value_null o q = rw (plain_null s kind value size o, q) (record { is = rw (short-length 0 5 [] (omega arith) (omega arith)) refl })

-- ---- the fields of a list

-- what the value of a row is, by the kind that its row has
module _ (l : FieldList) (s : List ℕ) (n k r : ℕ) where
  pub set_value : (kind : Kind) (g : NumberSet) → kind ≡ Kind.Set → g ≡ set_at l n → Sized (value_element (nums (members_of g))) r → Sized (value_element (value_at l (octets_at s) n (of_kind kind) k)) r
  unfolding value_at
  set_value kind g e d q = rw (e, ← d) q

  pub root-value : (kind : Kind) → kind ≡ Kind.Root → Sized (value_element (trust (root_of (octets_at s) l.root))) r → Sized (value_element (value_at l (octets_at s) n (of_kind kind) k)) r
  unfolding value_at
  root-value kind e q = rw e q

  pub plain_value_lem : (kind : Kind) (v z : ℕ) → (kind ≡ Kind.Set → ⊥) → (kind ≡ Kind.Root → ⊥) → v ≡ get_or l.values k 0 → z ≡ get_or l.sizes k 0
      → Sized (value_element (plain_value s (of_kind kind) v z)) r → Sized (value_element (value_at l (octets_at s) n (of_kind kind) k)) r
  unfolding value_at plain_value
  plain_value_lem Kind.Set v z o p d e q = absurd (o refl)
  plain_value_lem Kind.Number32 v z o p d e q = rw (← d) q
  plain_value_lem Kind.Number64 v z o p d e q = rw (← d) q
  plain_value_lem Kind.Null v z o p d e q = q
  plain_value_lem Kind.Octets v z o p d e q = rw (← d, ← e) q
  plain_value_lem Kind.Root v z o p d e q = absurd (p refl)

-- the field of a row, from its value
row_field : (l : FieldList) (s : List ℕ) (k : ℕ) (row : Row) → of_row row ≡ row_at k
    → field row.number (value_at l (octets_at s) row.number (of_kind row.kind) k) ≡ field (row_at k).number (value_at l (octets_at s) (row_at k).number (row_at k).kind k)
row_field l s k row d = rw (← d) refl

module _ (l : FieldList) (s : List ℕ) where
  -- the fields of the rows before the k-th are counted
  abbrev pub Counted : ℕ → ℕ → Type 0
  Counted k n = Sized (chain_octets field_element (up_to (field_at l (octets_at s)) k)) n

  pub fields_start : Counted 0 0
  unfolding up_to
  fields_start = nothing

  pub fields_more : (k n v e r : ℕ) (row : Row) → get_or l.present k false ≡ true → of_row row ≡ row_at k → Counted k n
      → Sized (value_element (value_at l (octets_at s) row.number (of_kind row.kind) k)) v → e ≡ element_size row.number v → r ≡ capped (n + e) → Counted (k + 1) r
  unfolding up_to field_at pick field_element
  fields_more k n v e r row h d c f q q₂ =
      rw (add-one, h, ← row_field l s k row d) (chain_more field_element (up_to (field_at l (octets_at s)) k) _ n e r c (around 5 row.number v e _ f q) q₂)

  pub fields_skip : (k n : ℕ) → get_or l.present k false ≡ false → Counted k n → Counted (k + 1) n
  unfolding up_to field_at pick
  fields_skip k n h c = rw (add-one, h, append-nil) c

  pub fields_end : (k n : ℕ) → row_count ≤ k → k ≤ row_count → Counted k n → Sized (chain_octets field_element (fields_of l (octets_at s))) n
  fields_end k n h g c = let z : k ≡ row_count = omega arith in rw z at c

-- ---- the whole

pub security_sized : (v l x y a b r : ℕ) → x ≡ v → y ≡ l → Sized (integer_element x) a → Sized (enumerated_element y) b → r ≡ capped (a + b) → Sized (security_octets v l) r
unfolding security_octets
security_sized v l x y a b r d g e f q = rw (← d, ← g) (joined (integer_element x) (enumerated_element y) a b r e f q)

pub head-sized : (xs ys challenge unique : List ℕ) (a b c d versions parts r : ℕ) → Sized xs a → Sized ys b → versions ≡ capped (a + b) → Sized (octets_element challenge) c → Sized (octets_element unique) d
    → parts ≡ capped (c + d) → r ≡ capped (versions + parts) → Sized (head_octets xs ys challenge unique) r
unfolding head_octets
head-sized xs ys challenge unique a b c d versions parts r e f q g h q₂ q₃ =
    simp append_assoc at
    (joined (xs ++ ys) (octets_element challenge ++ octets_element unique) versions parts r (joined xs ys a b versions e f q)
    (joined (octets_element challenge) (octets_element unique) c d parts g h q₂) q₃)

module _ (r : Record) (s : List ℕ) where
  abbrev pub Head : List ℕ
  Head = head_elements s r.attestation r.keymint r.challenge r.unique

  -- the eight are the head and the two lists
  pub eight_is : Head ++ (list_element (fields_of r.software (octets_at s)) ++ list_element (fields_of r.hardware (octets_at s))) ≡ key_description (content_of r s)
  unfolding head_octets security_octets key_description
  eight_is = simp append_assoc

  module _ (head software hardware a b lists n : ℕ) (e : Sized Head head) (f : Sized (chain_octets field_element (fields_of r.software (octets_at s))) software)
      (g : Sized (chain_octets field_element (fields_of r.hardware (octets_at s))) hardware) (q : a ≡ element_size 16 software) (q₂ : b ≡ element_size 16 hardware)
      (q₃ : lists ≡ capped (a + b)) (q₄ : n ≡ capped (head + lists)) where
    pub eight-sized : Sized (key_description (content_of r s)) n
    unfolding list_element
    eight-sized =
        rw (← eight_is)
        (joined Head _ head lists n e
        (joined (list_element (fields_of r.software (octets_at s))) (list_element (fields_of r.hardware (octets_at s))) a b lists (around 1 16 software a _ f q) (around 1 16 hardware b _ g q₂) q₃) q₄)

    pub whole-sized : (w : ℕ) → w ≡ element_size 16 n → Sized (encode (content_of r s)) w
    unfolding encode
    whole-sized w q₅ = around 1 16 n w _ eight-sized q₅
