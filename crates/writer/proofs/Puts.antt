-- What each put adds to an output, in plain variables: one write after another is one write, and an element is its header
-- and then its content, whose size was found before. Assumes nothing.
use mathlib.Core.Path.{◌≡◌, refl, sym, ap, ◌∙◌}
use mathlib.Core.Bool.{Bool, true, false, ◌&&◌}
use mathlib.Core.Logic.{◌⊎◌, inl, inr}
use mathlib.Core.List.{List, [], ◌∷◌, ◌++◌, append-nil}
use Prim.Native.Nat.{ℕ, zero, suc, ◌+◌, ◌-◌, ◌<◌, ◌≤◌}
use native.Mathlib.Omega.{arith}
use native.Mathlib.Numerals.{add-one}
use lib.ListN.{length, take, drop, get_or, set, length-append, length-drop}
use lib.Seq.{take_all, take-suc, set_at, length-take-le}
use lib.Dec.{T, ltb, ltb→lt}
use borrow.Author.Tests.{lt-ltb, le-leb}
use borrow.Rule.Slice.Mut.{set_vals}
use borrow.Rule.Slice.PartMut.{put_mid}
use Rattle.std.specs.Prelude.{Result, Ok, Err}
use Rattle.std.specs.Result.{result_unwrap_or}
use Rattle.answer.specs.declared.Refused.{Refused}
use denote.Enum.Declared.{tag_of}
use types.Run.{OneOf}
use Rattle.answer.specs.Answer.{Answer, got, guard, pick}
use Rattle.answer.proofs.Logic.{and_left, and_right}
use Rattle.answer.proofs.Answer.{got_inj, refused-got}
use Rattle.codec.specs.Octets.{splice, left}
use Rattle.codec.specs.Shortest.{integer_octets, length_octets}
use Rattle.codec.specs.Integer.{integer_element}
use Rattle.codec.specs.Header.{identifier, identifier_octets, header_octets, element_octets}
use Rattle.codec.specs.Element.{chain_octets}
use Rattle.codec.proofs.Splice.{splice-nothing, splice-splice, length-splice}
use Rattle.der_write.specs.Write.{of_put, room_after, room_for, header_put}
use Rattle.der_write.proofs.Writes.{put_mid-splice, copied_whole}
use Rattle.schema.specs.declared.Kind.{Kind}
use Rattle.schema.specs.contracts.Kind as kinds
use Rattle.schema.specs.declared.Row.{Row}
use Rattle.schema.specs.Table.{Row as TableRow, row as tableRow, null, rows, row_at, row_count}
use Rattle.schema.specs.Rows.{of_kind, of_row}
use Rattle.schema.specs.Content.{Value, nums, trust, Field, field, enumerated_element, octets_element, boolean_element, hash_element, root_content, value_element, field_element, list_element, key_description, encode}
use Rattle.records.specs.declared.NumberSet.{NumberSet}
use Rattle.records.specs.declared.RootOfTrust.{RootOfTrust}
use Rattle.records.specs.declared.FieldList.{FieldList}
use Rattle.records.specs.declared.Record.{Record}
use Rattle.records.specs.Content.{octets_at, part_of, members_of, root_of, set_at as set_in, value_at, field_at, up_to, fields_of, content_of}
use Rattle.sizes.specs.Plain.{plain_value}
use Rattle.sizes.specs.Size.{capped, Sized, security_octets, head_octets}
use Rattle.writer.specs.Put.{Puts}
use Rattle.writer.specs.Output.{Adds, AddsHeader}
use Rattle.writer.specs.declared.put.Output.{Output}
use Rattle.sizes.proofs.Sizing.{chain-append, capped_same, capped_twice, plain_null, Head, eight_is}
use Rattle.codec.specs.Limits.{extension_bytes}

-- ---- one after another

nothing-put : (old : List ℕ) (p : ℕ) → Puts old p [] old p
nothing-put old p = record { is = λ few room. (sym (splice-nothing old p), omega arith) }

joined-put : {old mid new : List ℕ} {p q r : ℕ} {xs ys : List ℕ} → Puts old p xs mid q → Puts mid q ys new r → Puts old p (xs ++ ys) new r
joined-put {old} {mid} {new} {p} {q} {r} {xs} {ys} e f = record {
  is = λ few room.
      let l = length-append xs ys in
      let fits : p + length xs ≤ length old = omega arith in
      let a = e.is (omega arith) fits in
      let same : length mid ≡ length old = rw a.0 (length-splice old p xs fits) in
      let b = f.is (omega arith) (rw (a.1, same) (omega arith)) in
      (b.0 ∙ rw (a.0, a.1) (splice-splice old p xs ys fits), omega (arith, a.1, b.1));
}

pub nothing : (a : Output) → Adds a [] a
nothing a = record { same = refl; put = nothing-put a.octets.now a.at }

pub joined : {a b c : Output} {xs ys : List ℕ} → Adds a xs b → Adds b ys c → Adds a (xs ++ ys) c
joined e f = record { same = f.same ∙ e.same; put = joined-put e.put f.put }

-- what stands in the end where the output was lent from
pub ends : {a b : Output} {xs : List ℕ} (new : List ℕ) → Adds a xs b → (b.octets.ghost_name ≡ a.octets.ghost_name → new ≡ b.octets.now) → Puts a.octets.now a.at xs new b.at
ends new e h = rw (h e.same) e.put

-- ---- what der's leaves answer, where there is room

unwraps : (w : Result ℕ Refused) (p n : ℕ) → of_put w ≡ got n → result_unwrap_or w p ≡ n
unwraps (Ok a) p n e = got_inj e
unwraps (Err r) p n e = absurd (refused-got e)

module _ (o : Output) (w : Result ℕ Refused) (new : List ℕ) (q : ℕ) (d : q ≡ result_unwrap_or w o.at) where
  -- an answer that is a value leaves the octets, and its value is the place after them
  came : (m : Answer ℕ) (xs : List ℕ) → of_put w ≡ m → new ≡ left m o.octets.now o.at xs
      → (length xs ≤ extension_bytes → o.at + length xs ≤ length o.octets.now → m ≡ got (o.at + length xs)) → Puts o.octets.now o.at xs new q
  came m xs e f g = record {
    is = λ few room.
        let k = g few room in
        (rw k at f, d ∙ unwraps w o.at (o.at + length xs) (e ∙ k));
  }

  module _ (f n z : ℕ) (hf : f < 8) (hn : n < 16384) where
    header-got : z ≤ extension_bytes → o.at + length (header_octets (identifier f n) z) ≤ length o.octets.now → header_put o.octets.now o.at (identifier f n) z ≡ got (o.at + length (header_octets (identifier f n) z))
    unfolding header_put room_for room_after guard
    header-got h room =
        let l : z < 65536 = omega arith in
        rw (lt-ltb f 8 hf, lt-ltb n 16384 hn, lt-ltb z 65536 l, le-leb _ _ room) refl

    pub header-put : of_put w ≡ header_put o.octets.now o.at (identifier f n) z → new ≡ left (header_put o.octets.now o.at (identifier f n) z) o.octets.now o.at (header_octets (identifier f n) z)
        → AddsHeader o f n z (record { octets = set_vals new o.octets; at = q })
    header-put e g = record { same = refl; put = λ h. came _ _ e g (λ few room. header-got h room) }

  module _ (x : ℕ) where
    integer_got : o.at + length (integer_element x) ≤ length o.octets.now → room_for o.octets.now o.at (integer_element x) ≡ got (o.at + length (integer_element x))
    unfolding room_for room_after guard
    integer_got room = rw (le-leb _ _ room) refl

    pub integer_put : of_put w ≡ room_for o.octets.now o.at (integer_element x) → new ≡ left (room_for o.octets.now o.at (integer_element x)) o.octets.now o.at (integer_element x)
        → Adds o (integer_element x) (record { octets = set_vals new o.octets; at = q })
    integer_put e g = record { same = refl; put = came _ _ e g (λ few room. integer_got room) }

-- ---- an ENUMERATED is an INTEGER with another identifier

integer_first : (x : ℕ) → integer_element x ≡ 2 ∷ (length_octets (length (integer_octets x)) ++ integer_octets x)
unfolding integer_element element_octets header_octets identifier_octets pick
integer_first x = refl

enumerated_first : (x : ℕ) → enumerated_element x ≡ 10 ∷ (length_octets (length (integer_octets x)) ++ integer_octets x)
unfolding enumerated_element element_octets header_octets identifier_octets pick
enumerated_first x = refl

first_again : (old : List ℕ) (p a b : ℕ) (xs : List ℕ) → p ≤ length old → set (splice old p (a ∷ xs)) p b ≡ splice old p (b ∷ xs)
unfolding splice
first_again old p a b xs h = set_at (take p old) a (xs ++ drop (p + suc (length xs)) old) b p (length-take-le p old h)

module _ (a b : Output) (x y : ℕ) (d : y ≡ x) (e : Adds a (integer_element y) b) where
  as_long : length (enumerated_element x) ≡ length (integer_element y)
  as_long = rw (d, integer_first x, enumerated_first x) refl

  -- the number that was put, and its first octet overwritten
  pub enumerated_put : Adds a (enumerated_element x) (record { octets = set_vals (set b.octets.now a.at 10) b.octets; at = b.at })
  enumerated_put = record {
    same = e.same;
    put = record {
      is = λ few room.
          let l = as_long in
          let k = e.put.is (omega arith) (omega arith) in
          let h : a.at ≤ length a.octets.now = omega arith in
          (rw (k.0, d, integer_first x, enumerated_first x) (first_again a.octets.now a.at 2 10 _ h), k.1 ∙ omega arith);
    };
  }

  -- where there is no first octet there was no room for the number
  pub enumerated_not : length b.octets.now ≤ a.at → Adds a (enumerated_element x) b
  enumerated_not h = record {
    same = e.same;
    put = record {
      is = λ few room.
          let l = as_long in
          let k = e.put.is (omega arith) (omega arith) in
          let same : length b.octets.now ≡ length a.octets.now = rw k.0 (length-splice a.octets.now a.at (integer_element y) (omega arith)) in
          absurd (omega (arith, ap length (enumerated_first x)));
    };
  }

-- ---- bytes

pub bytes_put : (o : Output) (t ys : List ℕ) (end : ℕ) → end ≡ o.at + length t → end ≤ length o.octets.now
    → ys ≡ splice (take (end - o.at) (drop o.at o.octets.now)) 0 (take (length (take (end - o.at) (drop o.at o.octets.now))) t)
    → Adds o t (record { octets = set_vals (put_mid o.at (end - o.at) o.octets.now ys) o.octets; at = end })
bytes_put o t ys end d h e =
    let m : length (drop o.at o.octets.now) ≡ length o.octets.now - o.at = length-drop o.at o.octets.now in
    let n : length (take (end - o.at) (drop o.at o.octets.now)) ≡ end - o.at = length-take-le (end - o.at) (drop o.at o.octets.now) (omega (arith, m)) in
    let w : ys ≡ t = copied_whole (take (end - o.at) (drop o.at o.octets.now)) t (omega (arith, n, d)) e in
    record {
      same = refl;
      put = record { is = λ few room. (rw d (put_mid-splice o.octets.now ys t o.at (length t) w refl), d) };
    }

pub bytes_not : (o : Output) (t : List ℕ) → length o.octets.now < o.at + length t → Adds o t o
bytes_not o t h = record { same = refl; put = record { is = λ few room. absurd (omega arith) } }

-- ---- an element

-- its header with the size that was found, and its content
pub element-put : {a b c : Output} (f n z : ℕ) (xs : List ℕ) → capped z ≡ capped (length xs) → AddsHeader a f n z b → Adds b xs c → Adds a (element_octets (identifier f n) xs) c
unfolding element_octets
element-put {a} {b} {c} f n z xs d e g = record {
  same = g.same ∙ e.same;
  put = record {
    is = λ few room.
        let l = length-append (header_octets (identifier f n) (length xs)) xs in
        let i : z ≡ length xs = capped_same z (length xs) (omega arith) d in
        let h : Puts a.octets.now a.at (header_octets (identifier f n) (length xs)) b.octets.now b.at = rw i at (e.put (omega arith)) in
        (joined-put h g.put).is few room;
  };
}

pub around : {a b c : Output} (f n z : ℕ) (xs : List ℕ) → Sized xs z → AddsHeader a f n z b → Adds b xs c → Adds a (element_octets (identifier f n) xs) c
around f n z xs d e g = element-put f n z xs (rw d.is (capped_twice (length xs))) e g

pub boolean_yes : {a b c : Output} (x : Bool) (y : ℕ) → x ≡ true → y ≡ 255 → AddsHeader a 0 1 1 b → Adds b (y ∷ []) c → Adds a (boolean_element x) c
unfolding boolean_element pick
boolean_yes x y h d e g = rw h (element-put 0 1 1 (255 ∷ []) refl e (rw d at g))

pub boolean_no : {a b c : Output} (x : Bool) (y : ℕ) → x ≡ false → y ≡ 0 → AddsHeader a 0 1 1 b → Adds b (y ∷ []) c → Adds a (boolean_element x) c
unfolding boolean_element pick
boolean_no x y h d e g = rw h (element-put 0 1 1 (0 ∷ []) refl e (rw d at g))

pub octets-put : {a b c : Output} (bs xs : List ℕ) → bs ≡ xs → AddsHeader a 0 4 (length bs) b → Adds b bs c → Adds a (octets_element xs) c
unfolding octets_element
octets-put bs xs d e g = rw (← d) (element-put 0 4 (length bs) bs refl e g)

-- ---- a set

pub chain_more : {A : Type 0} {a b c : Output} (enc : A → List ℕ) (xs : List A) (x : A) → Adds a (chain_octets enc xs) b → Adds b (enc x) c → Adds a (chain_octets enc (xs ++ (x ∷ []))) c
chain_more enc xs x e f = rw (chain-append enc xs (x ∷ []), append-nil) (joined e f)

-- the members before the i-th are put
module _ (m : List ℕ) (i : ℕ) where
  pub members-start : (a : Output) → Adds a (chain_octets integer_element (take 0 m)) a
  members-start a = nothing a

  pub members_more : {a b c : Output} (x : ℕ) → i < length m → x ≡ get_or m i 0 → Adds a (chain_octets integer_element (take i m)) b → Adds b (integer_element x) c
      → Adds a (chain_octets integer_element (take (i + 1) m)) c
  members_more x h d e f = rw (add-one, take-suc m i 0 h) (chain_more integer_element (take i m) (get_or m i 0) e (rw d at f))

  pub members_all : {a b : Output} → length m ≤ i → Adds a (chain_octets integer_element (take i m)) b → Adds a (chain_octets integer_element m) b
  members_all h e = rw (take_all i m h) at e

pub set-put : {a b c : Output} (z : ℕ) (ms : List ℕ) → Sized (chain_octets integer_element ms) z → AddsHeader a 1 17 z b → Adds b (chain_octets integer_element ms) c → Adds a (value_element (nums ms)) c
unfolding value_element
set-put z ms d e f = around 1 17 z (chain_octets integer_element ms) d e f

-- ---- the root of trust

module _ (s : List ℕ) (t : RootOfTrust) {o o₁ o₂ o₃ : Output} (e₁ : Adds o (octets_element (part_of s t.key)) o₁) (e₂ : Adds o₁ (boolean_element t.locked) o₂) (e₃ : Adds o₂ (enumerated_element t.state) o₃) where
  pub root-hashed : {o₄ : Output} → t.hashed ≡ true → Adds o₃ (octets_element (part_of s t.hash)) o₄ → Adds o (root_content (root_of (octets_at s) t)) o₄
  unfolding root_content hash_element pick
  root-hashed h e₄ = rw h (joined e₁ (joined e₂ (joined e₃ e₄)))

  pub root_plain : t.hashed ≡ false → Adds o (root_content (root_of (octets_at s) t)) o₃
  unfolding root_content hash_element pick
  root_plain h = rw (h, append-nil) (joined e₁ (joined e₂ e₃))

pub root-put : {a b c : Output} (s : List ℕ) (t : RootOfTrust) (z : ℕ) → Sized (root_content (root_of (octets_at s) t)) z → AddsHeader a 1 16 z b → Adds b (root_content (root_of (octets_at s) t)) c
    → Adds a (value_element (trust (root_of (octets_at s) t))) c
unfolding value_element
root-put s t z d e f = around 1 16 z (root_content (root_of (octets_at s) t)) d e f

-- ---- a value, by its kind

module _ (s : List ℕ) (kind : Kind) (value size : ℕ) (a b : Output) where
  abbrev Valued : Type 0
  Valued = Adds a (value_element (plain_value s (of_kind kind) value size)) b

  pub value_number : (kind ≡ Kind.Number32) ⊎ (kind ≡ Kind.Number64) → Adds a (integer_element value) b → Valued
  unfolding value_element plain_value
  value_number (inl e) h = rw e h
  value_number (inr e) h = rw e h

  pub value-octets : kind ≡ Kind.Octets → Adds a (octets_element (octets_at s value size)) b → Valued
  unfolding value_element plain_value
  value-octets e h = rw e h

  pub value_null : OneOf (0 ∷ 3 ∷ 5 ∷ []) (tag_of kinds.the_type kind) → AddsHeader a 0 5 0 b → Valued
  unfolding value_element
  value_null o h = rw (plain_null s kind value size o) (element-put 0 5 0 [] refl h (nothing b))

-- ---- the fields of a list

-- a row's number takes an identifier of at most three octets: one computed test of the table
abbrev small : List TableRow → Bool
small [] = true
small (r ∷ rs) = ltb r.number 16384 && small rs

small_at_lem : (l : List TableRow) (k : ℕ) (d : TableRow) → T (small l) → d.number < 16384 → (get_or l k d).number < 16384
small_at_lem [] k d t h = h
small_at_lem (r ∷ rs) zero d t h = ltb→lt r.number 16384 (and_left (ltb r.number 16384) _ t)
small_at_lem (r ∷ rs) (suc k) d t h = small_at_lem rs k d (and_right (ltb r.number 16384) _ t) h

pub field-number : (row : Row) (k : ℕ) → of_row row ≡ row_at k → row.number < 16384
unfolding rows
field-number row k d =
    let e : row.number ≡ (row_at k).number = ap (λ (x : TableRow). x.number) d in
    rw e (small_at_lem rows k (tableRow 0 null 1 0) tt (omega arith))

field_put : {a b c : Output} (n z : ℕ) (x : Value) → Sized (value_element x) z → AddsHeader a 5 n z b → Adds b (value_element x) c → Adds a (field_element (field n x)) c
unfolding field_element
field_put n z x d e f = around 5 n z (value_element x) d e f

-- a value that is neither a set nor 704, from its list
plain_is : (l : FieldList) (s : List ℕ) (n k : ℕ) (kind : Kind) → (kind ≡ Kind.Set → ⊥) → (kind ≡ Kind.Root → ⊥)
    → plain_value s (of_kind kind) (get_or l.values k 0) (get_or l.sizes k 0) ≡ value_at l (octets_at s) n (of_kind kind) k
unfolding value_at plain_value
plain_is l s n k Kind.Set o p = absurd (o refl)
plain_is l s n k Kind.Number32 o p = refl
plain_is l s n k Kind.Number64 o p = refl
plain_is l s n k Kind.Null o p = refl
plain_is l s n k Kind.Octets o p = refl
plain_is l s n k Kind.Root o p = absurd (p refl)

-- the field of a list, by the kind that its row has
module _ (l : FieldList) (s : List ℕ) (n k z : ℕ) (a b c : Output) (e : AddsHeader a 5 n z b) where
  abbrev Field_put : Kind → Type 0
  Field_put kind = Adds a (field_element (field n (value_at l (octets_at s) n (of_kind kind) k))) c

  pub field-set : (kind : Kind) (g : NumberSet) → kind ≡ Kind.Set → g ≡ set_in l n → Sized (value_element (nums (members_of g))) z → Adds b (value_element (nums (members_of g))) c → Field_put kind
  unfolding value_at
  field-set kind g h d m f = rw (h, ← d) (field_put n z (nums (members_of g)) m e f)

  pub field-root : (kind : Kind) → kind ≡ Kind.Root → Sized (value_element (trust (root_of (octets_at s) l.root))) z → Adds b (value_element (trust (root_of (octets_at s) l.root))) c → Field_put kind
  unfolding value_at
  field-root kind h m f = rw h (field_put n z (trust (root_of (octets_at s) l.root)) m e f)

  pub field-plain : (kind : Kind) (v w : ℕ) → v ≡ get_or l.values k 0 → w ≡ get_or l.sizes k 0 → (kind ≡ Kind.Set → ⊥) → (kind ≡ Kind.Root → ⊥) → Sized (value_element (plain_value s (of_kind kind) v w)) z
      → Adds b (value_element (plain_value s (of_kind kind) v w)) c → Field_put kind
  field-plain kind v w d h o p m f = rw (← plain_is l s n k kind o p, ← d, ← h) (field_put n z _ m e f)

-- the field of a row, from its value
row_field : (l : FieldList) (s : List ℕ) (k : ℕ) (row : Row) → of_row row ≡ row_at k
    → field row.number (value_at l (octets_at s) row.number (of_kind row.kind) k) ≡ field (row_at k).number (value_at l (octets_at s) (row_at k).number (row_at k).kind k)
row_field l s k row d = rw (← d) refl

module _ (l : FieldList) (s : List ℕ) where
  -- the fields of the rows before the k-th are put
  abbrev pub Listed : ℕ → Output → Output → Type 0
  Listed k a b = Adds a (chain_octets field_element (up_to (field_at l (octets_at s)) k)) b

  pub fields_start : (a : Output) → Listed 0 a a
  unfolding up_to
  fields_start a = nothing a

  pub fields_more : (k : ℕ) {a b c : Output} (row : Row) → get_or l.present k false ≡ true → of_row row ≡ row_at k → Listed k a b
      → Adds b (field_element (field row.number (value_at l (octets_at s) row.number (of_kind row.kind) k))) c → Listed (k + 1) a c
  unfolding up_to field_at pick
  fields_more k row h d e f =
      rw (add-one, h, ← row_field l s k row d) (chain_more field_element (up_to (field_at l (octets_at s)) k) (field row.number (value_at l (octets_at s) row.number (of_kind row.kind) k)) e f)

  pub fields_skip : (k : ℕ) {a b : Output} → get_or l.present k false ≡ false → Listed k a b → Listed (k + 1) a b
  unfolding up_to field_at pick
  fields_skip k h e = rw (add-one, h, append-nil) e

  pub fields_end : (k : ℕ) {a b : Output} → row_count ≤ k → k ≤ row_count → Listed k a b → Adds a (chain_octets field_element (fields_of l (octets_at s))) b
  fields_end k h w e = let z : k ≡ row_count = omega arith in rw z at e

-- ---- the whole

pub list_put : {a b c : Output} (fs : List Field) (z : ℕ) → Sized (chain_octets field_element fs) z → AddsHeader a 1 16 z b → Adds b (chain_octets field_element fs) c → Adds a (list_element fs) c
unfolding list_element
list_put fs z d e f = around 1 16 z (chain_octets field_element fs) d e f

pub security_put : {a b c : Output} (v l x : ℕ) → x ≡ v → Adds a (integer_element x) b → Adds b (enumerated_element l) c → Adds a (security_octets v l) c
unfolding security_octets
security_put v l x d e f = rw (← d) (joined e f)

pub head-put : {a b c d e : Output} (xs ys challenge unique : List ℕ) → Adds a xs b → Adds b ys c → Adds c (octets_element challenge) d → Adds d (octets_element unique) e → Adds a (head_octets xs ys challenge unique) e
unfolding head_octets
head-put xs ys challenge unique e₁ e₂ e₃ e₄ = joined e₁ (joined e₂ (joined e₃ e₄))

pub extension-put : {a b c d e : Output} (r : Record) (s : List ℕ) (z : ℕ) → Sized (key_description (content_of r s)) z → AddsHeader a 1 16 z b → Adds b (Head r s) c
    → Adds c (list_element (fields_of r.software (octets_at s))) d → Adds d (list_element (fields_of r.hardware (octets_at s))) e → Adds a (encode (content_of r s)) e
unfolding encode
extension-put r s z f e₁ e₂ e₃ e₄ = around 1 16 z (key_description (content_of r s)) f e₁ (rw (eight_is r s) at (joined e₂ (joined e₃ e₄)))
