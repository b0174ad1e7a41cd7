-- What each put function leaves: the text of the whole is that of its parts, put one after the other. Assumes nothing.
use mathlib.Core.Path.{◌≡◌, refl, sym, ap, ◌∙◌}
use mathlib.Core.Bool.{Bool, true, false}
use mathlib.Core.Logic.{◌⊎◌, inl, inr}
use mathlib.Core.List.{List, [], ◌∷◌, ◌++◌, append-nil, append_assoc}
use Prim.Native.Nat.{ℕ, suc, ◌+◌, ◌-◌, ◌*◌, ◌/◌, ◌%◌, ◌<◌, ◌≤◌, min}
use native.Mathlib.Omega.{arith}
use native.Mathlib.Numerals.{add-one}
use mir.Val.{Fits}
use mir.Syntax.{w64}
use lib.ListN.{length, take, drop, get_or, length-drop}
use lib.Seq.{take-suc, take_all, take-length, length-take-le}
use borrow.Author.Tests.{le-leb, lt-leb}
use Rattle.answer.specs.Answer.{got, refused, guard, pick}
use Rattle.answer.proofs.Logic.{by_le}
use Rattle.answer.specs.Refusal.{output_short}
use Rattle.codec.specs.Octets.{left}
use Rattle.schema.specs.declared.Kind.{Kind}
use Rattle.schema.specs.declared.Row.{Row}
use Rattle.schema.specs.Table.{rows, row_at, row_count}
use Rattle.schema.specs.Rows.{of_kind, of_row}
use Rattle.schema.specs.Content.{Field, Content}
use Rattle.records.specs.declared.Part.{Part}
use Rattle.records.specs.declared.NumberSet.{NumberSet}
use Rattle.records.specs.declared.FieldList.{FieldList}
use Rattle.records.specs.declared.RootOfTrust.{RootOfTrust}
use Rattle.records.specs.Content.{octets_at, part_of, members_of, root_of, set_at, value_at, field_at, up_to, fields_of}
use Rattle.listing.specs.Text.{space, newline, dash, yes_word, version_word, keymint_word, level_word, challenge_word, unique_word, software_word, hardware_word, elements_word, refused_word, at_word}
use Rattle.listing.specs.Text.{decimal, hex_digit, hex_text, octets_text, more_numbers, numbers_text, locked_text, hash_text, state_text, root_text, value_text}
use Rattle.listing.specs.Text.{named, numbers_line, octets_line, field_line, field_lines, count_line, head_text, content_text, refusal_text}
use Rattle.listing.specs.declared.Text.{Text}
use Rattle.listing.specs.Put.{output, puts, Puts}
use Rattle.listing.specs.Room.{parts, field_of, line_room, lines_room, needed, refusal_needed, listed}
use Rattle.listing.proofs.Joins.{joined, bounded, within, same, nothing, whole}
use Rattle.listing.proofs.Texts.{decimal_one, decimal_more, decimal-few, hex_text-append, hex_text_one, octets_text-none, octets_text_some, more_numbers-append, more_numbers_one, numbers_text-none, numbers_text_some}

-- ---- a constant text, octet by octet

pub text-start : (old : Text) (text : List ℕ) → Puts old (take 0 text) 0 old
text-start old text = nothing old

pub text_more : (text : List ℕ) (i : ℕ) {old mid new : Text} → i < length text → Puts old (take i text) i mid → Puts mid (get_or text i 0 ∷ []) 1 new
    → Puts old (take (i + 1) text) (i + 1) new
text_more text i h e f = rw (add-one, take-suc text i 0 h) (rw (← add-one) (joined e f))

pub text_end : (text : List ℕ) (i : ℕ) {old new : Text} → length text ≤ i → i ≤ length text → Puts old (take i text) i new → Puts old text (length text) new
text_end text i h l e = let z : i ≡ length text = omega arith in same text (take-length text) (rw z at e)

-- ---- a number

pub decimal-low : {old new : Text} {n : ℕ} → n < 10 → Puts old ((48 + n) ∷ []) 1 new → Puts old (decimal n) 20 new
decimal-low {old} {new} {n} h e = within 20 (omega arith) (same (decimal n) (sym (decimal_one n h)) e)

pub decimal_high : {old mid new : Text} {n : ℕ} → 10 ≤ n → Fits w64 n → Puts old (decimal (n / 10)) 20 mid → Puts mid ((48 + n % 10) ∷ []) 1 new → Puts old (decimal n) 20 new
decimal_high {old} {mid} {new} {n} h w e f = bounded (decimal-few n w.fits) (same (decimal n) (sym (decimal_more n h)) (joined e f))

-- ---- octets

pub hex_start : (old : Text) (s : List ℕ) → Puts old (hex_text (take 0 s)) (2 * 0) old
unfolding hex_text
hex_start old s = nothing old

pub hex_more : (s : List ℕ) (i : ℕ) {old mid mid₂ new : Text} {a b : ℕ} → i < length s → a ≡ hex_digit (get_or s i 0 / 16) → b ≡ hex_digit (get_or s i 0 % 16)
    → Puts old (hex_text (take i s)) (2 * i) mid → Puts mid (a ∷ []) 1 mid₂ → Puts mid₂ (b ∷ []) 1 new
    → Puts old (hex_text (take (i + 1) s)) (2 * (i + 1)) new
hex_more s i h ea eb e f g =
    rw (add-one, take-suc s i 0 h, hex_text-append, hex_text_one, ← ea, ← eb) (within (2 * suc i) (omega arith) (joined e (joined f g)))

pub hex_end : (s : List ℕ) (i : ℕ) {old new : Text} → length s ≤ i → i ≤ length s → Puts old (hex_text (take i s)) (2 * i) new → Puts old (hex_text s) (2 * length s) new
hex_end s i h l e = let z : i ≡ length s = omega arith in same (hex_text s) (ap hex_text (take-length s)) (rw z at e)

-- the digits of all of s, in a text of its own whose output ends as new
pub hex_whole : (s : List ℕ) (i : ℕ) {old mid : Text} (new : List ℕ) → length s ≤ i → i ≤ length s → Puts old (hex_text (take i s)) (2 * i) mid
    → (mid.out.ghost_name ≡ old.out.ghost_name → new ≡ mid.out.now) → output new mid.at ≡ puts (output old.out.now old.at) (hex_text s)
hex_whole s i new l e h n = rw (n h.same) (hex_end s i l e h).is

-- .. and the text that was lent, of which they are the rest
pub hex_put : {old new : Text} (s : List ℕ) → new.out.ghost_name ≡ old.out.ghost_name → output new.out.now new.at ≡ puts (output old.out.now old.at) (hex_text s)
    → length (hex_text s) ≤ 2 * length s → Puts old (hex_text s) (2 * length s) new
hex_put s g e f = record { same = g; is = e; few = f }

-- ---- a part of the bytes

-- at most as many as all
part_few : (s : List ℕ) (start len : ℕ) → length (octets_at s start len) ≤ length s
part_few s start len =
    let n : length (drop start s) ≡ length s - start = length-drop start s in
    by_le len (length (drop start s))
    (λ h. rw (length-take-le len (drop start s) h) (omega (arith, n)))
    (λ h. rw (take_all len (drop start s) (omega (arith, h))) (omega (arith, n)))

module _ (s xs : List ℕ) (part : Part) {old new : Text} (e : xs ≡ part_of s part) where
  pub part_none : length xs ≡ 0 → Puts old dash 1 new → Puts old (octets_text (part_of s part)) (2 * length s + 1) new
  part_none h f = within (2 * length s + 1) (omega arith) (same (octets_text (part_of s part)) (octets_text-none xs (omega arith) ∙ ap octets_text e) f)

  pub part_some : (length xs ≡ 0 → ⊥) → Puts old (hex_text xs) (2 * length xs) new → Puts old (octets_text (part_of s part)) (2 * length s + 1) new
  part_some h f =
      let n : length xs ≤ length s = rw e (part_few s part.start part.len) in
      within (2 * length s + 1) (omega arith) (same (octets_text (part_of s part)) (octets_text_some xs (omega (arith, h)) ∙ ap octets_text e) f)

-- ---- a set

pub more_start : (old : Text) (xs : List ℕ) → Puts old (more_numbers (take 0 xs)) (21 * 0) old
unfolding more_numbers
more_start old xs = nothing old

pub more_more : (xs : List ℕ) (i : ℕ) {old mid mid₂ new : Text} → i < length xs
    → Puts old (more_numbers (take i xs)) (21 * i) mid → Puts mid space 1 mid₂ → Puts mid₂ (decimal (get_or xs i 0)) 20 new
    → Puts old (more_numbers (take (i + 1) xs)) (21 * (i + 1)) new
more_more xs i h e f g = rw (add-one, take-suc xs i 0 h, more_numbers-append, more_numbers_one) (within (21 * suc i) (omega arith) (joined e (joined f g)))

pub more_end : (xs : List ℕ) (i : ℕ) {old new : Text} → length xs ≤ i → i ≤ length xs → Puts old (more_numbers (take i xs)) (21 * i) new → Puts old (more_numbers xs) (21 * length xs) new
more_end xs i h l e = let z : i ≡ length xs = omega arith in same (more_numbers xs) (ap more_numbers (take-length xs)) (rw z at e)

-- as many members as the count and the slots allow
members_cut : (g : NumberSet) {m : ℕ} → length g.members ≡ 16 → m ≡ min g.count 16 → take m g.members ≡ members_of g
members_cut g {m} z e =
    by_le g.count 16
    (λ h. let q : m ≡ g.count = omega (arith, e) in rw q refl)
    (λ h. let q : m ≡ 16 = omega (arith, e) in rw q (take_all 16 g.members (omega arith) ∙ sym (take_all g.count g.members (omega arith))))

module _ (g : NumberSet) where
  pub set-none : {m : ℕ} {old new : Text} → length g.members ≡ 16 → m ≡ min g.count 16 → length (take m g.members) ≡ 0 → Puts old dash 1 new
      → Puts old (numbers_text (members_of g)) 335 new
  set-none {m} z e h f = within 335 (omega arith) (same (numbers_text (members_of g)) (numbers_text-none (take m g.members) h ∙ ap numbers_text (members_cut g z e)) f)

  pub set_some : (x : ℕ) (xs : List ℕ) {m : ℕ} {old mid new : Text} → length g.members ≡ 16 → m ≡ min g.count 16 → take m g.members ≡ x ∷ xs → Puts old (decimal x) 20 mid
      → Puts mid (more_numbers xs) (21 * length xs) new → Puts old (numbers_text (members_of g)) 335 new
  set_some x xs {m} z e t f h =
      let l : length (take m g.members) ≡ suc (length xs) = ap length t in
      let n : suc (length xs) ≤ 16 = omega (arith, l, e, length-take-le m g.members (omega (arith, e, z))) in
      within 335 (omega (arith, n)) (same (numbers_text (members_of g)) (numbers_text_some x xs ∙ ap numbers_text (sym t ∙ members_cut g z e)) (joined f h))

-- ---- the root of trust

pub locked_yes : 49 ∷ [] ≡ locked_text true
unfolding locked_text
locked_yes = refl

pub locked_no : 48 ∷ [] ≡ locked_text false
unfolding locked_text
locked_no = refl

pub state-put : (locked : Bool) (state : ℕ) {old o₁ o₂ o₃ new : Text} {b : ℕ} → b ∷ [] ≡ locked_text locked → Puts old space 1 o₁ → Puts o₁ (b ∷ []) 1 o₂
    → Puts o₂ space 1 o₃ → Puts o₃ (decimal state) 20 new → Puts old (state_text locked state) 23 new
unfolding state_text
state-put locked state e e₁ e₂ e₃ e₄ = rw (← e) (joined e₁ (joined e₂ (joined e₃ e₄)))

module _ (s : List ℕ) (root : RootOfTrust) {old o₁ o₂ : Text}
    (e₁ : Puts old (octets_text (part_of s root.key)) (2 * length s + 1) o₁) (e₂ : Puts o₁ (state_text root.locked root.state) 23 o₂) where
  pub root-hashed : {o₃ new : Text} → root.hashed ≡ true → Puts o₂ space 1 o₃ → Puts o₃ (octets_text (part_of s root.hash)) (2 * length s + 1) new
      → Puts old (root_text (root_of (octets_at s) root)) (4 * length s + 26) new
  unfolding root_text hash_text pick
  root-hashed h e₃ e₄ = rw h (within (4 * length s + 26) (omega arith) (joined e₁ (joined e₂ (joined e₃ e₄))))

  pub root_unhashed : root.hashed ≡ false → Puts old (root_text (root_of (octets_at s) root)) (4 * length s + 26) o₂
  unfolding root_text hash_text pick
  root_unhashed h = rw (h, append-nil) (within (4 * length s + 26) (omega arith) (joined e₁ e₂))

-- ---- lines

pub named_put : (n : ℕ) {old mid new : Text} {word : List ℕ} {m : ℕ} → Puts old word m mid → Puts mid (decimal n) 20 new → Puts old (named word n) (m + 20) new
unfolding named
named_put n e₁ e₂ = joined e₁ e₂

pub numbers_line_lem : (first second : List ℕ) (a b : ℕ) {old o₁ o₂ new : Text} → Puts old (named first a) (length first + 20) o₁ → Puts o₁ (named second b) (length second + 20) o₂
    → Puts o₂ newline 1 new → Puts old (numbers_line first a second b) (length first + length second + 41) new
unfolding numbers_line
numbers_line_lem first second a b e₁ e₂ e₃ = within (length first + length second + 41) (omega arith) (joined e₁ (joined e₂ e₃))

pub octets_line_lem : (word bs : List ℕ) (k : ℕ) {old o₁ o₂ new : Text} → Puts old word (length word) o₁ → Puts o₁ (octets_text bs) (2 * k + 1) o₂
    → Puts o₂ newline 1 new → Puts old (octets_line word bs) (length word + 2 * k + 2) new
unfolding octets_line
octets_line_lem word bs k e₁ e₂ e₃ = within (length word + 2 * k + 2) (omega arith) (joined e₁ (joined e₂ e₃))

-- ---- a value, by its row's kind

abbrev pub Valued : FieldList → List ℕ → ℕ → ℕ → Kind → Text → Text → Type 0
Valued l s n k kind old new = Puts old (value_text (value_at l (octets_at s) n (of_kind kind) k)) (335 + parts (of_kind kind) * length s) new

module _ (l : FieldList) (s : List ℕ) (n k : ℕ) (kind : Kind) {old new : Text} where
  pub value_set : kind ≡ Kind.Set → (g : NumberSet) → g ≡ set_at l n → Puts old (numbers_text (members_of g)) 335 new → Valued l s n k kind old new
  unfolding value_text value_at
  value_set e g d h = rw (e, ← d) (within (335 + 0 * length s) (omega arith) h)

  pub value_number : (kind ≡ Kind.Number32) ⊎ (kind ≡ Kind.Number64) → Puts old (decimal (get_or l.values k 0)) 20 new → Valued l s n k kind old new
  unfolding value_text value_at
  value_number (inl e) h = rw e (within (335 + 0 * length s) (omega arith) h)
  value_number (inr e) h = rw e (within (335 + 0 * length s) (omega arith) h)

  pub value_null : kind ≡ Kind.Null → Puts old yes_word 3 new → Valued l s n k kind old new
  unfolding value_text value_at
  value_null e h = rw e (within (335 + 0 * length s) (omega arith) h)

  pub value-octets : kind ≡ Kind.Octets → Puts old (octets_text (octets_at s (get_or l.values k 0) (get_or l.sizes k 0))) (2 * length s + 1) new → Valued l s n k kind old new
  unfolding value_text value_at
  value-octets e h = rw e (within (335 + 2 * length s) (omega arith) h)

  pub value-root : kind ≡ Kind.Root → Puts old (root_text (root_of (octets_at s) l.root)) (4 * length s + 26) new → Valued l s n k kind old new
  unfolding value_text value_at
  value-root e h = rw e (within (335 + 4 * length s) (omega arith) h)

-- ---- the fields of a list

pub field_put : (word s : List ℕ) (l : FieldList) (k : ℕ) (row : Row) {old o₁ o₂ o₃ new : Text} → length word ≤ 9 → of_row row ≡ row_at k
    → Puts old (named word row.number) (length word + 20) o₁ → Puts o₁ space 1 o₂ → Valued l s row.number k row.kind o₂ o₃ → Puts o₃ newline 1 new
    → Puts old (field_line word (field_of l s k)) (line_room (length s) k) new
unfolding field_line
field_put word s l k row h d e₁ e₂ e₃ e₄ =
    rw (← d) (within (384 + parts (of_kind row.kind) * length s) (omega arith) (joined e₁ (joined e₂ (joined e₃ e₄))))

field_lines-append : (word : List ℕ) (xs ys : List Field) → field_lines word (xs ++ ys) ≡ field_lines word xs ++ field_lines word ys
unfolding field_lines
field_lines-append word [] ys = refl
field_lines-append word (x ∷ xs) ys = rw (field_lines-append word xs ys) (simp append_assoc)

-- the lines of the rows before the k-th are put
abbrev pub Listing : FieldList → List ℕ → List ℕ → ℕ → Text → Text → Type 0
Listing l s word k old new = Puts old (field_lines word (up_to (field_at l (octets_at s)) k)) (lines_room (length s) k) new

module _ (l : FieldList) (s word : List ℕ) where
  pub list_start : (old : Text) → Listing l s word 0 old old
  unfolding field_lines up_to
  list_start old = nothing old

  pub list_more : (k : ℕ) {old mid new : Text} → get_or l.present k false ≡ true → Listing l s word k old mid
      → Puts mid (field_line word (field_of l s k)) (line_room (length s) k) new → Listing l s word (k + 1) old new
  unfolding field_lines up_to field_at pick
  list_more k h e f = rw (add-one, field_lines-append, h, append-nil) (joined e f)

  pub list_skip : (k : ℕ) {old new : Text} → get_or l.present k false ≡ false → Listing l s word k old new → Listing l s word (k + 1) old new
  unfolding up_to field_at pick
  list_skip k h e = rw (add-one, h, append-nil) (within (lines_room (length s) (suc k)) (omega arith) e)

  pub list_end : (k : ℕ) {old new : Text} → row_count ≤ k → k ≤ row_count → Listing l s word k old new → Puts old (field_lines word (fields_of l (octets_at s))) (16128 + 26 * length s) new
  unfolding rows
  list_end k h w e = let z : k ≡ row_count = omega arith in within (16128 + 26 * length s) (omega arith) (rw z at e)

-- ---- the whole

pub head-put : (a b d e : ℕ) (s challenge unique : List ℕ) {old o₁ o₂ o₃ new : Text} → Puts old (numbers_line version_word a level_word b) 56 o₁
    → Puts o₁ (numbers_line keymint_word d level_word e) 56 o₂ → Puts o₂ (octets_line challenge_word challenge) (10 + 2 * length s + 2) o₃
    → Puts o₃ (octets_line unique_word unique) (7 + 2 * length s + 2) new → Puts old (head_text a b d e challenge unique) (133 + 4 * length s) new
unfolding head_text
head-put a b d e s challenge unique e₁ e₂ e₃ e₄ = within (133 + 4 * length s) (omega arith) (joined e₁ (joined e₂ (joined e₃ e₄)))

pub count-put : (k : ℕ) {old mid new : Text} → Puts old (named elements_word k) 29 mid → Puts mid newline 1 new → Puts old (count_line k) 30 new
unfolding count_line
count-put k e f = joined e f

pub record_put : (c : Content) (k : ℕ) (s : List ℕ) {old o₁ o₂ o₃ new : Text}
    → Puts old (head_text c.version c.level c.keymint c.keymint_level c.challenge c.unique) (133 + 4 * length s) o₁
    → Puts o₁ (field_lines software_word c.software) (16128 + 26 * length s) o₂ → Puts o₂ (field_lines hardware_word c.hardware) (16128 + 26 * length s) o₃
    → Puts o₃ (count_line k) 30 new → Puts old (content_text c k) (needed (length s)) new
unfolding content_text
record_put c k s e₁ e₂ e₃ e₄ = within (needed (length s)) (omega arith) (joined e₁ (joined e₂ (joined e₃ e₄)))

-- an output that has the room holds the text at its front; one that has not is as it was
module _ (text : List ℕ) (room : ℕ) where
  pub short : (old : List ℕ) → length old < room → (refused output_short 0 ≡ listed room old text) × (old ≡ left (listed room old text) old 0 text)
  unfolding listed guard
  short old h = rw (lt-leb room (length old) h) (refl, refl)

  pub wrote : {old new : Text} → Puts old text room new → old.at ≡ 0 → room ≤ length old.out.now
      → (got new.at ≡ listed room old.out.now text) × (new.out.now ≡ left (listed room old.out.now text) old.out.now 0 text)
  unfolding listed guard
  wrote {old} {new} e z h =
      let w = whole e (omega (arith, z)) in
      let n : new.at ≡ length text = omega (arith, z, w.1) in
      rw (le-leb room (length old.out.now) h) (ap got n, rw z at w.0)

pub refusal_put : (number place : ℕ) {old new : Text} → Puts old (numbers_line refused_word number at_word place) 53 new → Puts old (refusal_text number place) refusal_needed new
unfolding refusal_text
refusal_put number place e = within 64 (omega arith) e
