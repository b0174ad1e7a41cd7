-- The laws of the identifier, the length and both: each is read back from its octets, and what is read was written so.
-- The idea: the three forms of an identifier, and of a length, one equation each. Assumes nothing.
use mathlib.Core.Path.{◌≡◌, refl, sym, ap, ◌∙◌}
use mathlib.Core.Bool.{true}
use mathlib.Core.List.{List, [], ◌∷◌, ◌++◌, append_assoc}
use Prim.Native.Nat.{ℕ, ◌+◌, ◌*◌, ◌/◌, ◌%◌, ◌<◌, ◌≤◌}
use native.Mathlib.Omega.{arith}
use lib.ListN.{length, length-append}
use lib.Dec.{T, leb, ltb, eqb, leb→le, le→leb, lt→ltb, ltb→lt, eqb→eq}
use lib.Arith.{le→nltb}
use borrow.Author.Tests.{eq-eqb, ne_eqb}
use Rattle.answer.specs.Answer.{Answer, got, refused, pick}
use Rattle.answer.proofs.Logic.{by_le, and_right, and_both, not_equal}
use Rattle.answer.proofs.Answer.{guard_yes, guard_case, got_inj, refused-got, pick_yes, pick_no, pick_case, bind-got, bind_case}
use Rattle.codec.specs.Octets.{Octets, Taken, taken, octet}
use Rattle.codec.specs.Shortest.{length_octets}
use Rattle.codec.specs.Header.{Identifier, identifier, read_high_number, read_identifier, read_length, Header, header, reported, read_header, identifier_octets, identifier_good, length_good, header_octets}
use Rattle.codec.proofs.Octets.{octets_right, same_taken, octet_case}
use Rattle.codec.proofs.Shortest.{length-short, length_one, length_two}
use Rattle.codec.specs.Statements.{IdentifierLaws, LengthLaws}

pub same-identifier : (a b f n : ℕ) → a ≡ f → b ≡ n → identifier a b ≡ identifier f n
same-identifier a b f n e q = rw (e, q)

-- ---- the identifier

pub one_octet : (i : Identifier) → i.number < 31 → identifier_octets i ≡ (i.form * 32 + i.number) ∷ []
unfolding identifier_octets
one_octet i h = pick_yes _ _ _ (lt→ltb i.number 31 h)

pub two_octets : (i : Identifier) → 31 ≤ i.number → i.number < 128 → identifier_octets i ≡ (i.form * 32 + 31) ∷ i.number ∷ []
unfolding identifier_octets
two_octets i l h = pick_no _ _ _ (le→nltb i.number 31 l) ∙ pick_yes _ _ _ (lt→ltb i.number 128 h)

pub three_octets : (i : Identifier) → 128 ≤ i.number → identifier_octets i ≡ (i.form * 32 + 31) ∷ (128 + i.number / 128) ∷ i.number % 128 ∷ []
unfolding identifier_octets
three_octets i l = pick_no _ _ _ (le→nltb i.number 31 (omega arith)) ∙ pick_no _ _ _ (le→nltb i.number 128 l)

identifier-back : (p : ℕ) (i : Identifier) (r : List ℕ) → T (identifier_good i) → read_identifier p (identifier_octets i ++ r) ≡ got (taken i (p + length (identifier_octets i)) r)
unfolding read_identifier read_high_number octet pick
identifier-back p i r t =
    let f : ℕ = i.form in
    let n : ℕ = i.number in
    let small : n < 16384 = ltb→lt n 16384 (and_right (ltb f 8) _ t) in
    let m : eqb ((f * 32 + 31) % 32) 31 ≡ true = eq-eqb ((f * 32 + 31) % 32) 31 (omega arith) in
    let q : (f * 32 + 31) / 32 ≡ f = omega arith in
    by_le 31 n
    (λ l. by_le 128 n
    (λ l'. rw (three_octets i l', m)
    (pick_no (ltb (128 + n / 128) 128) _ _ (le→nltb (128 + n / 128) 128 (omega arith))
    ∙ guard_yes (ltb 128 (128 + n / 128)) _ _ _ (lt→ltb 128 (128 + n / 128) (omega arith))
    ∙ guard_yes (ltb (n % 128) 128) _ _ _ (lt→ltb (n % 128) 128 (omega arith))
    ∙ same_taken _ _ _ _ r (same-identifier _ _ f n q (omega arith)) (omega arith)))
    (λ h. rw (two_octets i l h, m)
    (pick_yes (ltb n 128) _ _ (lt→ltb n 128 h)
    ∙ guard_yes (leb 31 n) _ _ _ (le→leb 31 n l)
    ∙ same_taken _ _ _ _ r (same-identifier _ _ f n q refl) (omega arith))))
    (λ h. rw (one_octet i h, ne_eqb ((f * 32 + n) % 32) 31 (omega arith))
    (same_taken _ _ _ _ r (same-identifier _ _ f n (omega arith) (omega arith)) refl))

identifier_good_lem : (f n : ℕ) → f < 8 → n < 16384 → T (identifier_good (identifier f n))
identifier_good_lem f n h l = and_both (ltb f 8) _ (lt→ltb f 8 h) (lt→ltb n 16384 l)

identifier-sound : (p : ℕ) (bs : List ℕ) (w : Taken Identifier) → Octets bs → read_identifier p bs ≡ got w
    → T (identifier_good w.val) × (identifier_octets w.val ++ w.rest ≡ bs)
unfolding read_identifier read_high_number
identifier-sound p bs w o e =
    octet_case _ _ _ o e λ a r ea ha oa e₁.
    pick_case _ _ _ e₁
    (λ t e₂.
    let low : a % 32 ≡ 31 = eqb→eq (a % 32) 31 t in
    let q : a / 32 * 32 + 31 ≡ a = omega arith in
    octet_case _ _ _ oa e₂ λ b r₂ eb hb ob e₃.
    pick_case _ _ _ e₃
    (λ t₂ e₄. guard_case _ _ _ _ e₄ λ l e₅.
    let h : b < 128 = ltb→lt b 128 t₂ in
    rw (← got_inj e₅) (identifier_good_lem (a / 32) b (omega arith) (omega arith), rw (two_octets (identifier (a / 32) b) (leb→le 31 b l) h, q, ea, eb)))
    (λ t₂ e₄. guard_case _ _ _ _ e₄ λ l e₅.
    octet_case _ _ _ ob e₅ λ c r₃ ec hc oc e₆.
    guard_case _ _ _ _ e₆ λ l₂ e₇.
    let hb' : 128 < b = ltb→lt 128 b l in
    let hc' : c < 128 = ltb→lt c 128 l₂ in
    let n : ℕ = b % 128 * 128 + c in
    let q₂ : 128 + n / 128 ≡ b = omega arith in
    let q₃ : n % 128 ≡ c = omega arith in
    rw (← got_inj e₇) (identifier_good_lem (a / 32) n (omega arith) (omega arith), rw (three_octets (identifier (a / 32) n) (omega arith), q, q₂, q₃, ea, eb, ec))))
    (λ t e₂.
    let ne = not_equal (a % 32) 31 t in
    let h : a % 32 < 31 = omega arith in
    let q : a / 32 * 32 + a % 32 ≡ a = omega arith in
    rw (← got_inj e₂) (identifier_good_lem (a / 32) (a % 32) (omega arith) (omega arith), rw (one_octet (identifier (a / 32) (a % 32)) h, q, ea)))

pub identifier_laws : IdentifierLaws
identifier_laws = record { back = identifier-back; sound = identifier-sound }

-- ---- the length

length_back : (p n : ℕ) (r : List ℕ) → T (length_good n) → read_length p (length_octets n ++ r) ≡ got (taken n (p + length (length_octets n)) r)
unfolding read_length octet pick
length_back p n r t =
    by_le 128 n
    (λ l. by_le 256 n
    (λ l'. rw (length_two n l' (ltb→lt n 65536 t)) (guard_yes (leb 1 (n / 256)) _ _ _ (le→leb 1 (n / 256) (omega arith)) ∙ same_taken _ _ _ _ r (omega arith) (omega arith)))
    (λ h. rw (length_one n l h) (guard_yes (leb 128 n) _ _ _ (le→leb 128 n l) ∙ same_taken _ _ _ _ r refl (omega arith))))
    (λ h. rw (length-short n h) (pick_yes (ltb n 128) _ _ (lt→ltb n 128 h)))

length-sound : (p : ℕ) (bs : List ℕ) (w : Taken ℕ) → Octets bs → read_length p bs ≡ got w → T (length_good w.val) × (length_octets w.val ++ w.rest ≡ bs)
unfolding read_length
length-sound p bs w o e =
    octet_case _ _ _ o e λ a r ea ha oa e₁.
    pick_case _ _ _ e₁
    (λ t e₂. rw (← got_inj e₂) (lt→ltb a 65536 (omega arith), rw (length-short a (ltb→lt a 128 t), ea)))
    (λ f e₂. pick_case _ _ _ e₂
    (λ t e₃. octet_case _ _ _ oa e₃ λ b r₂ eb hb ob e₄.
    guard_case _ _ _ _ e₄ λ l e₅.
    rw (← got_inj e₅) (lt→ltb b 65536 (omega arith), rw (length_one b (leb→le 128 b l) hb, ea, eb, eqb→eq a 129 t)))
    (λ f' e₃. pick_case _ _ _ e₃
    (λ t e₄. octet_case _ _ _ oa e₄ λ b r₂ eb hb ob e₅.
    guard_case _ _ _ _ e₅ λ l e₆.
    octet_case _ _ _ ob e₆ λ c r₃ ec hc oc e₇.
    let h : 1 ≤ b = leb→le 1 b l in
    let small : b * 256 + c < 65536 = omega arith in
    let q : (b * 256 + c) / 256 ≡ b = omega arith in
    let m : (b * 256 + c) % 256 ≡ c = omega arith in
    rw (← got_inj e₇) (lt→ltb (b * 256 + c) 65536 small, rw (length_two (b * 256 + c) (omega arith) small, q, m, ea, eb, ec, eqb→eq a 130 t)))
    (λ f'' e₄. absurd (refused-got e₄))))

pub length_laws : LengthLaws
length_laws = record { back = length_back; sound = length-sound }

-- ---- both

reported-got : {A : Type 0} (start : ℕ) (m : Answer A) (a : A) → m ≡ got a → reported start m ≡ got a
unfolding reported
reported-got start m a e = rw e refl

reported_case : {A : Type 0} (start : ℕ) (m : Answer A) {a : A} → reported start m ≡ got a → m ≡ got a
unfolding reported
reported_case start (got a) e = e
reported_case start (refused k q) e = absurd (refused-got e)

pub header-back : (p : ℕ) (i : Identifier) (n : ℕ) (r : List ℕ) → T (identifier_good i) → T (length_good n) → n ≤ length r
    → read_header p (header_octets i n ++ r) ≡ got (taken (header i n) (p + length (header_octets i n)) r)
unfolding read_header header_octets
header-back p i n r t u h =
    reported-got p _ _
    (rw (append_assoc (identifier_octets i) (length_octets n) r)
    (bind-got _ _ _ (identifier-back p i (length_octets n ++ r) t)
    ∙ bind-got _ _ _ (length_back (p + length (identifier_octets i)) n r u)
    ∙ guard_yes _ _ _ _ (le→leb n (length r) h)
    ∙ same_taken _ _ _ _ r refl (omega (arith, length-append (identifier_octets i) (length_octets n)))))

-- what a header that was read says of the octets
pub record Headed (bs : List ℕ) (w : Taken Header) : Type 0 where
  pub good : T (identifier_good w.val.id)
  pub small : T (length_good w.val.size)
  pub inside : w.val.size ≤ length w.rest
  pub whole : header_octets w.val.id w.val.size ++ w.rest ≡ bs
  pub octets : Octets w.rest

-- and of the place after it
pub header-next : (p : ℕ) (bs : List ℕ) (w : Taken Header) → Headed bs w → read_header p bs ≡ got w → w.next ≡ p + length (header_octets w.val.id w.val.size)
header-next p bs w s e =
    let b = header-back p w.val.id w.val.size w.rest s.good s.small s.inside in
    ap (λ (u : Taken Header). u.next) (got_inj (sym e ∙ rw s.whole at b))

pub header-sound : (p : ℕ) (bs : List ℕ) (w : Taken Header) → Octets bs → read_header p bs ≡ got w → Headed bs w
unfolding read_header header_octets
header-sound p bs w o e =
    bind_case _ _ (reported_case p _ e) λ i ei e₁.
    bind_case _ _ e₁ λ l el e₂.
    guard_case _ _ _ _ e₂ λ t e₃.
    let s = identifier-sound p bs i o ei in
    let o₁ : Octets i.rest = octets_right (identifier_octets i.val) i.rest (rw s.1 o) in
    let z = length-sound i.next i.rest l o₁ el in
    rw (← got_inj e₃) record {
      good = s.0;
      small = z.0;
      inside = leb→le l.val (length l.rest) t;
      whole = rw (append_assoc, z.1) s.1;
      octets = octets_right (length_octets l.val) l.rest (rw z.1 o₁);
    }
