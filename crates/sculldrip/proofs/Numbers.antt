-- Which numbers each function can answer: a refusal's number comes from one of its tests, and those are few. Assumes
-- nothing.
use mathlib.Core.Bool.{Bool, true, false, not, ◌&&◌}
use mathlib.Core.List.{List, [], ◌∷◌}
use mathlib.Core.Option.{Option, none, some}
use mathlib.Core.Path.{◌≡◌, refl}
use Prim.Native.Nat.{ℕ, ◌<◌, ◌≤◌}
use native.Mathlib.Omega.{arith}
use lib.Dec.{T, eqb, leb, ltb, ltb→lt}
use lib.ListN.{length}
use Rattle.answer.specs.Answer.{Answer, got, refused, guard, bind, pick}
use Rattle.answer.proofs.Logic.{and_left, and_right}
use Rattle.records.specs.declared.Record.{Record}
use Rattle.records.specs.Parts.{inside}
use Rattle.octet_fields.specs.Asked.{list_of, asked_of, asked_octets}
use Rattle.records.specs.Shape.{well_shaped_record}
use Rattle.writer.specs.Written.{written}
use Rattle.ruling.specs.declared.request.Request.{Request}
use Rattle.ruling.specs.Rules.{Rules}
use Rattle.ruling.specs.Ruling.{Check, first_refusing, shape_checks, date_checks, token_checks, device_checks, checks, unless, ruled, ruling}
use Rattle.enrolment.specs.Enrolled.{judged, enrolled}
use Rattle.codec.specs.Octets.{Octets}
use Rattle.schema.specs.Content.{Content, ValueWith, num, nul, oct, nums, trust, Place, place_at}
use Rattle.records.specs.Content.{fields_of}
use Rattle.records.specs.Fields.{field_value}
use Rattle.schema.specs.Decode.{as_octets, read}
use Rattle.schema.proofs.Refusals.{reading_refuses}
use borrow.Author.Tests.{le-leb, le-ltb}
use Rattle.listing.specs.Room.{listed}
use Rattle.listing.specs.Text.{listing}
use Rattle.extension_text.specs.Bytes.{room, extension_listed}
use Rattle.image.specs.Image.{record_in}
use Rattle.sculldrip.specs.Packed.{rest_top, packed}
use Rattle.sculldrip.specs.Calls.{beside, read_into, write_image, ask_image, asked, request_of, rule_image, enrol_image}
use Rattle.sculldrip.specs.Statements.{Tells, one_of, RestWhole, read_refusal, ReadAnswers, WriteAnswers, OctetsAnswers, rule_refusal, RuleAnswers, enrol_refusal, EnrolAnswers, ListAnswers}

-- a refusal's number is one of these, all of them bytes and none of them 0
abbrev Within : {A : Type 0} → (ℕ → Bool) → Answer A → Type 0
Within may (got a) = Unit {0}
Within may (refused number place) = T (may number) × ((1 ≤ number) × (number < 256))

module _ (may : ℕ → Bool) where
  by_guard : {A : Type 0} (b : Bool) (number place : ℕ) (next : Answer A) → T (may number) × ((1 ≤ number) × (number < 256)) → Within may next → Within may (guard b number place next)
  unfolding guard
  by_guard true number place next h n = n
  by_guard false number place next h n = h

  by_bind : {A B : Type 0} (a : Answer A) (next : A → Answer B) → Within may a → ((x : A) → Within may (next x)) → Within may (bind a next)
  unfolding bind
  by_bind (got x) next h n = n x
  by_bind (refused number place) next h n = h

  -- what the number tells
  by_answer : (a : Answer ℕ) → Within may a → Tells may a (packed a)
  by_answer (got n) h = (omega arith, omega arith)
  by_answer (refused number place) h = let g = h.1 in (h.0, g.0, omega arith, omega arith)

  by_count : {A : Type 0} (count : A → ℕ) (a : Answer A) → Within may a → Tells may (beside count a) (packed (beside count a))
  by_count count (got x) h = by_answer (got (count x)) tt
  by_count count (refused number place) h = by_answer (refused number place) h

  from-image : (image : List ℕ) → T (may 20) → T (may 200) → Within may (record_in image)
  unfolding record_in
  from-image image t u = by_guard _ 200 0 _ (u, (omega arith, omega arith)) (by_guard _ 20 0 _ (t, (omega arith, omega arith)) tt)

  of_image_lem : {A : Type 0} (image : List ℕ) (next : Record → Answer A) → T (may 20) → T (may 200) → ((r : Record) → Within may (next r)) → Within may (bind (record_in image) next)
  of_image_lem image next t u n = by_bind (record_in image) next (from-image image t u) n

-- ---- a read: from 1 to 14, as the schema's law has it

of_read : (s : List ℕ) → Octets s → Within read_refusal (read s)
of_read s o = go (read s) refl
  where
    go : (a : Answer (Content × ℕ)) → read s ≡ a → Within read_refusal a
    go (got c) e = tt
    go (refused k q) e = let n = reading_refuses (List ℕ) as_octets s o k q e in (rw (le-leb k 14 (omega (arith, n))) tt, (n.0, omega (arith, n)))

pub read-answers : ReadAnswers
unfolding read_into
read-answers s image o =
    by_count read_refusal (λ c. c.1) (read_into s image) (by_guard read_refusal (leb 410 (length image)) 200 0 (read s) (tt, (omega arith, omega arith)) (of_read s o))

-- ---- a write and an octet field

pub write_answers : WriteAnswers
unfolding write_image written
write_answers image s out =
    let may = one_of (20 ∷ 21 ∷ 22 ∷ 200 ∷ []) in
    by_answer may (write_image image s out)
    (of_image_lem may image (λ r. written r s out) tt tt
    (λ r. by_guard may _ 20 0 _ (tt, (omega arith, omega arith)) (by_guard may _ 22 0 _ (tt, (omega arith, omega arith)) (by_guard may _ 21 0 _ (tt, (omega arith, omega arith)) tt))))

of_value_lem : (o : Option (ValueWith Place)) (len : ℕ) → Within (one_of (20 ∷ 200 ∷ [])) (asked_of o len)
unfolding asked_of
of_value_lem none len = tt
of_value_lem (some (num n)) len = tt
of_value_lem (some nul) len = tt
of_value_lem (some (oct p)) len = by_guard (one_of (20 ∷ 200 ∷ [])) (inside p.start p.len len) 20 0 _ (tt, (omega arith, omega arith)) tt
of_value_lem (some (nums l)) len = tt
of_value_lem (some (trust r)) len = tt

pub octets-answers : OctetsAnswers
unfolding ask_image asked_octets
octets-answers image hardware number len part =
    let may = one_of (20 ∷ 200 ∷ []) in
    by_count may asked (ask_image image hardware number len part)
    (by_guard may (leb 2 (length part)) 200 0 _ (tt, (omega arith, omega arith))
    (of_image_lem may image (λ r. asked_octets r (not (eqb hardware 0)) number len) tt tt
    (λ r. of_value_lem (field_value (fields_of (list_of r (not (eqb hardware 0))) place_at) number) len)))

-- ---- a use: the first check that refuses has its own number

numbers_in : List Check → Bool
numbers_in [] = true
numbers_in (c ∷ cs) = rule_refusal c.0 && (ltb 0 c.0 && (ltb c.0 256 && numbers_in cs))

-- where the first that refuses is none, it is 0
first_in : {A : Type 0} (a : A) (cs : List Check) → T (numbers_in cs) → Within rule_refusal (unless (first_refusing cs) a)
unfolding numbers_in first_refusing unless
first_in a [] t = unfold pick in tt
first_in a (c ∷ cs) t =
    let t₁ = and_right (rule_refusal c.0) _ t in
    let t₂ = and_right (ltb 0 c.0) _ t₁ in
    go c.1 (and_left (rule_refusal c.0) _ t, (ltb→lt 0 c.0 (and_left (ltb 0 c.0) _ t₁), ltb→lt c.0 256 (and_left (ltb c.0 256) _ t₂))) (first_in a cs (and_right (ltb c.0 256) _ t₂))
  where
    one : T (rule_refusal c.0) × ((1 ≤ c.0) × (c.0 < 256)) → (b : Bool) → Within rule_refusal (pick b (got a) (refused c.0 0))
    one x true = unfold pick in tt
    one x false = unfold pick in x

    go : (b : Bool) → T (rule_refusal c.0) × ((1 ≤ c.0) × (c.0 < 256)) → Within rule_refusal (pick (eqb (first_refusing cs) 0) (got a) (refused (first_refusing cs) 0))
        → Within rule_refusal (pick (eqb (pick b c.0 (first_refusing cs)) 0) (got a) (refused (pick b c.0 (first_refusing cs)) 0))
    go true x y = unfold pick in one x (eqb c.0 0)
    go false x y = unfold pick in y

of_ruled : (level keymint_level : ℕ) (s h : Rules) (q : Request) → Within rule_refusal (ruled level keymint_level s h q)
unfolding ruled numbers_in shape_checks date_checks token_checks device_checks
of_ruled level keymint_level s h q = first_in _ (checks s h q) tt

of_ruling_lem : (r : Record) (q : Request) → Within rule_refusal (ruling r q)
unfolding ruling
of_ruling_lem r q = by_guard rule_refusal (well_shaped_record r) 20 0 _ (tt, (omega arith, omega arith)) (of_ruled _ _ _ _ q)

pub rule_answers : RuleAnswers
unfolding rule_image
rule_answers image request permit =
    by_count rule_refusal (λ p. 0) (rule_image image request permit)
    (by_guard rule_refusal (leb 16 (length request)) 200 0 _ (tt, (omega arith, omega arith))
    (by_guard rule_refusal (leb 4 (length permit)) 200 0 _ (tt, (omega arith, omega arith))
    (of_image_lem rule_refusal image (λ r. ruling r (request_of request)) tt tt (λ r. of_ruling_lem r (request_of request)))))

-- ---- an enrolment

of_enrolled : (r : Record) (s expected : List ℕ) → Within enrol_refusal (enrolled r s expected)
unfolding enrolled judged
of_enrolled r s expected =
    by_guard enrol_refusal _ 20 0 _ (tt, (omega arith, omega arith))
    (by_guard enrol_refusal _ 20 0 _ (tt, (omega arith, omega arith))
    (by_guard enrol_refusal _ 50 0 _ (tt, (omega arith, omega arith))
    (by_guard enrol_refusal _ 51 0 _ (tt, (omega arith, omega arith))
    (by_guard enrol_refusal _ 52 0 _ (tt, (omega arith, omega arith))
    (by_guard enrol_refusal _ 53 0 _ (tt, (omega arith, omega arith))
    (by_guard enrol_refusal _ 54 0 _ (tt, (omega arith, omega arith))
    (by_guard enrol_refusal _ 55 0 _ (tt, (omega arith, omega arith)) tt)))))))

pub enrol_answers : EnrolAnswers
unfolding enrol_image
enrol_answers image s expected =
    by_count enrol_refusal (λ u. 0) (enrol_image image s expected) (of_image_lem enrol_refusal image (λ r. enrolled r s expected) tt tt (λ r. of_enrolled r s expected))

-- ---- a listing

of_listed_lem : (room : ℕ) (out text : List ℕ) → Within (one_of (21 ∷ [])) (listed room out text)
unfolding listed
of_listed_lem room out text = by_guard (one_of (21 ∷ [])) (leb room (length out)) 21 0 (got (length text)) (tt, (omega arith, omega arith)) tt

pub list_answers : ListAnswers
list_answers s out = by_answer (one_of (21 ∷ [])) (extension_listed s out) (of_listed_lem (room (read s) (length s)) out (listing (read s)))

-- ---- what 56 bits hold is kept whole

pub rest-whole : RestWhole
unfolding pick
rest-whole n h = rw (le-ltb rest_top n h) refl
