-- Every case that document 01 marks (P) holds: a lemma a case, by computing the definitions, and one theorem over the list;
-- a ruling at one record that the extension is read as. Assumes nothing.
use mathlib.Core.Path.{◌≡◌, refl, ◌∙◌}
use mathlib.Core.List.{[], ◌∷◌}
use Rattle.answer.specs.Answer.{Answer, got, refused, guard, bind, pick}
use Rattle.codec.specs.Octets.{octet}
use Rattle.codec.specs.Integer.{integer_of}
use Rattle.codec.specs.Header.{holds, read_high_number, read_identifier, read_length, reported_place, reported, read_header}
use Rattle.codec.specs.Element.{element, tagged, exactly, both, chain_fuel, chain, under}
use Rattle.codec.specs.Tree.{nodes, run, walk_element, first_pass}
use Rattle.schema.specs.Table.{rows, known_version, held_in, find, level_top}
use Rattle.schema.specs.Decode.{read_integer, read_enumerated, read_octets, null_of, read_null, read_member, read_set, read_value, row_content, field_content, read_field, read_list, read_version, read_eight, decode_with, read_with, read}
use Rattle.ruling.specs.declared.request.Request.{Request}
use Rattle.checks.specs.Tags.{there, allows, member}
use Rattle.checks.specs.Checks.{known_purpose, purpose_refused, agreed, algorithm_fits, padding_fits, padding_refused, looks_at_digest, digest_fits, digest_refused, digest_bytes, key_size_refused, signs, clock_refused, active_refused, expiry_refused, auth_missing, token_refused, fresh_refused, uses_refused}
use Rattle.ruling.specs.Ruling.{first_refusing, shape_checks, date_checks, token_checks, device_checks, held_tags, looked, bit, mark_of, permit, permit_of, unless, ruled, Permit}
use Rattle.listing.specs.Text.{digits, decimal, hex_digit, hex_pair, hex_text, octets_text, more_numbers, numbers_text, value_text, named, numbers_line, octets_line, field_line, field_lines, count_line, head_text, content_text, listing}
use Rattle.marked_cases.specs.Cases.{Use, Ruled, KeySizeCase, Holds, Every, extension, text, sign, permitted, cases, MarkedCases}
use Rattle.marked_cases.proofs.Ruled.{asking, ruled_by}
use Rattle.marked_cases.proofs.Sample.{said, said_read, software_said, hardware_said, said-ruled, hardware-parts, hardware-bits, software-bits}

-- ---- the extension, listed

extension-listed : listing (read extension) ≡ text
unfolding listing content_text head_text count_line field_lines field_line octets_line numbers_line named value_text numbers_text more_numbers octets_text hex_text hex_pair hex_digit decimal digits read_with decode_with read_eight read_version read_list read_field field_content row_content read_value read_set read_member read_null null_of read_octets read_enumerated read_integer integer_of rows known_version held_in find level_top element tagged exactly both chain chain_fuel under first_pass walk_element run nodes holds read_header reported reported_place read_identifier read_high_number read_length octet guard bind pick
extension-listed = refl

-- ---- rulings on it

by_rules : (u : Use) (a : Answer Permit) → ((q : Request) → ruled 1 1 software_said hardware_said (asking u q) ≡ a) → Ruled extension u a
by_rules u a e = ruled_by extension 26 said said_read u a (λ q. said-ruled (asking u q) ∙ e q)

on_the_date_permitted : Ruled extension (sign 4 1609459200000) (got permitted)
unfolding ruled unless first_refusing shape_checks date_checks token_checks device_checks known_purpose purpose_refused agreed algorithm_fits padding_fits padding_refused looks_at_digest digest_fits digest_refused key_size_refused signs clock_refused active_refused expiry_refused auth_missing token_refused fresh_refused uses_refused there allows member pick permit_of permit mark_of bit looked held_tags
on_the_date_permitted = by_rules (sign 4 1609459200000) (got permitted) (λ q. rw (hardware-parts, hardware-bits, software-bits) refl)

before_the_date_37 : Ruled extension (sign 4 1609459199999) (refused 37 0)
unfolding ruled unless first_refusing shape_checks date_checks known_purpose purpose_refused agreed algorithm_fits padding_fits padding_refused looks_at_digest digest_fits digest_refused key_size_refused signs clock_refused active_refused there allows member pick
before_the_date_37 = by_rules (sign 4 1609459199999) (refused 37 0) (λ q. refl)

clock_of_0_36 : Ruled extension (sign 4 0) (refused 36 0)
unfolding ruled unless first_refusing shape_checks date_checks known_purpose purpose_refused agreed algorithm_fits padding_fits padding_refused looks_at_digest digest_fits digest_refused key_size_refused signs clock_refused there allows member pick
clock_of_0_36 = by_rules (sign 4 0) (refused 36 0) (λ q. refl)

other_digest_34 : Ruled extension (sign 5 1609459200000) (refused 34 0)
unfolding ruled unless first_refusing shape_checks known_purpose purpose_refused agreed algorithm_fits padding_fits padding_refused looks_at_digest digest_fits digest_refused there allows member pick
other_digest_34 = by_rules (sign 5 1609459200000) (refused 34 0) (λ q. refl)

-- ---- check 35 alone

key_of_1033 : KeySizeCase 6 1033 (got tt)
unfolding unless first_refusing key_size_refused digest_bytes there allows pick
key_of_1033 = record { software = refl; hardware = refl; both = refl }

key_of_1032 : KeySizeCase 6 1032 (refused 35 0)
unfolding unless first_refusing key_size_refused digest_bytes there allows pick
key_of_1032 = record { software = refl; hardware = refl; both = refl }

-- ---- bytes that are refused

empty_2 : read [] ≡ refused 2 0
unfolding read_with first_pass walk_element exactly read_header read_identifier octet guard bind pick
empty_2 = refl

indefinite_4 : read (0x30 ∷ 0x80 ∷ []) ≡ refused 4 0
unfolding read_with first_pass walk_element exactly read_header reported reported_place read_identifier read_length octet guard bind pick
indefinite_4 = refl

spare_byte_7 : read (0x05 ∷ 0x00 ∷ 0x00 ∷ []) ≡ refused 7 2
unfolding read_with first_pass walk_element exactly holds read_header reported read_identifier read_length octet guard bind pick
spare_byte_7 = refl

no_sequence_9 : read (0x05 ∷ 0x00 ∷ []) ≡ refused 9 0
unfolding read_with decode_with tagged element exactly first_pass walk_element holds nodes read_header reported read_identifier read_length octet guard bind pick
no_sequence_9 = refl

-- ---- the list

also : {A B : Type 0} → A → B → A × B
also a b = (a, b)

pub marked_cases : MarkedCases
unfolding cases Every Holds
marked_cases =
    also extension-listed
    (also on_the_date_permitted
    (also before_the_date_37
    (also clock_of_0_36
    (also other_digest_34
    (also key_of_1033
    (also key_of_1032
    (also empty_2
    (also indefinite_4
    (also spare_byte_7
    (also no_sequence_9 tt))))))))))
