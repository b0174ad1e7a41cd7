-- Document 01's extension is read as the record `said`, and its lists have these rules, by computing; and how many bits its
-- marks have, 32783 being taken apart first, as a count of bits computes for small numbers alone. Assumes nothing.
use mathlib.Core.Path.{◌≡◌, refl}
use mathlib.Core.Bool.{true, false}
use mathlib.Core.Option.{none, some}
use mathlib.Core.List.{[], ◌∷◌}
use Prim.Native.Nat.{ℕ, ◌+◌}
use lib.Ieee.Bits.{is_true}
use lib.Dec.{lit<}
use lib.ListN.{set, replicate}
use lib.Count.{ones, ones_cat}
use Rattle.answer.specs.Answer.{got, guard, bind, pick}
use Rattle.codec.specs.Octets.{octet}
use Rattle.codec.specs.Integer.{integer_of}
use Rattle.codec.specs.Header.{holds, read_high_number, read_identifier, read_length, reported_place, reported, read_header}
use Rattle.codec.specs.Element.{element, tagged, exactly, both, chain_fuel, chain, under}
use Rattle.codec.specs.Tree.{nodes, run, walk_element, first_pass}
use Rattle.schema.specs.Table.{rows, known_version, held_in, find, level_top}
use Rattle.schema.specs.Decode.{read_integer, read_enumerated, read_octets, null_of, read_null, read_member, read_set, read_value, row_content, field_content, read_field, read_list, read_version, read_eight, decode_with, read_with}
use Rattle.records.specs.Content.{value_at, field_at, up_to}
use Rattle.records.specs.Fields.{field_value}
use Rattle.records.specs.Made.{is_there, value_word, size_word, or_zero, members_in, root_in}
use Rattle.records.specs.Rows.{all_below}
use Rattle.records.specs.Parts.{content_inside, row_inside, list_inside, parts_inside}
use Rattle.records.specs.Shape.{set_shaped, value_shaped, row_shaped, list_shaped, head_shaped, well_shaped_record}
use Rattle.records.specs.declared.NumberSet.{NumberSet}
use Rattle.records.specs.declared.Record.{Record}
use Rattle.reader.specs.Reading.{Reads}
use Rattle.records.specs.Empty.{empty_set, empty_root}
use Rattle.checks.specs.Tags.{there}
use Rattle.ruling.specs.Rules.{number_in, set_in, Rules, rules_of}
use Rattle.ruling.specs.Ruling.{ruled, ruling}
use Rattle.ruling.specs.declared.request.Request.{Request}
use Rattle.ruling.proofs.Permitted.{well_shaped-is-ruled}
use Rattle.marked_cases.specs.Cases.{extension}

abbrev single : ℕ → NumberSet
single n = record { members = set (replicate 16 0) 0 n; count = 1 }

-- rows 0, 1, 3, 4, 10, 14 and 24 are 1 purpose, 2 algorithm, 5 digest, 6 padding, 400, 503 and 702
abbrev pub said : Record
said = record {
  attestation = record { version = 3; level = 1 };
  keymint = record { version = 4; level = 1 };
  challenge = record { start = 16; len = 3 };
  unique = record { start = 21; len = 0 };
  software = record {
    present = set (replicate 42 false) 10 true;
    values = set (replicate 42 0) 10 1609459200000;
    sizes = replicate 42 0;
    purpose = empty_set;
    digest = empty_set;
    padding = empty_set;
    mgf = empty_set;
    root = empty_root;
  };
  hardware = record {
    present = set (set (set (set (set (set (replicate 42 false) 0 true) 1 true) 3 true) 4 true) 14 true) 24 true;
    values = set (replicate 42 0) 1 3;
    sizes = replicate 42 0;
    purpose = single 2;
    digest = single 4;
    padding = single 1;
    mgf = empty_set;
    root = empty_root;
  };
}

pub said_read : Reads extension (got 26) said
unfolding read_with decode_with read_eight read_version read_list read_field field_content row_content read_value read_set read_member read_null null_of read_octets read_enumerated read_integer integer_of rows known_version held_in find level_top element tagged exactly both chain chain_fuel under first_pass walk_element run nodes holds read_header reported reported_place read_identifier read_high_number read_length octet guard bind pick value_at field_at up_to all_below content_inside row_inside list_inside parts_inside set_shaped value_shaped row_shaped list_shaped head_shaped well_shaped_record field_value is_there value_word size_word or_zero members_in root_in
said_read = record { is = refl; empty = tt; sound = (tt, tt); made = refl }

abbrev pub software_said : Rules
software_said = record {
  purpose = none;
  algorithm = none;
  padding = none;
  digest = none;
  key_size = none;
  active = some 1609459200000;
  origination = none;
  usage = none;
  auth_type = none;
  auth_timeout = none;
  unlocked = false;
  presence = false;
  confirmation = false;
  early_boot = false;
  use_limit = none;
  no_auth = false;
}

abbrev pub hardware_said : Rules
hardware_said = record {
  purpose = some (2 ∷ []);
  algorithm = some 3;
  padding = some (1 ∷ []);
  digest = some (4 ∷ []);
  key_size = none;
  active = none;
  origination = none;
  usage = none;
  auth_type = none;
  auth_timeout = none;
  unlocked = false;
  presence = false;
  confirmation = false;
  early_boot = false;
  use_limit = none;
  no_auth = true;
}

pub said-ruled : (q : Request) → ruling said q ≡ ruled 1 1 software_said hardware_said q
unfolding rules_of number_in set_in there field_value value_at field_at up_to rows pick
said-ruled q = well_shaped-is-ruled said q (is_true (well_shaped_record said) said_read.sound.0)

-- 32783 is 1 · 2¹⁵ + 15
pub hardware-parts : ones 32783 ≡ ones 1 + ones 15
hardware-parts = ones_cat 15 1 15 (lit< tt)

pub hardware-bits : ones 1 + ones 15 ≡ 5
unfolding ones
hardware-bits = refl

pub software-bits : ones 32 ≡ 1
unfolding ones
software-bits = refl
