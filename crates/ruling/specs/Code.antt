-- What the code's values stand for: a list's rules, and an answer, which is a permit or document 01's number and place.
use Rattle.std.specs.Prelude.{ℕ, Result, Ok, Err}
use Rattle.answer.specs.Answer.{Answer, answer_of}
use Rattle.answer.specs.Refusal.{number_of}
use Rattle.answer.specs.declared.Refusal.{Refusal}
use Rattle.answer.specs.declared.Refused.{Refused}
use Rattle.checks.specs.Code.{of_number_tag, of_set_tag}
use Rattle.ruling.specs.Rules.{Rules}
use Rattle.ruling.specs.Ruling.{Permit}
use Rattle.ruling.specs.declared.Permit as code
use Rattle.ruling.specs.declared.rules.Rules as rules

-- a list's rules, tag by tag
abbrev pub of_rules : rules.Rules → Rules
of_rules r = record {
  purpose = of_set_tag r.purpose;
  algorithm = of_number_tag r.algorithm;
  padding = of_set_tag r.padding;
  digest = of_set_tag r.digest;
  key_size = of_number_tag r.key_size;
  active = of_number_tag r.active;
  origination = of_number_tag r.origination;
  usage = of_number_tag r.usage;
  auth_type = of_number_tag r.auth_type;
  auth_timeout = of_number_tag r.auth_timeout;
  unlocked = r.unlocked;
  presence = r.presence;
  confirmation = r.confirmation;
  early_boot = r.early_boot;
  use_limit = of_number_tag r.use_limit;
  no_auth = r.no_auth;
}

-- a permit's marks and counts
abbrev pub of_permit : code.Permit → Permit
of_permit p = record { hardware = p.hardware; hardware_bits = p.hardware_bits; software = p.software; software_bits = p.software_bits }

-- .. or a refusal
abbrev pub of_ruling : Result code.Permit Refused → Answer Permit
of_ruling a = answer_of of_permit a

-- the number of a refusal; 0 where there is none
abbrev pub number_or_zero : Result (Unit {0}) Refusal → ℕ
number_or_zero (Ok x) = 0
number_or_zero (Err r) = number_of r
