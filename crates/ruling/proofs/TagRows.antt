-- The rows that the code goes by are those of document 01's numbers: what a list says under a number is what its row
-- holds, wherever the octet parts lie. One computed theorem, `by_rows`. Assumes nothing.
use mathlib.Core.Path.{◌≡◌, refl, sym, ap, ◌∙◌}
use mathlib.Core.Bool.{Bool, true, false}
use mathlib.Core.Option.{Option, none, some}
use mathlib.Core.List.{List}
use Prim.Native.Nat.{ℕ, ◌<◌}
use lib.Dec.{lit<}
use lib.ListN.{get_or}
use Rattle.answer.specs.Answer.{pick}
use Rattle.schema.specs.Table.{rows, row_at, row_count}
use Rattle.schema.specs.Content.{ValueWith, num, nums, place_at}
use Rattle.records.specs.Content.{members_of, value_at, fields_of}
use Rattle.records.specs.Equal.{present_at}
use Rattle.records.specs.Fields.{field_value}
use Rattle.records.specs.declared.FieldList.{FieldList}
use Rattle.records.specs.declared.NumberSet.{NumberSet}
use Rattle.records.proofs.Fields.{row-value}
use Rattle.checks.specs.Tags.{there}
use Rattle.ruling.specs.Rules.{number_in, set_in, said_fields, Rules, rules_of}
use Rattle.ruling.specs.Ruling.{held_tags}
use Rattle.std.specs.Bool.{then_some}
use Rattle.std.specs.Prelude as code
use Rattle.checks.specs.Code.{given, seen}
use Rattle.ruling.specs.Statements.{TagsNumbered}
use Rattle.checks.proofs.Tags.{there-given}

-- ---- one field, there or not

number_in_lem : (O : Type 0) (b : Bool) (n : ℕ) → number_in {O = O} (pick b (some (num n)) none) ≡ given b n
unfolding number_in given pick
number_in_lem O true n = refl
number_in_lem O false n = refl

set_in_lem : (O : Type 0) (b : Bool) (l : List ℕ) → set_in {O = O} (pick b (some (nums l)) none) ≡ given b l
unfolding set_in given pick
set_in_lem O true l = refl
set_in_lem O false l = refl

there_in : {O : Type 0} (b : Bool) (v : ValueWith O) → there (pick b (some v) none) ≡ b
unfolding there pick
there_in true v = refl
there_in false v = refl

-- .. and the code's, by a flag
pub taken : {T A : Type 0} (f : T → A) (b : Bool) (x : T) (o : code.Option T) → o ≡ then_some b x → seen f o ≡ given b (f x)
unfolding given
taken f true x o e = rw e refl
taken f false x o e = rw e refl

-- ---- every tag, by its row

module _ (l : FieldList) where
  abbrev number_at : ℕ → Option ℕ
  number_at k = given (present_at l k) (get_or l.values k 0)

  abbrev set_at : ℕ → NumberSet → Option (List ℕ)
  set_at k g = given (present_at l k) (members_of g)

  abbrev pub rules_by_rows : Rules
  rules_by_rows = record {
    purpose = set_at 0 l.purpose;
    algorithm = number_at 1;
    padding = set_at 4 l.padding;
    digest = set_at 3 l.digest;
    key_size = number_at 2;
    active = number_at 10;
    origination = number_at 11;
    usage = number_at 12;
    auth_type = number_at 15;
    auth_timeout = number_at 16;
    unlocked = present_at l 20;
    presence = present_at l 18;
    confirmation = present_at l 19;
    early_boot = present_at l 9;
    use_limit = number_at 13;
    no_auth = present_at l 14;
  }

  module _ {O : Type 0} (part : ℕ → ℕ → O) where
    number-row : (n k : ℕ) → field_value (fields_of l part) n ≡ pick (present_at l k) (some (num (get_or l.values k 0))) none → number_in (field_value (fields_of l part) n) ≡ number_at k
    number-row n k e = ap (number_in {O = O}) e ∙ number_in_lem O (present_at l k) (get_or l.values k 0)

    set-row : (n k : ℕ) (g : NumberSet) → field_value (fields_of l part) n ≡ pick (present_at l k) (some (nums (members_of g))) none → set_in (field_value (fields_of l part) n) ≡ set_at k g
    set-row n k g e = ap (set_in {O = O}) e ∙ set_in_lem O (present_at l k) (members_of g)

    held-row : (n k : ℕ) → k < row_count → (row_at k).number ≡ n → there (field_value (fields_of l part) n) ≡ present_at l k
    held-row n k h e = rw (← e) (ap there (row-value l part k h) ∙ there_in (present_at l k) (value_at l part (row_at k).number (row_at k).kind k))

    pub by_rows : rules_by_rows ≡ rules_of (fields_of l part)
    unfolding rules_of value_at rows pick
    by_rows =
        cc (
          set-row 1 0 l.purpose (row-value l part 0 (lit< tt)),
          number-row 2 1 (row-value l part 1 (lit< tt)),
          set-row 6 4 l.padding (row-value l part 4 (lit< tt)),
          set-row 5 3 l.digest (row-value l part 3 (lit< tt)),
          number-row 3 2 (row-value l part 2 (lit< tt)),
          number-row 400 10 (row-value l part 10 (lit< tt)),
          number-row 401 11 (row-value l part 11 (lit< tt)),
          number-row 402 12 (row-value l part 12 (lit< tt)),
          number-row 504 15 (row-value l part 15 (lit< tt)),
          number-row 505 16 (row-value l part 16 (lit< tt)),
          held-row 509 20 (lit< tt) refl,
          held-row 507 18 (lit< tt) refl,
          held-row 508 19 (lit< tt) refl,
          held-row 305 9 (lit< tt) refl,
          number-row 405 13 (row-value l part 13 (lit< tt)),
          held-row 503 14 (lit< tt) refl,
        )

  -- the tags that the code finds, each by its row
  pub tags_by_rows : {purpose padding digest : Option (List ℕ)} {algorithm key_size active origination usage auth_type auth_timeout use_limit : Option ℕ}
      → purpose ≡ set_at 0 l.purpose → algorithm ≡ number_at 1 → padding ≡ set_at 4 l.padding → digest ≡ set_at 3 l.digest → key_size ≡ number_at 2
      → active ≡ number_at 10 → origination ≡ number_at 11 → usage ≡ number_at 12 → auth_type ≡ number_at 15 → auth_timeout ≡ number_at 16 → use_limit ≡ number_at 13
      → ◌≡◌ {A = Rules} (record {
        purpose = purpose;
        algorithm = algorithm;
        padding = padding;
        digest = digest;
        key_size = key_size;
        active = active;
        origination = origination;
        usage = usage;
        auth_type = auth_type;
        auth_timeout = auth_timeout;
        unlocked = present_at l 20;
        presence = present_at l 18;
        confirmation = present_at l 19;
        early_boot = present_at l 9;
        use_limit = use_limit;
        no_auth = present_at l 14;
      }) (rules_of (said_fields l))
  tags_by_rows e₀ e₁ e₂ e₃ e₄ e₅ e₆ e₇ e₈ e₉ e₁₀ = cc (by_rows place_at)

-- the fields that a list holds under the numbers of a mark's bits, by their rows
pub tags_numbered : TagsNumbered
unfolding held_tags rows
tags_numbered l =
    ap held_tags (sym (by_rows l place_at))
    ∙ simp (
      there-given,
      held-row l place_at 1 0 (lit< tt) refl,
      held-row l place_at 2 1 (lit< tt) refl,
      held-row l place_at 6 4 (lit< tt) refl,
      held-row l place_at 5 3 (lit< tt) refl,
      held-row l place_at 3 2 (lit< tt) refl,
      held-row l place_at 400 10 (lit< tt) refl,
      held-row l place_at 401 11 (lit< tt) refl,
      held-row l place_at 402 12 (lit< tt) refl,
      held-row l place_at 504 15 (lit< tt) refl,
      held-row l place_at 505 16 (lit< tt) refl,
      held-row l place_at 509 20 (lit< tt) refl,
      held-row l place_at 507 18 (lit< tt) refl,
      held-row l place_at 508 19 (lit< tt) refl,
      held-row l place_at 305 9 (lit< tt) refl,
      held-row l place_at 405 13 (lit< tt) refl,
      held-row l place_at 503 14 (lit< tt) refl,
    )
