-- The answer depends on nothing but well-shapedness, the two levels and the rules of both lists; and the rules on nothing
-- but what the fields that a list holds say. Assumes nothing.
use mathlib.Core.Path.{◌≡◌, refl, sym, ap, ◌∙◌}
use mathlib.Core.List.{List}
use Prim.Native.Nat.{ℕ}
use Rattle.schema.specs.Content.{place_at}
use Rattle.records.specs.Content.{octets_at}
use Rattle.records.specs.Equal.{SameFields}
use Rattle.records.specs.declared.FieldList.{FieldList}
use Rattle.records.proofs.Equal.{same_fields}
use Rattle.ruling.specs.Rules.{said_fields, rules_of}
use Rattle.ruling.specs.Ruling.{ruling}
use Rattle.ruling.specs.Statements.{NothingElse, OctetsUnseen, EqualRuled}
use Rattle.ruling.proofs.TagRows.{by_rows}

pub nothing_else : NothingElse
unfolding ruling
nothing_else r r' q e a k s h = rw (e, a, k, s, h) refl

pub octets_unseen : OctetsUnseen
octets_unseen l s = sym (by_rows l place_at) ∙ by_rows l (octets_at s)

same-rules : (l : FieldList) (s : List ℕ) (l' : FieldList) (s' : List ℕ) → SameFields l s l' s' → rules_of (said_fields l) ≡ rules_of (said_fields l')
same-rules l s l' s' e = octets_unseen l s ∙ ap rules_of (same_fields l s l' s' e) ∙ sym (octets_unseen l' s')

pub equal_ruled : EqualRuled
equal_ruled r s r' s' q e f same =
    nothing_else r r' q (e ∙ sym f) same.level same.keymint_level
    (same-rules r.software s r'.software s' same.software)
    (same-rules r.hardware s r'.hardware s' same.hardware)
