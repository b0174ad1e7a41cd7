-- `octets_content` meets its contract: an OCTET STRING, and then the end. Assumes nothing.
use native.Mathlib.Nat.{le_refl}
use Rattle.answer.proofs.Results.{handed_on}
use Rattle.schema.specs.Content.{place_at}
use Rattle.schema.specs.Decode.{read_octets, as_place}
use Rattle.records.specs.declared.Part.{Part}
use Rattle.contents.specs.Leaf.{PartBefore}
use Rattle.contents.proofs.Exact.{exactly_no_taken, exactly_as, exactly_kept}
use Rattle.contents.proofs.Kept.{octets_in_lem}
use Rattle.contents.proofs.content.octets_content.Goals as goal

pub returns-in_err-read_octets-clause-is : goal.returns-in_err-read_octets-clause-is
returns-in_err-read_octets-clause-is c = rw (handed_on _ _ c.from_residual.ensures.1) (exactly_no_taken (λ (p : Part). place_at p.start p.len) (read_octets as_place) _ _ _ (le_refl _) _ _ c.in_err-read_octets.ensures.is)

pub returns-in_err-part-clause-is : goal.returns-in_err-part-clause-is
returns-in_err-part-clause-is c = rw (handed_on _ _ c.from_residual-in_err-part.ensures.1) (exactly_as (λ (p : Part). place_at p.start p.len) (read_octets as_place) _ _ _ (le_refl _) _ _ c.in_ok-read_octets.ensures.is c.in_ok-read_octets.ensures.inside.1.0 c.in_err-part.ensures)

pub returns-clause-is : goal.returns-clause-is
returns-clause-is c = exactly_as (λ (p : Part). place_at p.start p.len) (read_octets as_place) _ _ _ (le_refl _) _ _ c.in_ok-read_octets.ensures.is c.in_ok-read_octets.ensures.inside.1.0 c.in_ok-part.ensures

pub returns-clause-bounds : goal.returns-clause-bounds
returns-clause-bounds c = octets_in_lem _ _ (exactly_kept (PartBefore _) _ _ _ c.in_ok-read_octets.ensures.inside.1.1 c.in_ok-part.ensures)
