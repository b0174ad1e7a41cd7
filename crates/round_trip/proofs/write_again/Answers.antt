-- `write_again` meets its contract: what is accepted is written as it was. Assumes nothing.
use mathlib.Core.Path.{refl}
use Rattle.answer.proofs.Results.{handed_on}
use Rattle.round_trip.proofs.Again.{refused_again, untouched_again, wrote_again, left_again}
use Rattle.round_trip.proofs.write_again.Goals as goal

pub returns-in_err-reading-clause-answer : goal.returns-in_err-reading-clause-answer
returns-in_err-reading-clause-answer c = rw (handed_on _ _ c.from_residual.ensures.1) (refused_again _ c.args.out.now _ _ c.in_err-reading.ensures c.type_inv.s _ _ refl)

pub returns-in_err-reading-clause-output : goal.returns-in_err-reading-clause-output
returns-in_err-reading-clause-output c = untouched_again _ _ _ _ c.in_err-reading.ensures c.type_inv.s _ _ refl

pub returns-clause-answer : goal.returns-clause-answer
returns-clause-answer c = wrote_again _ _ _ _ c.in_ok-reading.ensures c.type_inv.s _ refl _ c.write.ensures.answer

pub returns-clause-output : goal.returns-clause-output
returns-clause-output c = left_again _ _ _ _ c.in_ok-reading.ensures c.type_inv.s _ refl _ c.write.ensures.output
