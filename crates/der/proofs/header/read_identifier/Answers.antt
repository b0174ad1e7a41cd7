-- `read_identifier` meets its contract: one octet by the definition's tests, more by `read_high_number`. Assumes nothing.
use mathlib.Core.Path.{refl}
use Rattle.answer.specs.Answer.{pick, guard}
use Rattle.answer.proofs.Results.{handed_on}
use Rattle.codec.specs.Octets.{octet}
use Rattle.codec.specs.Header.{read_identifier}
use Rattle.der.proofs.Bits.{tests}
use Rattle.der.proofs.header.read_identifier.Goals as goal

pub returns-in_err-a-clause-is : goal.returns-in_err-a-clause-is
unfolding read_identifier pick guard octet
returns-in_err-a-clause-is c = rw (handed_on _ _ c.from_residual.ensures.1, c.in_err-a.ensures.1, c.in_err-a.ensures.0) refl

pub returns-then-low-eq31-clause-is : goal.returns-then-low-eq31-clause-is
unfolding read_identifier pick guard octet
returns-then-low-eq31-clause-is c = rw (c.read_high_number.ensures.is, c.in_ok-a.ensures.1) (search tests)

pub returns-clause-is : goal.returns-clause-is
unfolding read_identifier pick guard octet
returns-clause-is c = rw (c.in_ok-a.ensures.1, c.from.ensures) (search tests)
