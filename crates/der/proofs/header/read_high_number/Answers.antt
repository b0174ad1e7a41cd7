-- `read_high_number` meets its contract: each return follows the definition's tests, octet by octet (`tests`). Assumes nothing.
use mathlib.Core.Path.{refl}
use Rattle.answer.specs.Answer.{pick, guard}
use Rattle.answer.proofs.Results.{handed_on}
use Rattle.codec.specs.Octets.{octet}
use Rattle.codec.specs.Header.{read_high_number}
use Rattle.der.proofs.Bits.{tests}
use Rattle.der.proofs.header.read_high_number.Goals as goal

pub returns-in_err-b-clause-is : goal.returns-in_err-b-clause-is
unfolding read_high_number pick guard octet
returns-in_err-b-clause-is c = rw (handed_on _ _ c.from_residual.ensures.1, c.in_err-b.ensures.1, c.in_err-b.ensures.0) refl

pub returns-then-b-lt31-clause-is : goal.returns-then-b-lt31-clause-is
unfolding read_high_number pick guard octet
returns-then-b-lt31-clause-is c = rw c.in_ok-b.ensures.1 (search tests)

pub returns-then-b-lt128-clause-is : goal.returns-then-b-lt128-clause-is
unfolding read_high_number pick guard octet
returns-then-b-lt128-clause-is c = rw (c.in_ok-b.ensures.1, c.from.ensures) (search tests)

pub returns-then-b-le128-clause-is : goal.returns-then-b-le128-clause-is
unfolding read_high_number pick guard octet
returns-then-b-le128-clause-is c = rw c.in_ok-b.ensures.1 (search tests)

pub returns-in_err-c-clause-is : goal.returns-in_err-c-clause-is
unfolding read_high_number pick guard octet
returns-in_err-c-clause-is c = rw (handed_on _ _ c.from_residual-in_err-c.ensures.1, c.in_err-c.ensures.1, c.in_ok-b.ensures.1, c.in_err-c.ensures.0) (search tests)

pub returns-then-c-ge128-clause-is : goal.returns-then-c-ge128-clause-is
unfolding read_high_number pick guard octet
returns-then-c-ge128-clause-is c = rw (c.in_ok-b.ensures.1, c.in_ok-c.ensures.1) (search tests)

pub returns-clause-is : goal.returns-clause-is
unfolding read_high_number pick guard octet
returns-clause-is c = rw (c.in_ok-b.ensures.1, c.in_ok-c.ensures.1, c.from-high.ensures, c.from-2.ensures) (search tests)
