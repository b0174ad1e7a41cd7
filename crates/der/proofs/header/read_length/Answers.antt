-- `read_length` meets its contract: each return follows the definition's tests, octet by octet (`tests`). Assumes nothing.
use mathlib.Core.Path.{refl}
use Rattle.answer.specs.Answer.{pick, guard}
use Rattle.answer.proofs.Results.{handed_on}
use Rattle.codec.specs.Octets.{octet}
use Rattle.codec.specs.Header.{read_length}
use Rattle.der.proofs.Bits.{tests, join8}
use Rattle.der.proofs.header.read_length.Goals as goal

pub returns-in_err-a-clause-is : goal.returns-in_err-a-clause-is
unfolding read_length pick guard octet
returns-in_err-a-clause-is c = rw (handed_on _ _ c.from_residual.ensures.1, c.in_err-a.ensures.1, c.in_err-a.ensures.0) refl

pub returns-then-a-lt128-clause-is : goal.returns-then-a-lt128-clause-is
unfolding read_length pick guard octet
returns-then-a-lt128-clause-is c = rw (c.in_ok-a.ensures.1, c.from.ensures) (search tests)

pub returns-in_err-b-clause-is : goal.returns-in_err-b-clause-is
unfolding read_length pick guard octet
returns-in_err-b-clause-is c = rw (handed_on _ _ c.from_residual-in_err-b.ensures.1, c.in_err-b.ensures.1, c.in_ok-a.ensures.1, c.in_err-b.ensures.0) (search tests)

pub returns-then-b-lt128-clause-is : goal.returns-then-b-lt128-clause-is
unfolding read_length pick guard octet
returns-then-b-lt128-clause-is c = rw (c.in_ok-a.ensures.1, c.in_ok-b.ensures.1) (search tests)

pub returns-then-a-clause-is : goal.returns-then-a-clause-is
unfolding read_length pick guard octet
returns-then-a-clause-is c = rw (c.in_ok-a.ensures.1, c.in_ok-b.ensures.1, c.from-then-a.ensures) (search tests)

pub returns-in_err-b-2-clause-is : goal.returns-in_err-b-2-clause-is
unfolding read_length pick guard octet
returns-in_err-b-2-clause-is c = rw (handed_on _ _ c.from_residual-in_err-b-2.ensures.1, c.in_err-b-2.ensures.1, c.in_ok-a.ensures.1, c.in_err-b-2.ensures.0) (search tests)

pub returns-then-b-lt1-clause-is : goal.returns-then-b-lt1-clause-is
unfolding read_length pick guard octet
returns-then-b-lt1-clause-is c = rw (c.in_ok-a.ensures.1, c.in_ok-b-2.ensures.1) (search tests)

pub returns-in_err-c-clause-is : goal.returns-in_err-c-clause-is
unfolding read_length pick guard octet
returns-in_err-c-clause-is c = rw (handed_on _ _ c.from_residual-in_err-c.ensures.1, c.in_err-c.ensures.1, c.in_ok-a.ensures.1, c.in_ok-b-2.ensures.1, c.in_err-c.ensures.0) (search tests)

pub returns-then-a-2-clause-is : goal.returns-then-a-2-clause-is
unfolding read_length pick guard octet
returns-then-a-2-clause-is c = rw (c.in_ok-a.ensures.1, c.in_ok-b-2.ensures.1, c.in_ok-c.ensures.1, c.from-then-a-2.ensures, c.from-then-a-2-2.ensures) (search (tests, join8))

pub returns-clause-is : goal.returns-clause-is
unfolding read_length pick guard octet
returns-clause-is c = rw c.in_ok-a.ensures.1 (search tests)
