-- `read_version` meets its contract: a number, and whether it is known. Assumes nothing.
use Rattle.answer.proofs.Results.{handed_on}
use Rattle.contents.proofs.Heads.{version_no, version-is, version_unknown, version_known}
use Rattle.contents.proofs.head.read_version.Goals as goal

pub returns-in_err-version-clause-is : goal.returns-in_err-version-clause-is
returns-in_err-version-clause-is c = rw (handed_on _ _ c.from_residual.ensures.1) (version_no _ _ _ _ _ c.in_err-version.ensures.is)

pub returns-then-not-known_version-clause-is : goal.returns-then-not-known_version-clause-is
returns-then-not-known_version-clause-is c = version_unknown _ _ _ _ _ c.in_ok-version.ensures.is _ c.known_version.ensures c.if-not-known_version.true

pub returns-clause-is : goal.returns-clause-is
returns-clause-is c = version-is _ _ _ _ _ c.in_ok-version.ensures.is _ c.known_version.ensures c.if-not-known_version.false

pub returns-clause-inside : goal.returns-clause-inside
returns-clause-inside c = (c.in_ok-version.ensures.inside.0, (c.in_ok-version.ensures.inside.1, version_known _ _ _ _ _ c.in_ok-version.ensures.is _ c.known_version.ensures c.if-not-known_version.false))
