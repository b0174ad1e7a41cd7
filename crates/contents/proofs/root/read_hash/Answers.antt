-- `read_hash` meets its contract: a hash where there is to be one. Assumes nothing.
use Rattle.answer.proofs.Results.{handed_on}
use Rattle.contents.proofs.Roots.{hash_none, hash_no, hash_some}
use Rattle.contents.proofs.root.read_hash.Goals as goal

pub returns-then-not-hashed-clause-is : goal.returns-then-not-hashed-clause-is
returns-then-not-hashed-clause-is c = hash_none _ _ _ _ c.if-not-hashed.true

pub returns-in_err-hash-clause-is : goal.returns-in_err-hash-clause-is
returns-in_err-hash-clause-is c = rw (handed_on _ _ c.from_residual.ensures.1) (hash_no _ _ _ _ c.if-not-hashed.false _ _ c.in_err-hash.ensures.is)

pub returns-clause-is : goal.returns-clause-is
returns-clause-is c = hash_some _ _ _ _ c.if-not-hashed.false _ _ c.in_ok-hash.ensures.is
