-- `ruling::marks::looked` meets its contract: each test in its place. Assumes nothing.
use borrow.Author.Rules.{rules}
use Rattle.ruling.proofs.Bits.{key_size_asked, looked_by}
use Rattle.ruling.proofs.marks.looked.Goals as goal

pub returns : goal.returns
returns c =
    looked_by _ _ _ _ _ _ _ _ c.looks_at_padding-padding.ensures c.looks_at_digest-digest.ensures
    (key_size_asked c.args.p c.args.m _ c.args.a _ c.is_some_and-key_size.ensures (λ x p. search rules)) c.signs-signed.ensures
