-- `put_extension` meets its contract: header, head and both lists. Assumes nothing.
use Rattle.writer.proofs.Puts.{ends, extension-put}
use borrow.Author.Rules.{rules}
use Rattle.writer.proofs.put.put_extension.Goals as goal

pub returns : goal.returns
returns c =
    let e = extension-put c.args.r c.args.s.now c.args.z.eight c.requires.eight c.put_header.ensures c.put_head.ensures c.put_list.ensures c.put_list-2.ensures in
    ends _ e (λ h. search rules)
