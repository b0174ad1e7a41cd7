-- `within_top` meets its contract: more than eight octets are above any top, and fewer are compared with it. Assumes nothing.
use Rattle.contents.proofs.Spelled.{top_long, top_over, top_within}
use Rattle.contents.proofs.leaf.within_top.Goals as goal

pub returns-then-octets-gt8 : goal.returns-then-octets-gt8
returns-then-octets-gt8 c = search top_long

pub returns-then-top-value : goal.returns-then-top-value
returns-then-top-value c = search top_over

pub returns : goal.returns
returns c = search top_within
