-- `put_each` meets its contract: the words passed stand in their places. Assumes nothing.
use mathlib.Core.List.{map}
use mathlib.Core.Path.{ap, sym, ◌∙◌}
use lib.ListN.{length, length-map, get_or-map}
use Rattle.image.proofs.Puts.{placed_none, placed_more}
use Rattle.image.proofs.put.put_each.Goals as goal

pub loop-k-init : goal.loop-k-init
loop-k-init g c = placed_none _ _ _

pub loop-k-preserved : goal.loop-k-preserved
loop-k-preserved g c =
    let xs = c.args.xs.now in
    let word = g.T.Word.as_word in
    placed_more c.args.out.now (length xs) (map word xs) c.loop-k.out c.loop-k.k c.loop-k.invariant (length-map xs word) c.word.result (word c.index-xs-k.result) c.loop-k-test.true c.requires
    (c.word.ensures ∙ (ap word c.index-xs-k.is ∙ sym (get_or-map word xs c.loop-k.k c.index-xs-k.result)))
