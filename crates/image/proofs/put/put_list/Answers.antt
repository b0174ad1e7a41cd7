-- `put_list` meets its contract: one write after the other. Assumes nothing.
use mathlib.Core.Path.{refl}
use borrow.Author.Rules.{rules}
use Rattle.std.proofs.lemmas.List.{map-id}
use Rattle.image.specs.Image.{sets_words, root_words}
use Rattle.image.proofs.Puts.{put_part, list_put}
use Rattle.image.proofs.put.put_list.Goals as goal

pub returns-clause-is : goal.returns-clause-is
returns-clause-is c =
    (list_put c.args.out.now c.args.l.now c.requires
    (c.put_each.ensures, search rules)
    (put_part _ 42 _ c.args.l.now.values _ refl (rw map-id at c.put_each-2.ensures), search rules)
    (put_part _ 84 _ c.args.l.now.sizes _ refl (rw map-id at c.put_each-3.ensures), search rules)
    (put_part _ 126 _ (sets_words c.args.l.now) _ refl c.put_sets.ensures.is, c.put_sets.ensures.long)
    (put_part _ 194 _ (root_words c.args.l.now.root) _ refl c.put_root.ensures)).0

pub returns-clause-long : goal.returns-clause-long
returns-clause-long c =
    (list_put c.args.out.now c.args.l.now c.requires
    (c.put_each.ensures, search rules)
    (put_part _ 42 _ c.args.l.now.values _ refl (rw map-id at c.put_each-2.ensures), search rules)
    (put_part _ 84 _ c.args.l.now.sizes _ refl (rw map-id at c.put_each-3.ensures), search rules)
    (put_part _ 126 _ (sets_words c.args.l.now) _ refl c.put_sets.ensures.is, c.put_sets.ensures.long)
    (put_part _ 194 _ (root_words c.args.l.now.root) _ refl c.put_root.ensures)).1
