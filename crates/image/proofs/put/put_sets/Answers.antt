-- `put_sets` meets its contract: one write after the other. Assumes nothing.
use mathlib.Core.Path.{refl}
use Rattle.image.specs.Image.{set_words}
use Rattle.image.proofs.Puts.{put_part, sets-put}
use Rattle.image.proofs.put.put_sets.Goals as goal

pub returns-clause-is : goal.returns-clause-is
returns-clause-is c =
    (sets-put c.args.out.now c.args.l.now c.requires
    (c.put_set.ensures.is, c.put_set.ensures.long)
    (put_part _ 17 _ (set_words c.args.l.now.digest) _ refl c.put_set-2.ensures.is, c.put_set-2.ensures.long)
    (put_part _ 34 _ (set_words c.args.l.now.padding) _ refl c.put_set-3.ensures.is, c.put_set-3.ensures.long)
    (put_part _ 51 _ (set_words c.args.l.now.mgf) _ refl c.put_set-4.ensures.is, c.put_set-4.ensures.long)).0

pub returns-clause-long : goal.returns-clause-long
returns-clause-long c =
    (sets-put c.args.out.now c.args.l.now c.requires
    (c.put_set.ensures.is, c.put_set.ensures.long)
    (put_part _ 17 _ (set_words c.args.l.now.digest) _ refl c.put_set-2.ensures.is, c.put_set-2.ensures.long)
    (put_part _ 34 _ (set_words c.args.l.now.padding) _ refl c.put_set-3.ensures.is, c.put_set-3.ensures.long)
    (put_part _ 51 _ (set_words c.args.l.now.mgf) _ refl c.put_set-4.ensures.is, c.put_set-4.ensures.long)).1
