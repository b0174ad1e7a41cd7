-- `put_words` meets its contract: one write after the other. Assumes nothing.
use mathlib.Core.Path.{refl}
use Rattle.image.specs.Image.{list_words}
use Rattle.image.proofs.Puts.{put_part, image-put}
use Rattle.image.proofs.put.put_words.Goals as goal

pub returns : goal.returns
returns c =
    image-put c.args.out.now c.args.r.now c.requires
    c.put_head.ensures
    (put_part _ 8 _ (list_words c.args.r.now.software) _ refl c.put_list.ensures.is, c.put_list.ensures.long)
    (put_part _ 209 _ (list_words c.args.r.now.hardware) _ refl c.put_list-2.ensures.is)
