-- Image, record, image: where the words are those of a record, not one of them is lost. Assumes nothing.
use mathlib.Core.Path.{ap, sym, ◌∙◌}
use lib.Seq.{take_at}
use Rattle.image.specs.Image.{image_of}
use Rattle.image.specs.Statements.{ImageAgain}
use Rattle.image.proofs.Puts.{image-length}
use Rattle.image.proofs.RoundTrip.{record_back}

pub image_again : ImageAgain
image_again w r rest h e = rw e (ap image_of (record_back r rest h) ∙ sym (take_at (image_of r) rest 410 (image-length r h)))
