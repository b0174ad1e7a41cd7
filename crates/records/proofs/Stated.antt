-- The theorems of specs/Statements.antt, each from the laws of its file. Assumes nothing.
use Rattle.schema.specs.Content.{place_at}
use Rattle.records.specs.Statements.{EqualContents, ShapedSays, SaysShaped, PlacesRead, MadeSays, PartsLie}
use Rattle.records.proofs.Equal.{equal_content, content_equal}
use Rattle.records.proofs.ShapedContent.{shaped_content}
use Rattle.records.proofs.ContentShaped.{content_shaped}
use Rattle.records.proofs.PlacesRead as read
use Rattle.records.proofs.Making as making
use Rattle.records.proofs.PartsLie as lie

pub equal_contents : EqualContents
equal_contents r s r' s' = (equal_content r s r' s', content_equal r s r' s')

pub shaped-says : ShapedSays
shaped-says r t = shaped_content r place_at t

pub says-shaped : SaysShaped
says-shaped r i j t = content_shaped r place_at i j t

pub places_read : PlacesRead
places_read = read.places_read

pub made-says : MadeSays
made-says = making.made-says

pub parts_lie : PartsLie
parts_lie = lie.parts_lie
