-- What a put adds to an output: octets at its place, which then is the place after them.
use Rattle.std.specs.Prelude.{◌≡◌, List, ℕ, ◌≤◌}
use Rattle.codec.specs.Limits.{extension_bytes}
use Rattle.codec.specs.Header.{identifier, header_octets}
use Rattle.writer.specs.declared.put.Output.{Output}
use Rattle.writer.specs.Put.{Puts}

-- xs was put at the place of old, and left new; both are the same lent output
pub record Adds (old : Output) (xs : List ℕ) (new : Output) : Type 0 where
  pub same : new.octets.ghost_name ≡ old.octets.ghost_name
  pub put : Puts old.octets.now old.at xs new.octets.now new.at

-- the same of the header of an element, where its size is within the limit
pub record AddsHeader (old : Output) (form number size : ℕ) (new : Output) : Type 0 where
  pub same : new.octets.ghost_name ≡ old.octets.ghost_name
  pub put : size ≤ extension_bytes → Puts old.octets.now old.at (header_octets (identifier form number) size) new.octets.now new.at
