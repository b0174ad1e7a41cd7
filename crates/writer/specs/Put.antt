-- What putting octets at a place of an output leaves, for octets that a writer would put there: no more than 8,192, and
-- no more than the output has room for. Of others nothing is said.
use Rattle.std.specs.Prelude.{◌≡◌, List, ℕ, ◌+◌, ◌≤◌, length}
use Rattle.codec.specs.Limits.{extension_bytes}
use Rattle.codec.specs.Octets.{splice}

-- xs was put at the place p of old, and left new and the place q after it
pub record Puts (old : List ℕ) (p : ℕ) (xs new : List ℕ) (q : ℕ) : Type 0 where
  pub is : length xs ≤ extension_bytes → p + length xs ≤ length old → (new ≡ splice old p xs) × (q ≡ p + length xs)
