-- What the short ways of a header say: an identifier, a length with its content, and both. Where one has no answer nothing is
-- said of it, and the long way follows; so whoever believes the long ways' contracts need not read on.
use Rattle.std.specs.Prelude.{◌≡◌, List, ℕ, ◌-◌, ◌<◌, ◌≤◌, Option, IfSome}
use Rattle.std.proofs.Math.Seq.{slice}
use Rattle.answer.specs.Answer.{got}
use Rattle.codec.specs.Octets.{taken}
use Rattle.codec.specs.Header.{identifier, header, read_identifier, read_length, read_header}
use Rattle.der.specs.declared.header.Identifier.{Identifier}
use Rattle.der.specs.declared.header.Extent.{Extent}

-- the identifier at `at`, up to p
pub record ShortIs (s : List ℕ) (at end form number p : ℕ) : Type 0 where
  pub is : read_identifier at (slice at end s) ≡ got (taken (identifier form number) p (slice p end s))
  pub from : at < p

abbrev pub ShortAt : List ℕ → ℕ → ℕ → Option Identifier → Type 0
ShortAt s at end r = IfSome r (λ i. ShortIs s at end i.form i.number i.next)

-- the length at `at` is that of the content from b to x, which lies before the holder's end
pub record ExtentIs (s : List ℕ) (at end b x : ℕ) : Type 0 where
  pub is : read_length at (slice at end s) ≡ got (taken (x - b) b (slice b end s))
  pub from : at < b
  pub size : b ≤ x
  pub to : x ≤ end

abbrev pub ExtentAt : List ℕ → ℕ → ℕ → Option Extent → Type 0
ExtentAt s at end r = IfSome r (λ e. ExtentIs s at end e.body e.stop)

-- the header of the element at `at`, whose content lies from b to x
pub record HeaderIs (s : List ℕ) (at end form number b x : ℕ) : Type 0 where
  pub is : read_header at (slice at end s) ≡ got (taken (header (identifier form number) (x - b)) b (slice b end s))
  pub from : at < b
  pub size : b ≤ x
  pub to : x ≤ end
