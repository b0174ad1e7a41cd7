-- What the header readers answer, in plain variables: `search` finds the premises in a need's record. Assumes nothing.
use mathlib.Core.Path.{◌≡◌, refl, ◌∙◌}
use mathlib.Core.List.{List}
use Prim.Native.Nat.{ℕ, ◌+◌, ◌-◌, ◌*◌, ◌/◌, ◌%◌, ◌^◌, ◌<◌, ◌≤◌}
use mir.Val.{Fits}
use mir.Syntax.{w8}
use native.Mathlib.Omega.{arith}
use lib.ListN.{length, get_or}
use lib.Seq.{slice, length-slice}
use lib.Bits.{bit_and, bit_or}
use borrow.Author.Tests.{le-leb, lt-leb}
use Rattle.std.specs.Prelude.{Result, Ok, Err, MatchResult}
use Rattle.std.specs.Result.{IsErrAnd}
use Rattle.std.proofs.lemmas.Result.{err_from_is_err_and}
use Rattle.answer.specs.Answer.{got, refused, guard, bind, pick}
use Rattle.answer.specs.declared.Refused.{Refused}
use Rattle.codec.specs.Octets.{taken}
use Rattle.codec.specs.Header.{identifier, header, read_high_number, read_identifier, read_length, read_header, reported}
use Rattle.der.specs.Header.{of_identifier, of_header, IdentifierInside, octet_header, reported_as}
use Rattle.der.specs.declared.header.Identifier.{Identifier}
use Rattle.der.specs.declared.header.Header.{Header}
use Rattle.der.proofs.Bits.{tests, join8}

-- a tag number of two octets
pub number_high : (s : List ℕ) (form at end : ℕ) → end ≤ length s → at < end → 128 ≤ get_or s at 0 → 128 < get_or s at 0 → at + 1 < end → get_or s (at + 1) 0 < 128
    → got (taken (identifier form (bit_or ((bit_and (get_or s at 0) 127 * 2 ^ 7) % 2 ^ 64) (get_or s (at + 1) 0))) (at + 1 + 1) (slice (at + 1 + 1) end s)) ≡ read_high_number form at (slice at end s)
unfolding read_high_number pick guard
number_high s form at end fit h₁ b b' h₂ c = simp tests

-- the rest of an identifier from its second octet on
pub identifier_high : (s : List ℕ) (at end : ℕ) (r : Result Identifier Refused) → end ≤ length s → at < end → bit_and (get_or s at 0) 31 ≡ 31
    → of_identifier s end r ≡ read_high_number (get_or s at 0 / 32) (at + 1) (slice (at + 1) end s) → of_identifier s end r ≡ read_identifier at (slice at end s)
unfolding read_identifier pick
identifier_high s at end r fit h o e = e ∙ simp tests

pub inside_high : (at end : ℕ) (r : Result Identifier Refused) → IdentifierInside (at + 1) end r → IdentifierInside at end r
inside_high at end (Ok i) h = omega arith
inside_high at end (Err r) h = tt

-- a length of two octets
pub length_high : (s : List ℕ) (at end : ℕ) → end ≤ length s → at < end → 128 ≤ get_or s at 0 → get_or s at 0 ≡ 130 → at + 1 < end → 1 ≤ get_or s (at + 1) 0 → at + 1 + 1 < end
    → Fits w8 (get_or s (at + 1) 0) → Fits w8 (get_or s (at + 1 + 1) 0)
    → got (taken (bit_or ((get_or s (at + 1) 0 * 2 ^ 8) % 2 ^ 64) (get_or s (at + 1 + 1) 0)) (at + 1 + 1 + 1) (slice (at + 1 + 1 + 1) end s)) ≡ read_length at (slice at end s)
unfolding read_length pick guard
length_high s at end fit h₁ a a' h₂ b h₃ f g = simp (tests, join8, a')

-- ---- both

module _ (s : List ℕ) (at end : ℕ) where
  pub no_identifier : (k p : ℕ) → refused k p ≡ read_identifier at (slice at end s) → refused k p ≡ octet_header at (slice at end s)
  unfolding bind
  no_identifier k p e = rw (← e) refl

  module _ (f n x : ℕ) (e : got (taken (identifier f n) x (slice x end s)) ≡ read_identifier at (slice at end s)) where
    pub no_length : (k p : ℕ) → refused k p ≡ read_length x (slice x end s) → refused k p ≡ octet_header at (slice at end s)
    unfolding bind
    no_length k p e₂ = rw (← e, ← e₂) refl

    module _ (m b : ℕ) (fit : end ≤ length s) (e₂ : got (taken m b (slice b end s)) ≡ read_length x (slice x end s)) where
      pub no_fit : end - b < m → refused 2 b ≡ octet_header at (slice at end s)
      unfolding bind guard
      no_fit h = rw (← e, ← e₂, length-slice b end s fit, lt-leb _ _ h) refl

      pub fits-header : m ≤ end - b → got (taken (header (identifier f n) m) b (slice b end s)) ≡ octet_header at (slice at end s)
      unfolding bind guard
      fits-header h = rw (← e, ← e₂, length-slice b end s fit, le-leb _ _ h) refl

  -- the whole header is what `read_header` gives, and a refusal its own at the place that is reported
  pub header_as : (h : Header) → of_header s end (Ok h) ≡ octet_header at (slice at end s) → of_header s end (Ok h) ≡ read_header at (slice at end s)
  unfolding read_header reported
  header_as h e = rw (← e) refl

  pub refused_at : (r : Refused) → of_header s end (Err r) ≡ octet_header at (slice at end s) → of_header s end (Err (reported_as at r)) ≡ read_header at (slice at end s)
  unfolding read_header reported
  refused_at r e = rw (← e) refl

  -- the two, as `map_err` has them
  pub header_mapped : (w m : Result Header Refused) (Q : Refused → Refused → Type 0) → of_header s end w ≡ octet_header at (slice at end s)
      → MatchResult w (λ x. m ≡ Ok x) (λ e. IsErrAnd m (Q e)) → ((e r : Refused) → Q e r → r ≡ reported_as at e) → of_header s end m ≡ read_header at (slice at end s)
  header_mapped (Ok h) m Q e c f = rw c (header_as h e)
  header_mapped (Err r) m Q e c f = let p = err_from_is_err_and m c in rw (p.1, f r p.0 p.2) (refused_at r e)
