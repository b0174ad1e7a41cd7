-- `checks::key_size_refused` meets its contract: one bit more than 2D+1 octets are 2D+2 octets. Assumes nothing.
use mathlib.Core.Path.{◌≡◌, ◌∙◌}
use Prim.Native.Nat.{◌+◌, ◌*◌}
use lib.Dec.{leb, ltb}
use borrow.Author.Rules.{rules}
use Rattle.checks.specs.Checks.{digest_bytes, key_bytes}
use Rattle.checks.proofs.Checking.{size_enough, key_refused}
use Rattle.checks.proofs.key_size_refused.Goals as goal

pub returns : goal.returns
returns c =
    key_refused _ _ _ _ _ _ _ _ _ _ c.looks_at_key_size.ensures c.is_some.ensures c.is_some-2.ensures
    (c.both_allow.ensures (λ bits. leb (2 * digest_bytes c.args.d + 2) (key_bytes bits))
    (λ bits b p.
    let e : b ≡ ltb (8 * (2 * c.digest_bytes.result + 1)) bits = search rules in
    e ∙ size_enough c.args.d c.digest_bytes.result bits c.digest_bytes.ensures.is))
