-- `all_at_most` meets its contract: a test of each word is the test of all. Assumes nothing.
use mathlib.Core.Bool.{true}
use mathlib.Core.Path.{◌≡◌}
use mathlib.Core.Logic.{◌↔◌}
use Prim.Native.Nat.{ℕ, ◌<◌, ◌≤◌}
use lib.ListN.{length, get_or}
use Rattle.std.proofs.Common.{rules}
use Rattle.image.proofs.Fits.{each_at_most}
use Rattle.image.proofs.fit.all_at_most.Goals as goal

pub returns : goal.returns
returns c =
    let each : (c.all.result ≡ true) ↔ ((k : ℕ) → k < length c.args.words.now → get_or c.args.words.now k 0 ≤ c.args.top) = search rules in
    each_at_most c.args.words.now c.args.top (length c.args.words.now) c.all.result each
