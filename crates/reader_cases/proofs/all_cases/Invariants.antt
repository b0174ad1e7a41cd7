-- Each case takes an octet at least.
use Rattle.std.proofs.Common.{length}
use Rattle.reader_cases.proofs.all_cases.Given as goal

abbrev pub decreases-loop-input : goal.decreases-loop-input
decreases-loop-input l = length l.input.rest.now
