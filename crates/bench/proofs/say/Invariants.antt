-- `bench::say` ends: each turn writes some of what is left. Assumes nothing.
use Rattle.std.proofs.Common.{length}
use Rattle.bench.proofs.say.Given as goal

abbrev pub decreases-loop-left : goal.decreases-loop-left
decreases-loop-left g l = length l.left
