use Rattle.std.proofs.Common.{◌*◌}
use Rattle.closed.specs.HeldLaws.{Pairs}
use Rattle.closed.proofs.sweep.paired.Given as goal

abbrev pub invariant-loop-k : goal.invariant-loop-k
invariant-loop-k l = Pairs l.words (2 * l.k)
