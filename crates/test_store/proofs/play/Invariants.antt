-- `test_store::play` is safe and ends: each turn starts past the line of the turn before. Assumes nothing.
use Rattle.std.proofs.Common.{◌-◌, length}
use Rattle.test_store.proofs.play.Given as goal

abbrev pub invariant-loop-at : goal.invariant-loop-at
invariant-loop-at g l = Unit

abbrev pub decreases-loop-at : goal.decreases-loop-at
decreases-loop-at g l = length l.script - l.at
