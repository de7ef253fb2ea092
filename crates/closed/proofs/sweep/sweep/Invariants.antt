use Rattle.std.proofs.Common.{◌≡◌, ◌-◌, ◌≤◌, length}
use Rattle.closed.specs.Held.{Matched}
use Rattle.closed.proofs.sweep.sweep.Given as goal

abbrev pub invariant-loop-low : goal.invariant-loop-low
invariant-loop-low l = (l.low ≤ l.top) × (length l.words ≡ 61440) × Matched l.corners.list.now l.low

abbrev pub decreases-loop-low : goal.decreases-loop-low
decreases-loop-low l = l.top - l.low
