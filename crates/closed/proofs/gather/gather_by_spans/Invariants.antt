use Rattle.std.proofs.Common.{◌*◌, ◌≤◌}
use Rattle.closed.specs.Held.{Gathered}
use Rattle.closed.proofs.gather.gather_by_spans.Given as goal

abbrev pub invariant-loop-k : goal.invariant-loop-k
invariant-loop-k l = (l.batch.end ≤ l.initial.batch.end)
    × Gathered l.faces.corners.list.now l.low l.batch l.words (3 * (256 * l.k))
