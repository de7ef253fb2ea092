use Rattle.std.proofs.Common.{◌+◌, ◌*◌, ◌/◌, ◌≤◌, length}
use Rattle.sort.specs.Order.{Within}
use Rattle.edges.proofs.divide.sample.Given as goal

abbrev pub invariant-loop-face : goal.invariant-loop-face
invariant-loop-face l = (103 * l.n ≤ 3 * l.face) × (l.face ≤ length l.corners / 3 + 102)
    × Within 0 2199023255552 l.words l.n
