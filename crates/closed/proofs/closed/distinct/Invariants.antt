use Rattle.std.proofs.Common.{◌≡◌, ◌*◌, ◌&&◌, drop}
use Rattle.closed.specs.Closed.{distinct_corners}
use Rattle.closed.proofs.closed.distinct.Given as goal

abbrev pub invariant-loop-face : goal.invariant-loop-face
invariant-loop-face l = (l.all && distinct_corners (drop (3 * l.face) l.corners.list.now)) ≡ distinct_corners l.corners.list.now
