use Rattle.std.proofs.Common.{◌≡◌}
use Rattle.base.specs.Loops.{times}
use Rattle.mass.specs.Centroid.{moment_step}
use Rattle.mass.proofs.centroid.face_moment.Given as goal

abbrev pub invariant-loop-i : goal.invariant-loop-i
invariant-loop-i l =
    l.acc ≡ times (moment_step l.t) l.i 0 l.initial.acc
