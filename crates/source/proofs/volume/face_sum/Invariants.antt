use Rattle.std.proofs.Common.{◌≡◌}
use Rattle.base.specs.Loops.{times}
use Rattle.source.specs.Volumes.{flux_step}
use Rattle.source.proofs.volume.face_sum.Given as goal

abbrev pub invariant-loop-i : goal.invariant-loop-i
invariant-loop-i l = l.sum ≡ times (flux_step l.t l.c l.sigma) l.i 0 l.initial.sum
