use Rattle.std.proofs.Common.{◌≡◌}
use Rattle.base.specs.Floats.{+0}
use Rattle.base.specs.Loops.{times}
use Rattle.mesh.specs.Meshes.{triangles_of}
use Rattle.weights.specs.Calibration.{reach_step}
use Rattle.weights.proofs.calibrate.reach_of.Given as goal

abbrev pub invariant-loop-f : goal.invariant-loop-f
invariant-loop-f l =
    l.reach ≡ times (reach_step (triangles_of l.mesh)) l.f 0 +0
