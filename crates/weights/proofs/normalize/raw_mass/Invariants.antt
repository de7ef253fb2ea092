use Rattle.std.proofs.Common.{◌≡◌}
use Rattle.base.specs.Floats.{+0}
use Rattle.base.specs.Loops.{times}
use Rattle.mesh.specs.Meshes.{face_count_of, triangles_of}
use Rattle.weights.specs.Lists.{list_of}
use Rattle.weights.specs.Weights.{mass_step}
use Rattle.weights.proofs.normalize.raw_mass.Given as goal

abbrev pub invariant-loop-i : goal.invariant-loop-i
invariant-loop-i l =
    l.sum ≡ times (mass_step (triangles_of l.mesh) (face_count_of l.mesh) (list_of l.kernels)) l.i 0 +0
