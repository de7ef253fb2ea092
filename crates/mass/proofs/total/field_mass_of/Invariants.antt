use Rattle.std.proofs.Common.{◌≡◌}
use Rattle.base.specs.Floats.{+0}
use Rattle.base.specs.Loops.{times}
use Rattle.mesh.specs.Meshes.{face_count_of, triangles_of}
use Rattle.mass.specs.Total.{mass_step}
use Rattle.mass.proofs.total.field_mass_of.Given as goal

abbrev pub invariant-loop-i : goal.invariant-loop-i
invariant-loop-i l =
    l.total ≡ times (mass_step (triangles_of l.mesh) (face_count_of l.mesh) l.kernels) l.i 0 +0
