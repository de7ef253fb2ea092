use Rattle.std.proofs.Common.{◌≡◌}
use Rattle.base.specs.Loops.{times}
use Rattle.mesh.specs.Meshes.{triangles_of}
use Rattle.volume.specs.Volume.{origin_point}
use Rattle.mass.specs.Centroid.{face_moment_step}
use Rattle.mass.proofs.centroid.moment_of.Given as goal

abbrev pub invariant-loop-f : goal.invariant-loop-f
invariant-loop-f l =
    l.acc ≡ times (face_moment_step (triangles_of l.mesh)) l.f 0 origin_point
