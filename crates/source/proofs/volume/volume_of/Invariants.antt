use Rattle.std.proofs.Common.{◌≡◌}
use Rattle.base.specs.Floats.{+0}
use Rattle.base.specs.Loops.{times}
use Rattle.mesh.specs.Meshes.{triangles_of}
use Rattle.source.specs.Volumes.{face_step}
use Rattle.source.proofs.volume.volume_of.Given as goal

abbrev pub invariant-loop-f : goal.invariant-loop-f
invariant-loop-f l = l.total ≡ times (face_step (triangles_of l.mesh) l.c l.sigma) l.f 0 +0
