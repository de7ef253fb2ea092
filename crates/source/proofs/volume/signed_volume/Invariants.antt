use Rattle.std.proofs.Common.{◌≡◌}
use Rattle.base.specs.Floats.{+0}
use Rattle.base.specs.Loops.{times}
use Rattle.mesh.specs.Meshes.{triangles_of}
use Rattle.source.specs.Volumes.{pyramid_to}
use Rattle.source.proofs.volume.signed_volume.Given as goal

abbrev pub invariant-loop-f : goal.invariant-loop-f
invariant-loop-f l = l.total ≡ times (pyramid_to (triangles_of l.mesh)) l.f 0 +0
