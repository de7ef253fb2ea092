use Rattle.std.proofs.Common.{◌≡◌}
use Rattle.mesh.specs.Meshes.{triangles_of}
use Rattle.volume.specs.Volume.{volume_from}
use Rattle.volume.proofs.faces.volume_faces.Given as goal

abbrev pub invariant-loop-f : goal.invariant-loop-f
invariant-loop-f l =
    l.sum ≡ volume_from (triangles_of l.mesh) l.c l.sigma l.from l.f l.initial.sum
