use Prim.Native.Nat.{◌≤◌}
use Rattle.mesh.specs.Meshes.{triangles_of}
use Rattle.volume.specs.Block.{squares_of, heights_of, Points}
use Rattle.volume.proofs.block.FacePoints.set_faces.Given as goal

abbrev pub invariant-loop-j : goal.invariant-loop-j
invariant-loop-j l = (l.j ≤ 4) × Points (squares_of (triangles_of l.mesh) l.c l.f) l.j l.self.squares
    × Points (heights_of (triangles_of l.mesh) l.c l.f) l.j l.self.heights
