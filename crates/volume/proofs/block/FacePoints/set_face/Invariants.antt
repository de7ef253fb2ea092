use Rattle.std.proofs.Common.{◌≡◌}
use Rattle.base.specs.Loops.{times}
use Rattle.mesh.specs.Triangles.{normal_of}
use Rattle.volume.specs.Block.{square_of, height_of, set_at}
use Rattle.volume.proofs.block.FacePoints.set_face.Given as goal

abbrev pub invariant-loop-k : goal.invariant-loop-k
invariant-loop-k l =
    (l.self.squares ≡ times (set_at (square_of l.t l.c) l.at) l.k 0 l.initial.self.squares)
    × (l.self.heights ≡ times (set_at (height_of l.t (normal_of l.t) l.c) l.at) l.k 0 l.initial.self.heights)
