use Prim.Native.Nat.{◌+◌, ◌*◌, ◌≤◌}
use mathlib.Core.Path.{◌≡◌}
use lib.ListN.{length}
use Rattle.mesh.specs.Meshes.{triangles_of}
use Rattle.volume.specs.Volume.{volume_from}
use Rattle.volume.proofs.block.volume_blocks.Given as goal

abbrev pub invariant-loop-i : goal.invariant-loop-i
invariant-loop-i l =
    (l.i ≤ l.n) × (l.sum ≡ volume_from (triangles_of l.mesh) l.c l.sigma l.from (l.from + 4 * l.i) l.sum-2)
    × (length l.points.squares ≡ 28)
    × (length l.points.heights ≡ 28)
