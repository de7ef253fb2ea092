use mathlib.Core.Path.{◌≡◌}
use Prim.Native.Nat.{◌+◌, ◌*◌, ◌-◌, ◌≤◌}
use lib.ListN.{length}
use Rattle.layout.specs.Layout.{width}
use Rattle.script.specs.Written.{face_rows}
use Rattle.script.proofs.room.faces_length.Given as goal

abbrev pub invariant-loop-i : goal.invariant-loop-i
invariant-loop-i l = (l.sum ≤ 70 * l.i)
    × (l.sum + length (face_rows width l.words (l.n - l.i) l.i) ≡ length (face_rows width l.words l.n 0))
