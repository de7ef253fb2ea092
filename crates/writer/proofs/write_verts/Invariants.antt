use mathlib.Core.Path.{◌≡◌}
use Prim.Native.Nat.{◌+◌, ◌*◌, ◌-◌}
use Rattle.script.specs.Written.{vert_rows}
use Rattle.script.specs.LineLaws.{Todo}
use Rattle.writer.proofs.write_verts.Given as goal

abbrev pub invariant-loop-i : goal.invariant-loop-i
invariant-loop-i l = (l.k ≡ l.at + 58 * l.i)
    × Todo l.initial.out l.at (vert_rows l.floats l.n 0) l.out l.k (vert_rows l.floats (l.n - l.i) l.i)
