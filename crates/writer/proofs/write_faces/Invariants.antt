use Prim.Native.Nat.{◌-◌}
use Rattle.layout.specs.Layout.{width}
use Rattle.script.specs.Written.{face_rows}
use Rattle.script.specs.LineLaws.{Todo}
use Rattle.writer.proofs.write_faces.Given as goal

abbrev pub invariant-loop-i : goal.invariant-loop-i
invariant-loop-i l = Todo l.initial.out l.at (face_rows width l.words l.n 0) l.out l.k
    (face_rows width l.words (l.n - l.i) l.i)
