-- At each turn the lines that are left, once written, make the run that all make. Assumes nothing.
use Prim.Native.Nat.{◌+◌, ◌-◌}
use native.Mathlib.Omega.{arith}
use Rattle.layout.specs.Layout.{width}
use Rattle.text.specs.Form.{print}
use Rattle.script.specs.Lines.{face_line}
use Rattle.script.specs.Written.{face_at, face_rows}
use Rattle.script.specs.LineLaws.{faces_more, face_bytes}
use Rattle.script.specs.LineLaws.{todo_next, todo_room}
use Rattle.writer.proofs.write_faces.Goals as goal

pub write_face-k-requires : goal.write_face-k-requires
write_face-k-requires c =
    let a = c.args in
    let l = c.loop-i in
    let v = face_at width a.words.now l.i in
    omega (
      arith,
      todo_room (print face_line v) (face_rows width a.words.now (a.n - (l.i + 1)) (l.i + 1)) l.invariant
          (faces_more width a.words.now a.n l.i (omega arith)) c.requires.0,
      face_bytes v.0 v.1.0 v.1.1.0,
    )

pub loop-i-preserved : goal.loop-i-preserved
loop-i-preserved c =
    let a = c.args in
    let l = c.loop-i in
    todo_next l.invariant (faces_more width a.words.now a.n l.i (omega arith)) c.write_face-k.ensures.wrote
