-- At each turn the lines that are left, once written, make the run that all make. Assumes nothing.
use native.Mathlib.Omega.{arith}
use Rattle.script.specs.LineLaws.{verts_more}
use Rattle.script.specs.LineLaws.{todo_next}
use Rattle.writer.proofs.write_verts.Goals as goal

pub loop-i-preserved : goal.loop-i-preserved
loop-i-preserved c =
    let a = c.args in
    let l = c.loop-i in
    let w = c.write_vert-k.ensures in (
      omega (arith, w.value, l.invariant.0),
      todo_next l.invariant.1 (verts_more a.floats.now a.n l.i (omega arith)) w.wrote,
    )
