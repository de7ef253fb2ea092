-- At each turn the lines that are left, once written, make the run that all make. Assumes nothing.
use Prim.Native.Nat.{◌+◌, ◌-◌}
use native.Mathlib.Omega.{arith}
use Rattle.script.specs.Written.{put_row, put_rows}
use Rattle.layout.specs.Layout.{width}
use Rattle.script.specs.LineLaws.{puts_more}
use Rattle.script.specs.LineLaws.{todo_next, todo_room}
use Rattle.writer.proofs.write_puts.Goals as goal

pub write_row-k-requires : goal.write_row-k-requires
write_row-k-requires c =
    let a = c.args in
    let l = c.loop-i in (
      todo_room (put_row width a.floats.now a.words.now l.i)
          (put_rows width a.floats.now a.words.now (32 - (l.i + 1)) (l.i + 1)) l.invariant
          (puts_more width a.floats.now a.words.now 32 l.i (omega arith)) c.requires.0,
      omega arith,
      c.requires.1,
      c.requires.2,
    )

pub loop-i-preserved : goal.loop-i-preserved
loop-i-preserved c =
    let a = c.args in
    let l = c.loop-i in
    todo_next l.invariant (puts_more width a.floats.now a.words.now 32 l.i (omega arith)) c.write_row-k.ensures
