use Prim.Native.Nat.{◌-◌}
use Rattle.script.specs.Written.{put_rows}
use Rattle.layout.specs.Layout.{width}
use Rattle.script.specs.LineLaws.{Todo}
use Rattle.writer.proofs.write_puts.Given as goal

abbrev pub invariant-loop-i : goal.invariant-loop-i
invariant-loop-i l = Todo l.initial.out l.at (put_rows width l.floats l.words 32 0) l.out l.k
    (put_rows width l.floats l.words (32 - l.i) l.i)
