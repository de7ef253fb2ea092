use mathlib.Core.Path.{◌≡◌}
use mathlib.Core.List.{List}
use Prim.Native.Nat.{◌+◌, ◌*◌, ◌-◌, ◌≤◌}
use lib.ListN.{length}
use lib.Ieee.{Float}
use Rattle.script.specs.Written.{put_rows}
use Rattle.layout.specs.Layout.{width}
use Rattle.script.proofs.room.puts_length.Given as goal

abbrev pub invariant-loop-i : goal.invariant-loop-i
invariant-loop-i l = (l.sum ≤ 182 * l.i)
    × ((fs : List Float) → l.sum + length (put_rows width fs l.words (32 - l.i) l.i)
    ≡ length (put_rows width fs l.words 32 0))
