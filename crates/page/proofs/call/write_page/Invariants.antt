use mathlib.Core.Path.{◌≡◌}
use Prim.Native.Nat.{◌*◌, ◌≤◌}
use lib.IntN.{pos, ◌-ℤ◌}
use lib.ListN.{length}
use Rattle.layout.specs.Layout.{width}
use Rattle.text.specs.Print.{Wrote}
use Rattle.page.specs.Page.{lines_of, total_of, held_rows}
use Rattle.page.proofs.call.write_page.Given as goal

abbrev pub invariant-loop-i : goal.invariant-loop-i
invariant-loop-i l = (l.s.at ≡ 65 * length (held_rows width l.places.floats.now l.places.words.now l.i))
    × Wrote l.initial.out 0 (lines_of (held_rows width l.places.floats.now l.places.words.now l.i)) l.s.at l.out
    × (pos l.s.plus -ℤ pos l.s.less ≡ total_of (held_rows width l.places.floats.now l.places.words.now l.i))
    × (l.s.plus ≤ 1000000000000000 * l.i)
    × (l.s.less ≤ 1000000000000000 * l.i)
