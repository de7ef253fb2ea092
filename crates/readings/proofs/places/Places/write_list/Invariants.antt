use mathlib.Core.Path.{◌≡◌}
use Prim.Native.Nat.{◌*◌}
use Rattle.layout.specs.Layout.{width}
use Rattle.readings.specs.Readings.{held_all_lem}
use Rattle.readings.specs.Counts.{held_pieces}
use Rattle.readings.specs.Lists.{rescaled_sixes, Listed}
use Rattle.readings.proofs.places.Places.write_list.Given as goal

abbrev pub invariant-loop-i : goal.invariant-loop-i
invariant-loop-i l =
    (l.at ≡ 6 * held_pieces width l.self.words.now l.i)
    × Listed l.initial.out 0 (rescaled_sixes l.s (held_all_lem width l.self.floats.now l.self.words.now l.i)) l.out
