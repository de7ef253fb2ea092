use mathlib.Core.Path.{◌≡◌}
use Prim.Native.Nat.{◌*◌, ◌≤◌}
use Rattle.layout.specs.Layout.{width}
use Rattle.readings.specs.Counts.{held_pieces}
use Rattle.readings.proofs.counts.count_pieces.Given as goal

abbrev pub invariant-loop-i : goal.invariant-loop-i
invariant-loop-i l = (l.sum ≡ held_pieces width l.words l.i) × (l.sum ≤ 16 * l.i)
