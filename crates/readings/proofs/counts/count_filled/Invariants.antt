use mathlib.Core.Path.{◌≡◌}
use Prim.Native.Nat.{◌≤◌}
use Rattle.layout.specs.Layout.{width}
use Rattle.readings.specs.Readings.{held_filled}
use Rattle.readings.proofs.counts.count_filled.Given as goal

abbrev pub invariant-loop-i : goal.invariant-loop-i
invariant-loop-i l = (l.sum ≡ held_filled width l.words l.i) × (l.sum ≤ l.i)
