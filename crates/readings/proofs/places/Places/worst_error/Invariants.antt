use mathlib.Core.Path.{◌≡◌}
use Rattle.layout.specs.Layout.{width}
use Rattle.readings.specs.Readings.{held_worst}
use Rattle.readings.proofs.places.Places.worst_error.Given as goal

abbrev pub invariant-loop-i : goal.invariant-loop-i
invariant-loop-i l = l.e ≡ held_worst width l.self.floats.now l.self.words.now l.i
