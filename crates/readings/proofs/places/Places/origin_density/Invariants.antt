use mathlib.Core.Path.{◌≡◌}
use Rattle.base.specs.Floats.{+0}
use Rattle.layout.specs.Layout.{width}
use Rattle.readings.specs.Readings.{held_all_lem}
use Rattle.readings.specs.Folds.{fold, origin_step}
use Rattle.readings.proofs.places.Places.origin_density.Given as goal

abbrev pub invariant-loop-i : goal.invariant-loop-i
invariant-loop-i l = l.rho ≡ fold origin_step (held_all_lem width l.self.floats.now l.self.words.now l.i) +0
