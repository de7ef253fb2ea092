use mathlib.Core.Path.{◌≡◌}
use Rattle.readings.specs.Readings.{held_at}
use Rattle.readings.specs.Folds.{fold, origin_step}
use Rattle.readings.proofs.places.Places.origin_density_with.Given as goal

abbrev pub invariant-loop-j : goal.invariant-loop-j
invariant-loop-j l = l.rho ≡ fold origin_step (held_at l.self.floats.now l.i l.j) l.start
