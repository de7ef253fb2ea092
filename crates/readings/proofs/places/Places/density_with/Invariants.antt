use mathlib.Core.Path.{◌≡◌}
use Rattle.readings.specs.Readings.{held_at}
use Rattle.readings.specs.Folds.{fold, scaled_step}
use Rattle.readings.proofs.places.Places.density_with.Given as goal

abbrev pub invariant-loop-j : goal.invariant-loop-j
invariant-loop-j l = l.rho ≡ fold (scaled_step l.s l.x) (held_at l.self.floats.now l.i l.j) l.start
