use mathlib.Core.Path.{◌≡◌}
use Rattle.readings.specs.Readings.{held_at}
use Rattle.readings.specs.Folds.{fold, mass_step}
use Rattle.readings.proofs.sums.place_mass.Given as goal

abbrev pub invariant-loop-j : goal.invariant-loop-j
invariant-loop-j l = l.total ≡ fold mass_step (held_at l.floats l.i l.j) l.start
