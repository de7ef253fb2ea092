use Rattle.readings.specs.Readings.{held_at}
use Rattle.readings.specs.Lists.{rescaled_sixes, Listed}
use Rattle.readings.proofs.places.Places.write_place.Given as goal

abbrev pub invariant-loop-j : goal.invariant-loop-j
invariant-loop-j l = Listed l.initial.out l.at (rescaled_sixes l.s (held_at l.self.floats.now l.i l.j)) l.out
