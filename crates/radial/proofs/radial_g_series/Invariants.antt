use Rattle.base.specs.LoopLaws.{Left}
use Rattle.radial.specs.Radial.{series_step, series_of}
use Rattle.radial.proofs.radial_g_series.Given as goal

abbrev pub invariant-loop-k : goal.invariant-loop-k
invariant-loop-k l = Left (series_step l.t) 10 l.k (record { acc = l.acc; term = l.term }) (series_of l.t)
