use Rattle.lanes.proofs.Parting.{PartedTo}
use Rattle.lanes.proofs.mixed.part.Given as goal

abbrev pub invariant-loop-i : goal.invariant-loop-i
invariant-loop-i l = PartedTo l.t l.u l.places l.large l.flag l.i
