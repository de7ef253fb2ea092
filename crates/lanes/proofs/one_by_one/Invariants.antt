use Rattle.base.specs.FillLaws.{Filled}
use Rattle.arcs.specs.Lists.{Of}
use Rattle.lanes.specs.Factors.{factor}
use Rattle.lanes.proofs.one_by_one.Given as goal

abbrev pub invariant-loop-i : goal.invariant-loop-i
invariant-loop-i l = Filled 28 (Of (factor l.sigma) l.x) l.initial.g l.i l.g
