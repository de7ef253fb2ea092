-- `mixed` meets its contract: each radius has the factor that was worked at its place. Assumes nothing.
use Rattle.lanes.proofs.Joins.{by_parts}
use Rattle.lanes.proofs.mixed.mixed.Goals as goal

pub returns-in-Some-clause-factors : goal.returns-in-Some-clause-factors
returns-in-Some-clause-factors c e =
    by_parts c.in-Some.large c.in-Some.ensures (c.arc_factors-done.ensures e) c.series_from.ensures c.gather.ensures
