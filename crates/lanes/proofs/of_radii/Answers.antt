-- `of_radii` meets its contract: the series of small radii gives the factors. Assumes nothing.
use Rattle.lanes.proofs.Joins.{by_series}
use Rattle.lanes.proofs.of_radii.Goals as goal

pub returns-then-all_small-clause-factors : goal.returns-then-all_small-clause-factors
returns-then-all_small-clause-factors c e =
    by_series c.args.scratch.now.radii (c.all_small.ensures c.if-all_small.true) c.series_from.ensures
