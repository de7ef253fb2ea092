-- The laws that the loops here take, for `search`. Assumes nothing.
use Rattle.base.specs.FillLaws.{none_filled, fills}
use Rattle.arcs.specs.ListLaws.{flagged, none_seen, sees_or, all_seen, all_filled}
use Rattle.lanes.proofs.Joins.{whole, firsts}
use Rattle.lanes.proofs.Points.{small-between}

pub ruleset fills_all = (none_filled, fills, all_filled, whole)

pub ruleset sees_all = (none_seen, sees_or, all_seen, whole)

pub ruleset flags = (flagged, small-between)
