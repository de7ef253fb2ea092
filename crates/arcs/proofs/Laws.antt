-- The laws that the loops here take, for `search`. Assumes nothing.
use Rattle.base.specs.FillLaws.{none_filled, fills}
use Rattle.base.specs.LoopLaws.{from-top, lowers}
use Rattle.arcs.specs.ListLaws.{all_filled}
use Rattle.arcs.proofs.Parts.{left_at_lem, none_left}
use Rattle.arcs.proofs.Points.{low-inverted, low-quotient, halved_of}

pub ruleset turns = (from-top, lowers, left_at_lem)

pub ruleset fills_all = (none_filled, fills, all_filled)

pub ruleset low = (low-inverted, low-quotient)
