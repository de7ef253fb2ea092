-- The laws of counting loops, for the search: of their turns, of the first elements of an array, which they go over, and
-- of how many pieces are kept. Assumes nothing.
use Rattle.std.proofs.lemmas.List.{get_or-take, length-take}
use Rattle.base.specs.LoopLaws.{from_zero, goes, ended, set_to}
use Rattle.pieces.specs.PieceLaws.{keep-count}

pub ruleset turns = (from_zero, goes, ended, set_to, get_or-take, length-take, keep-count)
