-- The laws of counting loops, for `search`. Assumes nothing.
use Rattle.base.specs.LoopLaws.{start, goes, ended}

pub ruleset turns = (start, goes, ended)
