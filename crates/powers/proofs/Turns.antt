-- The laws of loops that count down, for `search`. Assumes nothing.
use Rattle.base.specs.LoopLaws.{from-top, lowers, at_bottom}

pub ruleset turns = (from-top, lowers, at_bottom)
