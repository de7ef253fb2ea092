-- `squeeze::moves::renumber` meets its contract. The invariant: the corners looked at have their new numbers.
-- Assumes nothing.
use native.Mathlib.Omega.{arith}
use Rattle.squeeze.specs.SqueezeLaws.{corner_small, one_renumbered}
use Rattle.squeeze.proofs.moves.renumber.Goals as goal

pub number-requires : goal.number-requires
number-requires c =
    corner_small c.loop-k.invariant (omega arith) c.requires.0 c.requires.1 c.requires.2 c.requires.3

pub loop-k-preserved : goal.loop-k-preserved
loop-k-preserved c =
    one_renumbered c.loop-k.invariant (omega arith) c.requires.0 c.requires.1 c.requires.2 c.requires.3
    c.number.result c.number.ensures
