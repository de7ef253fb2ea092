-- `add_row` meets its contract: the cells, then the right side. Assumes nothing.
use Rattle.std.proofs.Common.{ap}
use Rattle.base.specs.LoopLaws.{ended}
use Rattle.pieces.specs.Fit.{target_at}
use Rattle.pieces.proofs.normal.add_row.Goals as goal

pub returns : goal.returns
returns c = ap (target_at _ _ _) (ended c.loop-b.invariant c.loop-b-test.false)
