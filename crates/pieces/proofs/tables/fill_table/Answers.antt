-- `fill_table` meets its contract: the places that are left, written, give the table. Assumes nothing.
use Rattle.std.proofs.Common.{refl}
use Rattle.base.specs.Loops.{table}
use Rattle.base.specs.LoopLaws.{from_zero, goes, ended, set_to}
use Rattle.pieces.specs.Tables.{Tabled}
use Rattle.pieces.proofs.tables.fill_table.Goals as goal

pub loop-i-init : goal.loop-i-init
unfolding table
loop-i-init g c = λ f h. from_zero refl

pub loop-i-preserved : goal.loop-i-preserved
loop-i-preserved g c =
    λ f h. goes (c.loop-i.invariant f h) c.loop-i-test.true (set_to _ _ (h _ _ c.loop-i-test.true c.value.ensures))

pub returns : goal.returns
unfolding Tabled
returns g c = λ f h. ended (c.loop-i.invariant f h) c.loop-i-test.false
