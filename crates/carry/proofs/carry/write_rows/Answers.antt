-- `carry::carry::write_rows` meets its contract. Assumes nothing.
use native.Mathlib.Omega.{arith}
use Rattle.carry.proofs.Carried.{one_rowed}
use Rattle.carry.proofs.carry.write_rows.Goals as goal

pub loop-i-preserved : goal.loop-i-preserved
loop-i-preserved c = one_rowed c.loop-i.invariant (omega arith) (omega arith)
