-- `put::write_pieces` meets its contract. Assumes nothing.
use native.Mathlib.Omega.{arith}
use Rattle.store.proofs.Filled.{none_filled, one_filled}
use Rattle.store.proofs.put.write_pieces.Goals as goal

pub loop-j-init : goal.loop-j-init
loop-j-init c = none_filled _ _ _

pub loop-j-preserved : goal.loop-j-preserved
loop-j-preserved c = rw c.copy.ensures (one_filled _ _ _ _ _ c.loop-j.invariant (omega arith) (omega arith))
