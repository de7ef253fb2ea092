-- `closed::gather::below` meets its contract: the words from the i-th on are not below the end. Assumes nothing.
use Rattle.std.proofs.Common.{arith}
use Rattle.sort.specs.OrderLaws.{all_none}
use Rattle.closed.specs.HeldLaws.{cut-less}
use Rattle.closed.proofs.gather.below.Goals as goal

pub loop-i-init : goal.loop-i-init
loop-i-init c = all_none (omega arith)

pub loop-i-preserved : goal.loop-i-preserved
loop-i-preserved c = cut-less (omega arith) (omega arith) c.loop-i.invariant (omega arith)
