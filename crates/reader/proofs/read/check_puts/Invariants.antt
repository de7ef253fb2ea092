use Rattle.reader.proofs.PutTurns.{SoFar}
use Rattle.reader.proofs.read.check_puts.Given as goal

abbrev pub invariant-loop-count : goal.invariant-loop-count
invariant-loop-count l = SoFar l.s l.at l.count l.k l.placed l.layered
