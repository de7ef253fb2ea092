use Rattle.store.proofs.Filled.{Filled}
use Rattle.store.proofs.put.write_pieces.Given as goal

abbrev pub invariant-loop-j : goal.invariant-loop-j
invariant-loop-j l = Filled l.initial.floats l.at l.fn.fit l.j l.floats
