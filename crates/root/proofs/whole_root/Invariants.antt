use Rattle.root.proofs.Steps.{Turn}
use Rattle.root.proofs.whole_root.Given as goal

abbrev pub invariant-loop-i : goal.invariant-loop-i
invariant-loop-i l = Turn l.d l.left l.root l.rest l.i
