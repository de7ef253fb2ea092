use Prim.Native.Nat.{◌+◌}
use Rattle.base.specs.LoopLaws.{Left}
use Rattle.solve.specs.Elimination.{over, over_at}
use Rattle.solve.proofs.matrix.divide.Given as goal

abbrev pub invariant-loop-j : goal.invariant-loop-j
invariant-loop-j l = Left (over_at l.divisor) (l.n + 1) l.j l.row (over l.n l.col l.divisor l.initial.row)
