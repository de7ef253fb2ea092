use Prim.Native.Nat.{◌+◌}
use Rattle.base.specs.LoopLaws.{Left}
use Rattle.solve.specs.Elimination.{less, less_at}
use Rattle.solve.proofs.matrix.subtract.Given as goal

abbrev pub invariant-loop-j : goal.invariant-loop-j
invariant-loop-j l = Left (less_at l.pivot_row l.factor) (l.n + 1) l.j l.row
    (less l.n l.col l.pivot_row l.factor l.initial.row)
