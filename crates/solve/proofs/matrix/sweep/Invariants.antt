use Rattle.base.specs.LoopLaws.{Left}
use Rattle.solve.specs.Elimination.{swept, clear_at_lem}
use Rattle.solve.proofs.matrix.sweep.Given as goal

abbrev pub invariant-loop-row : goal.invariant-loop-row
invariant-loop-row l = Left (clear_at_lem l.n l.col l.pivot_row) l.n l.row l.m (swept l.n l.col l.initial.m)
