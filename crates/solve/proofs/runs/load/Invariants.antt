use Rattle.base.specs.LoopLaws.{Left}
use Rattle.solve.specs.Solve.{loaded, loaded_at}
use Rattle.solve.proofs.runs.load.Given as goal

abbrev pub invariant-loop-row : goal.invariant-loop-row
invariant-loop-row l = Left (loaded_at l.n l.cells) l.n l.row l.m (loaded l.n l.cells l.initial.m)
