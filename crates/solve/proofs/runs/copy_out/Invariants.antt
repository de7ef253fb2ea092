use mathlib.Core.Path.{◌≡◌}
use lib.ListN.{length}
use Rattle.base.specs.Loops.{table_at}
use Rattle.base.specs.LoopLaws.{Left}
use Rattle.solve.specs.Solve.{answers, answer_at}
use Rattle.solve.proofs.runs.copy_out.Given as goal

abbrev pub invariant-loop-i : goal.invariant-loop-i
invariant-loop-i l = Left (table_at (answer_at l.n l.m)) l.n l.i l.answer (answers l.n l.m l.initial.answer)
    × (length l.answer ≡ length l.initial.answer)
