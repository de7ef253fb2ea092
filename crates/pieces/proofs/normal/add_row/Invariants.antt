use Rattle.base.specs.LoopLaws.{Left}
use Rattle.pieces.specs.Fit.{crossed, cross_at}
use Rattle.pieces.proofs.normal.add_row.Given as goal

abbrev pub invariant-loop-b : goal.invariant-loop-b
invariant-loop-b l = Left (cross_at l.values l.wa) l.terms l.b l.row (crossed l.terms l.values l.wa l.initial.row)
