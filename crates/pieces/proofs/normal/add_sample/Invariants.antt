use Rattle.base.specs.LoopLaws.{Left}
use Rattle.pieces.specs.Fit.{sampled, crossed_row_at}
use Rattle.pieces.proofs.normal.add_sample.Given as goal

abbrev pub invariant-loop-a : goal.invariant-loop-a
invariant-loop-a l = Left (crossed_row_at l.terms l.values l.target) l.terms l.a l.m
    (sampled l.terms l.values l.target l.initial.m)
