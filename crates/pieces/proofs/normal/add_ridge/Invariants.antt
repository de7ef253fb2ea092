use Rattle.base.specs.LoopLaws.{Left}
use Rattle.pieces.specs.Fit.{ridged, ridge_at}
use Rattle.pieces.proofs.normal.add_ridge.Given as goal

abbrev pub invariant-loop-i : goal.invariant-loop-i
invariant-loop-i l = Left ridge_at l.terms l.i l.m (ridged l.terms l.initial.m)
