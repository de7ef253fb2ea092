use Rattle.std.proofs.Common.{◌≤◌}
use Rattle.base.specs.LoopLaws.{Left}
use Rattle.pieces.specs.Pieces.{kept, keep_at}
use Rattle.pieces.proofs.pieces.Pieces.keep_terms.Given as goal

abbrev pub invariant-loop-i : goal.invariant-loop-i
invariant-loop-i l = record {
  left : Left (keep_at l.sigma l.basis.scales l.coefficients) l.basis.terms l.i l.self
      (kept l.basis.terms l.sigma l.basis.scales l.coefficients l.initial.self);
  few : l.self.count ≤ l.i;
}
