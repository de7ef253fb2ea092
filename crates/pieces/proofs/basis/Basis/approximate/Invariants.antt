use Rattle.base.specs.LoopLaws.{Left}
use Rattle.pieces.specs.Fit.{approx, approx_at}
use Rattle.pieces.proofs.basis.Basis.approximate.Given as goal

abbrev pub invariant-loop-i : goal.invariant-loop-i
invariant-loop-i l = Left (approx_at l.self.scales l.coefficients l.u) l.self.terms l.i l.sum
    (approx l.self.terms l.self.scales l.coefficients l.u)
