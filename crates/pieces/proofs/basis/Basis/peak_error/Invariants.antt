use Rattle.base.specs.LoopLaws.{Left}
use Rattle.pieces.specs.Fit.{peak_error, error_at}
use Rattle.pieces.proofs.basis.Basis.peak_error.Given as goal

abbrev pub invariant-loop-j : goal.invariant-loop-j
invariant-loop-j l = Left (error_at l.self.terms l.self.scales l.coefficients l.sampled.curve)
    l.sampled.curve.samples l.j l.error
    (peak_error l.self.terms l.self.scales l.coefficients l.sampled.curve)
