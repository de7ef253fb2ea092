use Rattle.base.specs.LoopLaws.{Left}
use Rattle.pieces.specs.Fit.{equations, sample_at}
use Rattle.pieces.proofs.normal.add_samples.Given as goal

abbrev pub invariant-loop-j : goal.invariant-loop-j
invariant-loop-j l = Left (sample_at l.basis.terms l.basis.scales l.sampled.curve) l.sampled.curve.samples
    l.j l.m (equations l.basis.terms l.basis.scales l.sampled.curve l.initial.m)
