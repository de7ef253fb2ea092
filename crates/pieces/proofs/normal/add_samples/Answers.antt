-- `add_samples`: one sample more. Assumes nothing.
use Rattle.base.specs.LoopLaws.{goes}
use Rattle.pieces.specs.Fit.{sample_at}
use Rattle.pieces.proofs.normal.add_samples.Goals as goal

pub loop-j-preserved : goal.loop-j-preserved
unfolding sample_at
loop-j-preserved c =
    let s = c.args.sampled.now.sampled in
    let h = c.loop-j-test.true in
    goes c.loop-j.invariant h (simp (c.add_sample.ensures, c.fill_values.ensures, s.point _ h, s.value _ h))
