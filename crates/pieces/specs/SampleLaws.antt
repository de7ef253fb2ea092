-- What stands in the two tables of a curve's samples. Assumes nothing.
use Rattle.std.specs.Prelude.{◌≡◌, List, ℕ, ◌≤◌, ◌<◌, get_or, replicate, Float}
use Rattle.std.proofs.Common.{ap, ◌∙◌}
use Rattle.std.specs.Float.{nan}
use Rattle.base.specs.Floats.{+0}
use Rattle.base.specs.Loops.{table}
use Rattle.base.specs.TableLaws.{tabled}
use Rattle.pieces.specs.Fit.{sample_of, target_of}
use Rattle.pieces.specs.Samples.{value_at, Samples}
use Rattle.pieces.specs.declared.points.Curve.{Curve}

-- the two tables of a curve hold its samples
pub holds : (curve : Curve) (us targets : List Float) → curve.samples ≤ 48
    → us ≡ table (sample_of curve) curve.samples (replicate 48 +0)
    → targets ≡ table (value_at curve us) curve.samples (replicate 48 +0) → Samples curve us targets
holds curve us targets h e₁ e₂ = record { point = point; value = value }
  where
    point : (j : ℕ) → j < curve.samples → get_or us j nan ≡ sample_of curve j
    point j l = rw e₁ (tabled (sample_of curve) nan curve.samples j (replicate 48 +0) l h)

    value : (j : ℕ) → j < curve.samples → get_or targets j nan ≡ target_of curve.alpha (sample_of curve j)
    value j l = rw e₂ (tabled (value_at curve us) nan curve.samples j (replicate 48 +0) l h)
        ∙ ap (target_of curve.alpha) (point j l)
