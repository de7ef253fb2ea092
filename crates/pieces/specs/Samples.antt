-- The samples of a curve as a fit keeps them: worked out once, for the normal equations and for the peak error.
-- Definitions only.
use Rattle.std.specs.Prelude.{ℕ, ◌<◌, ◌≡◌, List, get_or, Float}
use Rattle.std.specs.Float.{nan}
use Rattle.pieces.specs.Fit.{sample_of, target_of}
use Rattle.pieces.specs.declared.points.Curve.{Curve}

-- the curve's value at the j-th of these points
abbrev pub value_at : Curve → List Float → ℕ → Float
value_at curve us j = target_of curve.alpha (get_or us j nan)

-- these are the curve's points, and its values there
pub record Samples (curve : Curve) (us targets : List Float) : Type 0 where
  pub point : (j : ℕ) → j < curve.samples → get_or us j nan ≡ sample_of curve j
  pub value : (j : ℕ) → j < curve.samples → get_or targets j nan ≡ target_of curve.alpha (sample_of curve j)
