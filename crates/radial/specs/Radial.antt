-- `radial_g` of native mass.rs. Definitions only.
use Rattle.std.specs.Prelude.{ℕ, cond, Float}
use Rattle.std.specs.Float.Ieee.{neg, lt}
use Rattle.base.specs.Floats.{◌⊕◌, ◌⊖◌, ◌⊗◌, ◌⊘◌, whole, abs}
use Rattle.base.specs.Constants.{one, two, three, tenth}
use Rattle.base.specs.Loops.{times}
use Rattle.powers.specs.Arc.{arc}

-- the series as far as it is summed, and its last term
pub record Series : Type 0 where
  pub acc : Float
  pub term : Float

-- "term *= -t2 * (2.0 * k as f64 + 1.0) / (2.0 * k as f64 + 3.0)"
abbrev pub next_term : Float → ℕ → Float → Float
next_term t k term = term ⊗ (neg (t ⊗ t) ⊗ (two ⊗ whole k ⊕ one) ⊘ (two ⊗ whole k ⊕ three))

abbrev pub series_step : Float → ℕ → Series → Series
series_step t k s = record { acc = s.acc ⊕ next_term t k s.term; term = next_term t k s.term }

-- k = 1 to 9, from acc = term = 1/3
unfoldable pub series_of : Float → Series
series_of t = times (series_step t) 9 1 (record { acc = one ⊘ three; term = one ⊘ three })

abbrev pub radial_gSeries : Float → Float
radial_gSeries t = (series_of t).acc

-- g(t), which is (t - atan t) / t³; 0.1 and NaN take the quotient
unfoldable pub radial_g : Float → Float
radial_g t = cond (lt (abs t) tenth) (radial_gSeries t) ((t ⊖ arc t) ⊘ (t ⊗ t ⊗ t))
