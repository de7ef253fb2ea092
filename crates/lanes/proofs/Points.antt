-- One point whose radius is small: the series is the factor, and what its two tests tell. Assumes nothing.
use mathlib.Core.Path.{◌≡◌, refl}
use mathlib.Core.Bool.{true, false, false≢true}
use lib.Ieee.{Float, nan, inf, fin, lt, neg, of_bits}
use Rattle.base.specs.Floats.{abs}
use Rattle.base.specs.Constants.{tenth}
use Rattle.radial.specs.Radial.{radial_gSeries, radial_g}
use Rattle.lanes.specs.Stages.{Small}

pub small_is : (t : Float) → Small t → radial_gSeries t ≡ radial_g t
unfolding radial_g
small_is t h = rw h refl

pub small-between : (t : Float) → lt t tenth ≡ true → lt (neg tenth) t ≡ true → Small t
unfolding lt abs neg of_bits
small-between nan h k = h
small-between (inf true) h k = absurd (false≢true k)
small-between (inf false) h k = h
small-between (fin true m e) h k = k
small-between (fin false m e) h k = h
