use Prim.Native.Nat.{ℕ, ◌≤◌, ◌<◌}
use mathlib.Core.Path.{◌≡◌}
use lib.ListN.{get_or}
use lib.Ieee.{Float, nan}
use Rattle.base.specs.FillLaws.{Filled}
use Rattle.radial.specs.Radial.{radial_gSeries}
use Rattle.lanes.proofs.series.series_from.Given as goal

abbrev pub invariant-loop-i : goal.invariant-loop-i
invariant-loop-i l = Filled 28
    (λ (j : ℕ) (z : Float). (l.n ≤ j → z ≡ radial_gSeries (get_or l.t j nan))
    × (j < l.n → z ≡ get_or l.initial.g j nan))
    l.initial.g l.i l.g
    × (l.n ≤ l.i)
