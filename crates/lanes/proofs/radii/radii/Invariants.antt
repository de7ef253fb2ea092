use Prim.Native.Nat.{ℕ}
use mathlib.Core.Path.{◌≡◌}
use lib.Ieee.{Float}
use Rattle.base.specs.FillLaws.{Filled}
use Rattle.arcs.specs.Lists.{Of}
use Rattle.arcs.specs.Stages.{Large, Low}
use Rattle.lanes.specs.Stages.{radius}
use Rattle.arcs.specs.ListLaws.{If, Clear}
use Rattle.lanes.proofs.radii.radii.Given as goal

abbrev pub invariant-loop-i : goal.invariant-loop-i
invariant-loop-i l = Filled 28 (If (Clear 62 l.coarse l.far) (Of (radius l.sigma) l.x)) l.initial.t l.i l.t
    × Filled 28 (If (l.small ≡ 0) (λ (j : ℕ) (z : Float). Large z)) l.initial.t l.i l.t
    × Filled 28 (If (l.high ≡ 0) (λ (j : ℕ) (z : Float). Low z)) l.initial.t l.i l.t
