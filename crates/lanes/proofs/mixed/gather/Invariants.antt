use Prim.Native.Nat.{ℕ}
use mathlib.Core.Path.{◌≡◌}
use lib.ListN.{get_or}
use lib.Ieee.{Float, nan}
use Rattle.base.specs.FillLaws.{Filled}
use Rattle.lanes.proofs.mixed.gather.Given as goal

abbrev pub invariant-loop-i : goal.invariant-loop-i
invariant-loop-i l = Filled 28 (λ (j : ℕ) (z : Float). z ≡ get_or l.s (get_or l.places j 0) nan) l.initial.g l.i l.g
