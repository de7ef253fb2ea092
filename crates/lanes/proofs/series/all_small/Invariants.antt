use Prim.Native.Nat.{ℕ}
use mathlib.Core.Path.{◌≡◌}
use lib.Ieee.{Float}
use Rattle.arcs.specs.ListLaws.{Seen}
use Rattle.lanes.specs.Stages.{Small}
use Rattle.lanes.proofs.series.all_small.Given as goal

abbrev pub invariant-loop-i : goal.invariant-loop-i
invariant-loop-i l = Seen (l.flag ≡ 0) (λ (j : ℕ) (z : Float). Small z) l.i l.t
