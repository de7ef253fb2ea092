use Prim.Native.Nat.{ℕ}
use mathlib.Core.Path.{◌≡◌}
use lib.ListN.{get_or, length}
use lib.Ieee.{Float, nan}
use Rattle.base.specs.FillLaws.{Filled}
use Rattle.arcs.specs.Stages.{quotient}
use Rattle.arcs.proofs.quotients_of.Given as goal

abbrev pub invariant-loop-i : goal.invariant-loop-i
invariant-loop-i g l =
    Filled (length l.initial.g) (λ (j : ℕ) (z : Float). z ≡ quotient (get_or l.t j nan) (get_or l.v j nan)) l.initial.g
    l.i l.g
