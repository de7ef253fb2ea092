use Prim.Native.Nat.{ℕ}
use lib.ListN.{get_or, length}
use lib.Ieee.{Float, nan}
use Rattle.base.specs.FillLaws.{Filled}
use Rattle.base.specs.Floats.{◌⊗◌}
use Rattle.arcs.specs.Stages.{StepsLeft}
use Rattle.arcs.proofs.sums.next_steps.Given as goal

abbrev pub invariant-loop-i : goal.invariant-loop-i
invariant-loop-i l =
    Filled (length l.initial.g) (λ (j : ℕ) (a : Float). StepsLeft 3 (get_or l.v j nan ⊗ get_or l.v j nan) a) l.initial.g
    l.i l.g
