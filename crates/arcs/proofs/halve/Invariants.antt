use Prim.Native.Nat.{ℕ}
use mathlib.Core.Path.{◌≡◌}
use lib.ListN.{get_or, length}
use lib.Ieee.{Float, nan, binary64}
use Rattle.base.specs.FillLaws.{Filled}
use Rattle.base.specs.Floats.{◌⊕◌, ◌⊘◌}
use Rattle.base.specs.Constants.{one}
use Rattle.base.specs.Ranges.{Within}
use Rattle.root.specs.Root.{square_root}
use Rattle.arcs.specs.ListLaws.{If, Clear}
use Rattle.arcs.proofs.halve.Given as goal

abbrev pub invariant-loop-i : goal.invariant-loop-i
invariant-loop-i l = Filled (length l.initial.v) (λ (j : ℕ) (z : Float). Within 0 1 z) l.initial.v l.i l.v
    × Filled (length l.initial.v)
    (If (Clear 54 l.coarse l.far)
    (λ (j : ℕ) (z : Float). z ≡ get_or l.initial.v j nan ⊘ (one ⊕ square_root binary64 (get_or l.radicands j nan))))
    l.initial.v l.i l.v
