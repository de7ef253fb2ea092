-- The series of the arc in parts: with all of its steps left, some, and none. Assumes nothing.
use mathlib.Core.Path.{◌≡◌, refl, subst}
use Prim.Native.Nat.{ℕ, ◌≤◌}
use native.Mathlib.Omega.{arith}
use lib.Ieee.{Float}
use Rattle.base.specs.Floats.{◌⊘◌}
use Rattle.base.specs.Constants.{one, twenty_three}
use Rattle.base.specs.Loops.{down}
use Rattle.base.specs.LoopLaws.{Lower}
use Rattle.powers.specs.Arc.{arc_term, arc_sum}
use Rattle.arcs.specs.Stages.{StepsLeft}

pub all_left : (q : Float) → StepsLeft 11 q (one ⊘ twenty_three)
unfolding arc_sum
all_left q = refl

pub none_left : (q a : Float) → StepsLeft 0 q a → a ≡ arc_sum q
unfolding down
none_left q a h = h

pub left_at_lem : (q a : Float) {j k : ℕ} → Lower (arc_term q) j a (arc_sum q) → k ≤ j → j ≤ k → StepsLeft k q a
left_at_lem q a {j} {k} l g h = subst (λ (n : ℕ). StepsLeft n q a) same l.same
  where
    same : j ≡ k
    same = omega arith
