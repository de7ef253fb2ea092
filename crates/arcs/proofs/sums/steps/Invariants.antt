use Prim.Native.Nat.{◌≤◌}
use Rattle.base.specs.LoopLaws.{Lower}
use Rattle.powers.specs.Arc.{arc_term, arc_sum}
use Rattle.arcs.proofs.sums.steps.Given as goal

abbrev pub invariant-loop-k : goal.invariant-loop-k
invariant-loop-k l = (l.to ≤ l.k) × (l.k ≤ 11) × Lower (arc_term l.q) l.k l.a (arc_sum l.q)
