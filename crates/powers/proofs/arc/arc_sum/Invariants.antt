use Rattle.base.specs.LoopLaws.{Lower}
use Rattle.powers.specs.Arc.{arc_term, arc_sum}
use Rattle.powers.proofs.arc.arc_sum.Given as goal

abbrev pub invariant-loop-k : goal.invariant-loop-k
invariant-loop-k l = Lower (arc_term l.q) l.k l.a (arc_sum l.q)
