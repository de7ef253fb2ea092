use Rattle.base.specs.LoopLaws.{Lower}
use Rattle.powers.specs.Exp.{exp_term, exp_sum}
use Rattle.powers.proofs.exp.exp_sum.Given as goal

abbrev pub invariant-loop-k : goal.invariant-loop-k
invariant-loop-k l = Lower (exp_term l.z) l.k l.a (exp_sum l.z)
