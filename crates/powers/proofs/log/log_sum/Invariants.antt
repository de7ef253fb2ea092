use Rattle.base.specs.LoopLaws.{Lower}
use Rattle.powers.specs.Log.{log_term, log_sum}
use Rattle.powers.proofs.log.log_sum.Given as goal

abbrev pub invariant-loop-k : goal.invariant-loop-k
invariant-loop-k l = Lower (log_term l.q) l.k l.a (log_sum l.q)
