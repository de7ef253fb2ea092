-- `powers::exp::exp` meets its contract. Assumes nothing.
use Rattle.base.specs.FloatLaws.{is-nan, nan_test}
use Rattle.powers.proofs.Names.{infinity_is}
use Rattle.powers.specs.Exp.{exp}
use Rattle.powers.proofs.Bounds.{bounds}
use Rattle.powers.proofs.exp.exp.Goals as goal

pub returns-then-y : goal.returns-then-y
unfolding exp
returns-then-y c = rw (← nan_test _, c.if-y.true) (is-nan _ c.if-y.true)

pub returns-then-y-2 : goal.returns-then-y-2
unfolding exp
returns-then-y-2 c = rw (← nan_test _, c.if-y.false, c.if-y-2.true) infinity_is

pub returns : goal.returns
unfolding exp
returns c =
    rw (← nan_test _, c.if-y.false, c.if-y-2.false, c.if-y-3.false) c.exp_at.ensures

pub exp_at-requires : goal.exp_at-requires
exp_at-requires c =
    let b = bounds c.args.y c.if-y.false c.if-y-2.false c.if-y-3.false in
    record { fact_1 = b.0; fact_2 = b.1 }
