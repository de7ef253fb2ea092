-- `powers::log::log` meets its contract. Assumes nothing.
use Rattle.base.specs.FloatLaws.{is-nan, nan_test, is-inf, is_positive}
use Rattle.powers.proofs.Names.{nan_is, infinity_is, neg_infinity_is}
use Rattle.powers.specs.Log.{log}
use Rattle.powers.proofs.log.log.Goals as goal

pub returns-then-b : goal.returns-then-b
unfolding log
returns-then-b c = rw (← nan_test _, c.if-b.true) (is-nan _ c.if-b.true)

pub returns-then-b-2 : goal.returns-then-b-2
unfolding log
returns-then-b-2 c = rw (← nan_test _, c.if-b.false, c.if-b-2.true) nan_is

pub returns-then-b-3 : goal.returns-then-b-3
unfolding log
returns-then-b-3 c = rw (← nan_test _, c.if-b.false, c.if-b-2.false, c.if-b-3.true) neg_infinity_is

pub returns-then-b-4 : goal.returns-then-b-4
unfolding log
returns-then-b-4 c =
    let h = rw infinity_is at c.if-b-4.true in
    rw (← nan_test _, c.if-b.false, c.if-b-2.false, c.if-b-3.false, h) (is-inf _ h)

pub log_positive-requires : goal.log_positive-requires
log_positive-requires c =
    is_positive _ c.if-b.false c.if-b-3.false c.if-b-2.false
    (rw infinity_is at c.if-b-4.false)

pub returns : goal.returns
unfolding log
returns c =
    rw (
      ← nan_test _,
      c.if-b.false,
      c.if-b-2.false,
      c.if-b-3.false,
      rw infinity_is at c.if-b-4.false,
    ) c.log_positive.ensures
