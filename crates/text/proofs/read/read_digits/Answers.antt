-- Decimal digits: at each turn those from `k` on, after those that make `value`, give what all give at `at`.
-- Assumes nothing.
use Rattle.std.proofs.Common.{◌≡◌, length, sym, ◌∙◌, arith, ltb-false}
use Rattle.text.proofs.Steps.{decimal-other, decimal_end}
use Rattle.text.proofs.read.read_digits.Goals as goal

pub returns-then-not-is_decimal-clause-at_value : goal.returns-then-not-is_decimal-clause-at_value
returns-then-not-is_decimal-clause-at_value c =
    let a = c.args in
    let l = c.loop-k in
    sym
    (decimal-other a.s.now a.most l.k l.value (omega arith)
    (ltb-false _ 10 (sym c.is_decimal.ensures ∙ c.if-not-is_decimal.true)))
    ∙ l.invariant.same

pub returns-clause-at_value : goal.returns-clause-at_value
returns-clause-at_value c =
    let a = c.args in
    let l = c.loop-k in
    let e : l.k ≡ length a.s.now = omega (arith, l.auto.k-end) in
    rw (← e) (sym (decimal_end a.s.now a.most l.k l.value e) ∙ l.invariant.same)
