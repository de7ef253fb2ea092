-- A decimal number: no digit, a zero alone, or a first digit and those after it. Assumes nothing.
use Rattle.std.proofs.Common.{sym, ◌∙◌, ltb-true, ltb-false}
use Rattle.text.proofs.Steps.{decimal-none, decimal-not, decimal-zero, decimal_first}
use Rattle.text.proofs.read.read_decimal.Goals as goal
use Rattle.text.proofs.read.read_decimal.Goals.{then-at-s-via-then-at-s, then-at-s-via-else-at-s+then-not-is_decimal}

pub returns-then-at-s-clause-at_value : goal.returns-then-at-s-clause-at_value
returns-then-at-s-clause-at_value c =
    let a = c.args in
    (λ i. record { val = c.nowhere.ensures.value i; text = c.nowhere.ensures.at_value i })
    ∙ sym
    (elim c.then-at-s.branch [
      | then-at-s-via-then-at-s w ↦ decimal-none a.s.now a.most a.at w.if-at-s.true
      | then-at-s-via-else-at-s+then-not-is_decimal w ↦
          decimal-not a.s.now a.most a.at w.if-at-s.false
          (ltb-false _ 10 (sym w.is_decimal.ensures ∙ w.if-not-is_decimal.true))
    ])

pub returns-then-d-eq0-clause-at_value : goal.returns-then-d-eq0-clause-at_value
returns-then-d-eq0-clause-at_value c =
    let a = c.args in
    sym (decimal-zero a.s.now a.most a.at c.if-at-s.false (sym c.decimal_of-d.ensures ∙ c.if-d-eq0.true))

pub returns-clause-at_value : goal.returns-clause-at_value
returns-clause-at_value c =
    let a = c.args in
    let d = c.decimal_of-d in
    let h = ltb-true _ 10 (sym c.is_decimal.ensures ∙ c.if-not-is_decimal.false) in
    c.read_digits.ensures.at_value
    ∙ rw d.ensures (sym (decimal_first a.s.now a.most a.at c.if-at-s.false h (rw d.ensures at c.if-d-eq0.false)))
