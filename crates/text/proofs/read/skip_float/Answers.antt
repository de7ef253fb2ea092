-- A float passed over: sixteen digits, where there are as many bytes and all are digits. Assumes nothing.
use Rattle.std.proofs.Common.{sym, ◌∙◌, arith}
use Rattle.text.specs.Text.{rest, float}
use Rattle.text.specs.TextLaws.{rest-past, no_pattern}
use Rattle.text.proofs.Steps.{sixteen, pattern-after}
use Rattle.text.proofs.read.skip_float.Goals as goal

pub overflow_add-result : goal.overflow_add-result
overflow_add-result c =
    omega (arith, sixteen c.args.s.now c.args.at (sym c.has_pattern.ensures ∙ c.if-has_pattern.true))

pub returns-then-has_pattern : goal.returns-then-has_pattern
unfolding float
returns-then-has_pattern c =
    let h = sym c.has_pattern.ensures ∙ c.if-has_pattern.true in
    sym (pattern-after c.args.s.now 16 c.args.at 0 (sixteen c.args.s.now c.args.at h) h)

pub returns-else-has_pattern : goal.returns-else-has_pattern
unfolding float
returns-else-has_pattern c =
    let e = no_pattern 16 0 (rest c.args.s.now c.args.at) (sym c.has_pattern.ensures ∙ c.if-has_pattern.false) in
    rest-past c.args.s.now ∙ (λ i. (sym e i).text)
