-- A float by its bits: the one float of the pattern that stands there. Assumes nothing.
use Rattle.std.proofs.Common.{sym, ◌∙◌, arith}
use Rattle.base.specs.Floats.{bits}
use Rattle.text.specs.Text.{rest, float}
use Rattle.text.specs.TextLaws.{no_pattern}
use Rattle.text.proofs.Steps.{sixteen}
use Rattle.text.proofs.read.read_float.Goals as goal

pub pattern_at-requires : goal.pattern_at-requires
pattern_at-requires c =
    let h = sym c.has_pattern.ensures ∙ c.if-has_pattern.true in
    (sixteen c.args.s.now c.args.at h, h)

pub overflow_add-result : goal.overflow_add-result
overflow_add-result c =
    omega (arith, sixteen c.args.s.now c.args.at (sym c.has_pattern.ensures ∙ c.if-has_pattern.true))

pub returns-then-has_pattern : goal.returns-then-has_pattern
unfolding float
returns-then-has_pattern c =
    let p = c.pattern_at.ensures in
    let x = c.from_pattern.ensures ∙ (λ i. bits (p i).val) in
    (λ i. record { val = x i; text = (p i).text })

pub returns-else-has_pattern : goal.returns-else-has_pattern
unfolding float
returns-else-has_pattern c =
    let p = no_pattern 16 0 (rest c.args.s.now c.args.at) (sym c.has_pattern.ensures ∙ c.if-has_pattern.false) in
    (λ i. record { val = c.nowhere.ensures.value i; text = c.nowhere.ensures.at_value i })
    ∙ sym (λ i. record { val = bits (p i).val; text = (p i).text })
