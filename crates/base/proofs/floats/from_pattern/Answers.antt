-- `base::floats::from_pattern` meets its contract. Assumes nothing.
use mathlib.Core.Path.{sym, ◌∙◌}
use Rattle.base.specs.FloatLaws.{nan-above, no_nan_at, zero-over-zero}
use Rattle.base.proofs.floats.from_pattern.Goals as goal

pub returns-then-b-gt9218868437227405312 : goal.returns-then-b-gt9218868437227405312
returns-then-b-gt9218868437227405312 c = zero-over-zero ∙ sym (nan-above c.args.b c.if-b-gt9218868437227405312.true)

pub float_from_bits-result : goal.float_from_bits-result
float_from_bits-result c = no_nan_at c.args.b c.if-b-gt9218868437227405312.false
