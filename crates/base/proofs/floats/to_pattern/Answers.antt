-- `base::floats::to_pattern` meets its contract. Assumes nothing.
use lib.Ieee.{to_bits}
use Rattle.base.specs.FloatLaws.{is-nan, no_nan}
use Rattle.base.proofs.floats.to_pattern.Goals as goal

pub returns-then-x : goal.returns-then-x
unfolding to_bits
returns-then-x c = rw (is-nan c.args.x c.if-x.true)

pub float_to_bits-result : goal.float_to_bits-result
float_to_bits-result c = no_nan c.args.x c.if-x.false
