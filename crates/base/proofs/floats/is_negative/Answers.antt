-- `base::floats::is_negative` meets its contract: the sign is the pattern's highest bit. Assumes nothing.
use borrow.Author.Rules.{rules}
use Rattle.base.specs.FloatLaws.{is-nan, no_nan, sign_bit}
use Rattle.base.proofs.floats.is_negative.Goals as goal

pub returns-then-x : goal.returns-then-x
returns-then-x c = rw (is-nan c.args.x c.if-x.true)

pub float_to_bits-result : goal.float_to_bits-result
float_to_bits-result c = no_nan c.args.x c.if-x.false

pub returns : goal.returns
returns c = sign_bit c.args.x (search rules) (no_nan c.args.x c.if-x.false)
