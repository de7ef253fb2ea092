-- `base::floats::abs` meets its contract: a value with its own sign put upon it is its absolute value. Assumes nothing.
use mathlib.Core.Path.{◌∙◌}
use Rattle.base.specs.FloatLaws.{abs-signed}
use Rattle.base.proofs.floats.abs.Goals as goal

pub returns : goal.returns
returns c = c.signed.ensures ∙ abs-signed c.args.x
