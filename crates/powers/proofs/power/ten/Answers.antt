-- `powers::power::ten` meets its contract. Assumes nothing.
use Rattle.std.proofs.Common.{rules}
use Rattle.powers.specs.Power.{ten_to}
use Rattle.powers.proofs.SmallWholes.{has_digits}
use Rattle.powers.proofs.power.ten.Goals as goal

pub returns : goal.returns
unfolding ten_to
returns c = rw (has_digits c.args.y (search rules) c.if-y.false) c.ten_steps.ensures
