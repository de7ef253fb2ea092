-- `powers::log::binary_of` meets its contract. Assumes nothing.
use Rattle.std.proofs.Common.{rules}
use Rattle.base.specs.FloatLaws.{positive_no_nan, no_nan-below}
use Rattle.base.specs.UnitLaws.{bits_above, bits-under}
use Rattle.powers.proofs.Binaries.{place_is, mantissa-is}
use Rattle.powers.proofs.log.binary_of.Goals as goal

pub split-p-requires : goal.split-p-requires
split-p-requires c =
    let b = c.args.b in
    (bits_above b (search rules) c.requires, bits-under b (search rules) c.requires)

pub returns : goal.returns
returns c =
    let p = c.split-p in (
      mantissa-is c.args.b (search rules) c.requires p.result.sig p.result.ex p.ensures,
      place_is c.args.b (search rules) c.requires p.result.sig p.result.ex p.ensures,
      p.ensures.top,
    )

pub float_to_bits-b : goal.float_to_bits-b
float_to_bits-b c = positive_no_nan c.args.b c.requires

pub float_from_bits-result : goal.float_from_bits-result
float_from_bits-result c = no_nan-below _ (search rules)
