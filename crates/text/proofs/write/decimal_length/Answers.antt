-- How many digits: where there are more than ten, ten of them are cut off. Assumes nothing.
use Rattle.std.proofs.Common.{arith}
use Rattle.text.specs.LengthLaws.{ten-more}
use Rattle.text.proofs.write.decimal_length.Goals as goal

pub returns-else-n-lt10000000000 : goal.returns-else-n-lt10000000000
returns-else-n-lt10000000000 c =
    let e = ten-more c.args.n c.ranges.n.fits (omega arith) in
    omega (arith, e)
