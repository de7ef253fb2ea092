-- A digit's value by its bits. Assumes nothing.
use Rattle.text.proofs.Digits.{digit-is}
use Rattle.text.proofs.read.digit_of.Goals as goal

pub returns : goal.returns
returns c = digit-is c.args.b c.requires
