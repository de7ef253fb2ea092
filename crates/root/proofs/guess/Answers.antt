-- `root::guess` meets its contract, which is only a range: nothing is claimed of how good a guess is. Assumes nothing.
use Rattle.base.specs.FloatLaws.{no_nan}
use Rattle.root.proofs.guess.Goals as goal

pub float_to_bits-result : goal.float_to_bits-result
float_to_bits-result c = no_nan c.near_root-s.result c.if-s.false
