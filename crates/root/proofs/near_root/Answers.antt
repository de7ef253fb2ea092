-- `root::near_root` is safe: neither pattern that it makes is a NaN's. Assumes nothing.
use Rattle.std.proofs.Common.{◌-◌, ◌/◌, arith}
use Rattle.base.specs.FloatLaws.{no_nan-below}
use Rattle.root.proofs.near_root.Goals as goal

pub float_from_bits-f : goal.float_from_bits-f
float_from_bits-f c = no_nan-below c.args.bits (omega arith)

pub float_from_bits-bits : goal.float_from_bits-bits
float_from_bits-bits c = no_nan-below (6909647724535087104 - c.args.bits / 2) (omega arith)
