-- `root::lanes::doubled` meets its contract. Assumes nothing.
use Rattle.root.proofs.Patterns.{double}
use Rattle.root.proofs.lanes.doubled.Goals as goal

pub returns : goal.returns
returns c =
    double c.args.sig c.args.odd c.wrapping_sub_u64.result c.requires.0
    c.requires.1 c.wrapping_sub_u64.type_inv c.wrapping_sub_u64.ensures.value
