-- `root::lanes::pattern` meets its contract. Assumes nothing.
use Rattle.std.proofs.Common.{T, sym, subst}
use Rattle.root.proofs.Patterns.{raised-bits}
use Rattle.root.proofs.lanes.pattern.Goals as goal

pub returns : goal.returns
returns c =
    raised-bits c.args.x c.at_least.result (subst T (sym c.well_formed.0.1) tt)
    c.at_least.ensures.1
