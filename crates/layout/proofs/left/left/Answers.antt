-- `layout::left::left`: the sum over all places is told at the end of the loop, where i is 32. Assumes nothing.
use Rattle.std.proofs.Common.{◌≡◌, arith}
use Rattle.layout.proofs.left.left.Goals as goal

pub returns : goal.returns
returns c =
    let e : c.loop-i.i ≡ 32 = omega arith in
    rw e at c.loop-i.invariant.0
