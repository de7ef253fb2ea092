-- `readings::counts::count_filled`: the count is told at the end of the loop, where i is 32. Assumes nothing.
use Rattle.std.proofs.Common.{◌≡◌, arith}
use Rattle.readings.proofs.counts.count_filled.Goals as goal

pub returns : goal.returns
returns c =
    let e : c.loop-i.i ≡ 32 = omega arith in
    (rw e at c.loop-i.invariant.0, omega arith)
