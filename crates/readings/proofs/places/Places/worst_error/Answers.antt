-- `Places::worst_error`: the greatest error is told at the end of the loop, where i is 32. Assumes nothing.
use Rattle.std.proofs.Common.{◌≡◌, arith}
use Rattle.readings.proofs.places.Places.worst_error.Goals as goal

pub returns : goal.returns
returns c =
    let e : c.loop-i.i ≡ 32 = omega arith in
    rw e at c.loop-i.invariant
