use Rattle.std.proofs.Common.{◌≡◌}
use Rattle.base.specs.Loops.{times}
use Rattle.volume.specs.Block.{share_step}
use Rattle.volume.proofs.block.seven_shares.Given as goal

abbrev pub invariant-loop-k : goal.invariant-loop-k
invariant-loop-k l =
    l.sum ≡ times (share_step l.g l.heights l.at) l.k 0 l.initial.sum
