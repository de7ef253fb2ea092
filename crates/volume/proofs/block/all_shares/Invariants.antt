use Rattle.std.proofs.Common.{◌≡◌, ◌*◌}
use Rattle.base.specs.Loops.{times}
use Rattle.volume.specs.Block.{seven_shares}
use Rattle.volume.proofs.block.all_shares.Given as goal

abbrev pub invariant-loop-face : goal.invariant-loop-face
invariant-loop-face l =
    l.sum ≡ times (λ i s. seven_shares l.g l.heights (7 * i) s) l.face 0 l.initial.sum
