use Rattle.std.proofs.Common.{◌≡◌, length}
use Rattle.base.specs.Loops.{times}
use Rattle.weights.specs.Lists.{list_of}
use Rattle.weights.specs.Weights.{scaled_by, write_step}
use Rattle.weights.proofs.normalize.write_all.Given as goal

abbrev pub invariant-loop-i : goal.invariant-loop-i
invariant-loop-i l =
    (l.run ≡ times (write_step (scaled_by l.scale (list_of l.kernels))) l.i 0 l.initial.run)
    × (length l.run ≡ length l.initial.run)
