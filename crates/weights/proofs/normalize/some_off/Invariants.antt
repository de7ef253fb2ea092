use Rattle.std.proofs.Common.{◌≡◌, false}
use Rattle.base.specs.Loops.{times}
use Rattle.weights.specs.Lists.{list_of}
use Rattle.weights.specs.Weights.{off_step}
use Rattle.weights.proofs.normalize.some_off.Given as goal

abbrev pub invariant-loop-i : goal.invariant-loop-i
invariant-loop-i l =
    l.some ≡ times (off_step (list_of l.kernels)) l.i 0 false
