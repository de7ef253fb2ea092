use Rattle.std.proofs.Common.{◌≡◌}
use Rattle.base.specs.Floats.{+0}
use Rattle.base.specs.Loops.{times}
use Rattle.kernel.specs.Kernels.{kernel_at}
use Rattle.source.specs.Density.{share_to}
use Rattle.source.proofs.density.density_sum.Given as goal

abbrev pub invariant-loop-i : goal.invariant-loop-i
invariant-loop-i l = l.density ≡ times (share_to (kernel_at l.kernels) l.point) l.i 0 +0
