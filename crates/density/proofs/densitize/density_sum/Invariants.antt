use Rattle.std.specs.Prelude.{◌/◌, length}
use Rattle.base.specs.LoopLaws.{Left}
use Rattle.kernel.specs.Kernels.{kernel_at}
use Rattle.density.specs.Densitize.{density_to, densitize_of}
use Rattle.density.proofs.densitize.density_sum.Given as goal

abbrev pub invariant-loop-i : goal.invariant-loop-i
invariant-loop-i l =
    Left (density_to (kernel_at l.kernels) l.x) (length l.kernels / 6) l.i l.rho
    (densitize_of (kernel_at l.kernels) (length l.kernels / 6) l.x)
