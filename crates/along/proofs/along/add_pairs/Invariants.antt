use Rattle.std.proofs.Common.{◌*◌}
use Rattle.kernel.specs.Kernels.{kernel_at}
use Rattle.along.specs.AlongLaws.{Sums}
use Rattle.along.proofs.along.add_pairs.Given as goal

abbrev pub invariant-loop-j : goal.invariant-loop-j
invariant-loop-j l =
    Sums (kernel_at l.kernels) (2 * l.pairs) l.points.count l.points.x l.points.y l.points.z (2 * l.j) l.rho
