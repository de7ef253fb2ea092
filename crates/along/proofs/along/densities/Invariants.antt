use Prim.Native.Nat.{◌-◌, ◌≤◌}
use Rattle.kernel.specs.Kernels.{kernel_at}
use Rattle.density.specs.Densitize.{densitize_of}
use Rattle.along.specs.AlongLaws.{Traced}
use Rattle.along.proofs.along.densities.Given as goal

abbrev pub invariant-loop-at : goal.invariant-loop-at
invariant-loop-at l =
    (l.at ≤ l.count) × Traced (densitize_of (kernel_at l.kernels) l.n) l.track l.initial.out l.at l.out

abbrev pub decreases-loop-at : goal.decreases-loop-at
decreases-loop-at l = l.count - l.at
