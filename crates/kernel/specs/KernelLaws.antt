-- Laws of lists of kernels. Assumes nothing.
use Rattle.std.specs.Prelude.{◌≡◌, List, ℕ, ◌*◌, length, Float}
use Rattle.std.proofs.Math.Seq.{length-sets}
use Rattle.kernel.specs.declared.kernel.Kernel.{Kernel}
use Rattle.kernel.specs.Kernels.{six, kernel_set}

-- a kernel that is written leaves the list as long as it was
pub kernel_set-length : (xs : List Float) (i : ℕ) (k : Kernel) → length (kernel_set xs i k) ≡ length xs
unfolding kernel_set
kernel_set-length xs i k = length-sets xs (6 * i) (six k)
