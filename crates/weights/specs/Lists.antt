-- A list of kernels that a call is given: its kernels and their count. Definitions only.
use Rattle.std.specs.Prelude.{ℕ, ◌/◌, length}
use Rattle.kernel.specs.declared.kernel.Kernel.{Kernel}
use Rattle.weights.specs.declared.normalize.Kernels.{Kernels}
use Rattle.weights.specs.Weights.{kernels_of}

abbrev pub list_of : Kernels → ℕ → Kernel
list_of l = kernels_of l.stretch l.floats.now

abbrev pub kernel_count_of : Kernels → ℕ
kernel_count_of l = length l.floats.now / 6
