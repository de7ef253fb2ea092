-- 01, "Volume, mass, weights": "`kernel_field_mass` adds w times volume". Definitions only.
use Rattle.std.specs.Prelude.{ℕ, ◌/◌, List, length, Float}
use Rattle.base.specs.Floats.{◌⊕◌, ◌⊗◌, +0}
use Rattle.base.specs.Loops.{times}
use Rattle.kernel.specs.Kernels.{kernel_at}
use Rattle.mesh.specs.declared.triangles.Triangle.{Triangle}
use Rattle.kernel.specs.Field.{centre_of}
use Rattle.volume.specs.Volume.{kernel_volume}

-- a kernel adds w times its volume; alpha is not looked at
abbrev pub mass_step : (ℕ → Triangle) → ℕ → List Float → ℕ → Float → Float
mass_step t n kernels i total =
    let k = kernel_at kernels i in
    total ⊕ k.w ⊗ kernel_volume t n (centre_of k) k.sigma

-- one running sum over the list, six floats a kernel
unfoldable pub field_mass : (ℕ → Triangle) → ℕ → List Float → Float
field_mass t n kernels = times (mass_step t n kernels) (length kernels / 6) 0 +0
