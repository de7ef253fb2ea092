-- 01, "Remainder": source `density_at`. Definitions only.
use Rattle.std.specs.Prelude.{ℕ, ◌/◌, List, [], ◌∷◌, length, Float}
use Rattle.base.specs.Floats.{◌⊕◌, ◌⊗◌, ◌⊘◌, +0}
use Rattle.base.specs.Constants.{one}
use Rattle.base.specs.Loops.{times}
use Rattle.base.specs.Answers.{Answer, answered}
use Rattle.powers.specs.Power.{power}
use Rattle.kernel.specs.declared.kernel.Kernel.{Kernel}
use Rattle.kernel.specs.Kernels.{kernel_at, list_check}
use Rattle.mesh.specs.declared.vectors.V3.{V3}
use Rattle.mesh.specs.Vectors.{vsub, dot}
use Rattle.kernel.specs.Field.{centre_of}

-- what one kernel adds at a point: by the power, whatever its exponent
unfoldable pub share_of : Kernel → V3 → Float
share_of k point =
    let d = vsub point (centre_of k) in
    k.w ⊘ power (one ⊕ k.sigma ⊗ k.sigma ⊗ dot d d) k.alpha

abbrev pub share_to : (ℕ → Kernel) → V3 → ℕ → Float → Float
share_to k point i density = density ⊕ share_of (k i) point

-- the sum over kernels k 0 to k (n - 1)
unfoldable pub density_of : (ℕ → Kernel) → ℕ → V3 → Float
density_of k n point = times (share_to k point) n 0 +0

-- `density_at` of a list of six floats each
unfoldable pub density_at : List Float → V3 → Answer
density_at ks point = answered (list_check ks) (density_of (kernel_at ks) (length ks / 6) point ∷ [])
