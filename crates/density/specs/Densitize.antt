-- 01, "Volume, mass, weights": `densitize`, native density.rs. Definitions only.
use Rattle.std.specs.Prelude.{ℕ, ◌/◌, cond, List, [], ◌∷◌, get_or, length, Float}
use Rattle.std.specs.Float.{nan}
use Rattle.std.specs.Float.Ieee.{neg, lt}
use Rattle.base.specs.Floats.{◌⊕◌, ◌⊖◌, ◌⊗◌, ◌⊘◌, +0, abs}
use Rattle.base.specs.Constants.{one, stay_limit}
use Rattle.base.specs.Loops.{times}
use Rattle.base.specs.Answers.{Answer, answered}
use Rattle.powers.specs.Power.{power}
use Rattle.kernel.specs.declared.kernel.Kernel.{Kernel}
use Rattle.kernel.specs.Kernels.{kernel_at, list_check}

-- ---- the density of kernels at a point x

-- the Rust's `base`
unfoldable pub base_at : Kernel → List Float → Float
base_at k x =
    let dx = get_or x 0 nan ⊖ get_or k.c 0 nan in
    let dy = get_or x 1 nan ⊖ get_or k.c 1 nan in
    let dz = get_or x 2 nan ⊖ get_or k.c 2 nan in
    one ⊕ k.sigma ⊗ k.sigma ⊗ (dx ⊗ dx ⊕ dy ⊗ dy ⊕ dz ⊗ dz)

-- what one kernel adds; "its unit test is strict"
unfoldable pub density_of : Kernel → List Float → Float
density_of k x =
    cond (lt (abs (k.alpha ⊖ one)) stay_limit) (k.w ⊘ base_at k x) (k.w ⊗ power (base_at k x) (neg k.alpha))

-- the sum over kernels k 0 to k (n - 1), "start at +0 .. and run in list order"
abbrev pub density_to : (ℕ → Kernel) → List Float → ℕ → Float → Float
density_to k x i rho = rho ⊕ density_of (k i) x

unfoldable pub densitize_of : (ℕ → Kernel) → ℕ → List Float → Float
densitize_of k n x = times (density_to k x) n 0 +0

-- ---- the answer

-- the density of a list of six floats each
unfoldable pub densitized : List Float → List Float → Answer
densitized ks x = answered (list_check ks) (densitize_of (kernel_at ks) (length ks / 6) x ∷ [])
