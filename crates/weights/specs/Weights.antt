-- 01, "Remainder": source `normalize_kernels`. Definitions only.
-- A mesh is taken as its triangles t and their count f, a list of kernels as its kernels k and their count n.
use Rattle.std.specs.Result.{result_and}
use Rattle.std.specs.Prelude.{ℕ, ◌/◌, Bool, false, cond, ◌&&◌, ◌||◌, List, [], ◌∷◌, get_or, length, Float, Option, None, Some}
use Rattle.std.specs.Float.{nan}
use Rattle.std.specs.Float.Ieee.{lt}
use Rattle.base.specs.Floats.{◌⊕◌, ◌⊖◌, ◌⊗◌, ◌⊘◌, +0, abs}
use Rattle.base.specs.Constants.{one, stay_limit, scale_limit}
use Rattle.base.specs.Loops.{times}
use Rattle.base.specs.Answers.{done, refused, Outcome, outcome, guarded_run, room_check, Checked}
use Rattle.base.specs.declared.refusal.Refusal.TheVariants.{Exponent}
use Rattle.kernel.specs.declared.kernel.Kernel.{Kernel}
use Rattle.kernel.specs.Kernels.{kernel_at, kernel_set}
use Rattle.mesh.specs.declared.triangles.Triangle.{Triangle}
use Rattle.mesh.specs.Triangles.{triangle_at, face_count}
use Rattle.kernel.specs.Field.{centre_of}
use Rattle.kernel.specs.Field.{field_check}
use Rattle.source.specs.Volumes.{kernel_volume}

-- ---- the test of the exponents

-- row 12: "abs(alpha - 1) > 1e-9 (NaN passes)"
unfoldable pub off_unit : Kernel → Bool
off_unit k = lt stay_limit (abs (k.alpha ⊖ one))

abbrev pub off_step : (ℕ → Kernel) → ℕ → Bool → Bool
off_step k i some = some || off_unit (k i)

-- "some"
unfoldable pub some_off : (ℕ → Kernel) → ℕ → Bool
some_off k n = times (off_step k) n 0 false

-- ---- the scale

unfoldable pub kernel_mass : (ℕ → Triangle) → ℕ → Kernel → Float
kernel_mass t f k = k.w ⊗ kernel_volume t f (centre_of k) k.sigma

abbrev pub mass_step : (ℕ → Triangle) → ℕ → (ℕ → Kernel) → ℕ → Float → Float
mass_step t f k i sum = sum ⊕ kernel_mass t f (k i)

-- the sum of w times volume
unfoldable pub raw_mass_lem : (ℕ → Triangle) → ℕ → (ℕ → Kernel) → ℕ → Float
raw_mass_lem t f k n = times (mass_step t f k) n 0 +0

-- target / raw, where the target is above 0 and the raw mass above 1e-30 in size; "Infinite raw mass with a finite
-- target: source scales to 0"
unfoldable pub scale_of : Float → Float → Float
scale_of target raw = cond (lt +0 target && lt scale_limit (abs raw)) (target ⊘ raw) one

-- only the weight changes
unfoldable pub weighed : Float → Kernel → Kernel
weighed scale k = record { c = k.c; sigma = k.sigma; w = k.w ⊗ scale; alpha = k.alpha }

abbrev pub rescaled : Float → (ℕ → Kernel) → ℕ → Kernel
rescaled scale k i = weighed scale (k i)

-- a kernel, and kernels, as they are or with their weights scaled
abbrev pub scaled : Option Float → Kernel → Kernel
scaled None k = k
scaled (Some scale) k = weighed scale k

abbrev pub scaled_by : Option Float → (ℕ → Kernel) → ℕ → Kernel
scaled_by scale k i = scaled scale (k i)

-- ---- the run

abbrev pub write_step : (ℕ → Kernel) → ℕ → List Float → List Float
write_step k i run = kernel_set run i (k i)

-- kernels k 0 to k (n - 1) written, six floats each; words past them as they were
unfoldable pub written_of : (ℕ → Kernel) → ℕ → List Float → List Float
written_of k n run = times (write_step k) n 0 run

-- rows 1 to 3 of the mesh, then 9
unfoldable pub call_check : ℕ → List ℕ → List Float → ℕ → Checked
call_check coordinates faces ks room = result_and (field_check coordinates faces ks) (room_check (length ks) room)

-- `normalize_kernels`, of a mesh and kernels
unfoldable pub normalized_run : (ℕ → Triangle) → ℕ → (ℕ → Kernel) → ℕ → Float → List Float → Outcome
normalized_run t f k n target run =
    cond (some_off k n) (outcome (refused Exponent) run)
    (outcome done (written_of (rescaled (scale_of target (raw_mass_lem t f k n)) k) n run))

-- `normalize_kernels`, of the runs given to the call
unfoldable pub normalized : List Float → List ℕ → List Float → Float → List Float → Outcome
normalized xyz faces ks target run =
    guarded_run (call_check (length xyz) faces ks (length run)) run
    (normalized_run (triangle_at xyz faces) (face_count faces) (kernel_at ks) (length ks / 6) target run)

-- ---- for `calibrate_kernels`, which stretches its kernels first

-- c times the factor, sigma over it
unfoldable pub stretched : Float → Kernel → Kernel
stretched s k =
    record {
      c = get_or k.c 0 nan ⊗ s ∷ get_or k.c 1 nan ⊗ s ∷ get_or k.c 2 nan ⊗ s ∷ [];
      sigma = k.sigma ⊘ s;
      w = k.w;
      alpha = k.alpha;
    }

-- the kernels of a list, as they are or stretched by a factor
abbrev pub kernels_of : Option Float → List Float → ℕ → Kernel
kernels_of None ks i = kernel_at ks i
kernels_of (Some s) ks i = stretched s (kernel_at ks i)
