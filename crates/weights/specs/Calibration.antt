-- 01, "Remainder": source `calibrate_kernels`. Definitions only.
use Rattle.std.specs.Prelude.{ℕ, ◌/◌, cond, List, length, Float, Option, None, Some}
use Rattle.std.specs.Float.Ieee.{lt, le}
use Rattle.base.specs.Floats.{◌⊗◌, ◌⊘◌, +0, greater}
use Rattle.base.specs.Constants.{one, ten, mesh_radius}
use Rattle.base.specs.Loops.{times}
use Rattle.base.specs.Answers.{done, Outcome, outcome, guarded_run}
use Rattle.mesh.specs.declared.vectors.V3.{V3}
use Rattle.mesh.specs.declared.triangles.Triangle.{Triangle}
use Rattle.mesh.specs.Vectors.{norm}
use Rattle.mesh.specs.Triangles.{triangle_at, face_count}
use Rattle.source.specs.Volumes.{enclosed_volume}
use Rattle.weights.specs.Weights.{kernels_of, written_of, call_check, normalized_run}

-- ---- the mesh's reach, the Rust's max_r: the greatest distance of a face's corner from the origin

-- `f64::max` on a reach that is no NaN
unfoldable pub farther : Float → V3 → Float
farther reach v = greater reach (norm v)

unfoldable pub farther_face : Float → Triangle → Float
farther_face reach t = farther (farther (farther reach t.a) t.b) t.c

abbrev pub reach_step : (ℕ → Triangle) → ℕ → Float → Float
reach_step t f reach = farther_face reach (t f)

unfoldable pub reach_of : (ℕ → Triangle) → ℕ → Float
reach_of t n = times (reach_step t) n 0 +0

-- the Rust's s_geom
unfoldable pub geometry_scale : Float → Float
geometry_scale reach = cond (lt ten reach) (reach ⊘ mesh_radius) one

-- ---- the kernels

-- the mean density, where one is given, times the enclosed volume; else the total where it is above 0
unfoldable pub target_mass_lem : Option Float → Float → Float → Float
target_mass_lem (Some density) total volume = density ⊗ volume
target_mass_lem None total volume = cond (lt +0 total) total +0

-- "With target ≤ 0 `calibrate_kernels` skips the exponent test"; a NaN target is not ≤ 0
unfoldable pub calibrated_run : (ℕ → Triangle) → ℕ → List Float → Option Float → Float → List Float → Outcome
calibrated_run t f ks mean total run =
    let k = kernels_of (Some (geometry_scale (reach_of t f))) ks in
    let n = length ks / 6 in
    let target = target_mass_lem mean total (enclosed_volume t f) in
    cond (le target +0) (outcome done (written_of k n run)) (normalized_run t f k n target run)

-- `calibrate_kernels`, of the runs given to the call. The Rust's first test, for no kernels, is met by what follows:
-- nothing is written then
unfoldable pub calibrated : List Float → List ℕ → List Float → Option Float → Float → List Float → Outcome
calibrated xyz faces ks mean total run =
    guarded_run (call_check (length xyz) faces ks (length run)) run
    (calibrated_run (triangle_at xyz faces) (face_count faces) ks mean total run)
