-- 01, "Volume, mass, weights": `kernel_volume` of native mass.rs. Definitions only.
-- A mesh is taken as its triangles t, by face number, and their count n: nothing else of it is looked at.
use Rattle.std.specs.Prelude.{ℕ, ◌-◌, Float}
use Rattle.base.specs.Floats.{◌⊕◌, ◌⊗◌, +0}
use Rattle.base.specs.Constants.{half}
use Rattle.base.specs.Loops.{times}
use Rattle.mesh.specs.declared.vectors.V3.{V3}
use Rattle.mesh.specs.declared.triangles.Triangle.{Triangle}
use Rattle.mesh.specs.Vectors.{vsub, dot, norm}
use Rattle.mesh.specs.Triangles.{normal_of}
use Rattle.mesh.specs.declared.dunavant.Node.{Node}
use Rattle.mesh.specs.Dunavant.{node, point_of}
use Rattle.radial.specs.Radial.{radial_g}

-- what a point y adds: w·g(sigma·|y - c|)·((y - c)·n)·0.5
unfoldable pub flux : Triangle → V3 → V3 → Float → Node → Float
flux t n c sigma k =
    let d = vsub (point_of t k) c in
    k.w ⊗ radial_g (sigma ⊗ norm d) ⊗ dot d n ⊗ half

abbrev pub flux_step : Triangle → V3 → Float → ℕ → Float → Float
flux_step t c sigma i sum = sum ⊕ flux t (normal_of t) c sigma (node i)

-- a face is seven additions to the running sum
unfoldable pub face_sum : Triangle → V3 → Float → Float → Float
face_sum t c sigma sum = times (flux_step t c sigma) 7 0 sum

abbrev pub face_step : (ℕ → Triangle) → V3 → Float → ℕ → Float → Float
face_step t c sigma f sum = face_sum (t f) c sigma sum

-- the running sum after the first k faces, from +0
unfoldable pub volume_to : (ℕ → Triangle) → V3 → Float → ℕ → Float
volume_to t c sigma k = times (face_step t c sigma) k 0 +0

-- "`kernel_volume` uses DUNANT7 .. and `radial_g`": the sum over all faces
abbrev pub kernel_volume : (ℕ → Triangle) → ℕ → V3 → Float → Float
kernel_volume t n c sigma = volume_to t c sigma n

abbrev pub origin_point : V3
origin_point = record { x = +0; y = +0; z = +0 }

-- 01, "Remainder", `body_volume`: `kernel_volume` at the origin with sigma 0; it is signed
abbrev pub body_volume : (ℕ → Triangle) → ℕ → Float
body_volume t n = kernel_volume t n origin_point +0

-- ---- for the functions' contracts

-- the sum after the faces from `from` up to `to`
unfoldable pub volume_from : (ℕ → Triangle) → V3 → Float → ℕ → ℕ → Float → Float
volume_from t c sigma from to sum = times (face_step t c sigma) (to - from) from sum
