-- 01, "Remainder": source `kernel_volume` and `mesh_enclosed_volume`. Definitions only.
-- A mesh is taken as its triangles t, by face number, and their count n: "its triangles are the faces' corners in face
-- order".
use Rattle.std.specs.Prelude.{ℕ, cond, List, [], ◌∷◌, length, Float}
use Rattle.std.specs.Float.Ieee.{le}
use Rattle.base.specs.Floats.{◌⊕◌, ◌⊖◌, ◌⊗◌, ◌⊘◌, +0, abs}
use Rattle.base.specs.Constants.{half, tenth, three, float_six}
use Rattle.base.specs.Loops.{times}
use Rattle.base.specs.Answers.{Answer, answered}
use Rattle.powers.specs.Arc.{arc}
use Rattle.mesh.specs.declared.vectors.V3.{V3}
use Rattle.mesh.specs.declared.triangles.Triangle.{Triangle}
use Rattle.mesh.specs.Vectors.{vsub, dot, norm}
use Rattle.mesh.specs.Triangles.{triangle_at, face_count}
use Rattle.mesh.specs.Checks.{mesh_check}
use Rattle.mesh.specs.declared.dunavant.Node.{Node}
use Rattle.mesh.specs.Dunavant.{node, point_of}
use Rattle.radial.specs.Radial.{radial_gSeries}
use Rattle.mesh.specs.Triangles.{normal_of}

-- ---- `kernel_volume`

-- `radial_g`: the quotient from 0.1 on, else native's series
unfoldable pub radial_g : Float → Float
radial_g t = cond (le tenth (abs t)) ((t ⊖ arc t) ⊘ (t ⊗ t ⊗ t)) (radial_gSeries t)

-- what a point y adds: 0.5·w·g(sigma·|y - c|)·((y - c)·n)
unfoldable pub flux : Triangle → V3 → V3 → Float → Node → Float
flux t n c sigma k =
    let d = vsub (point_of t k) c in
    half ⊗ k.w ⊗ radial_g (sigma ⊗ norm d) ⊗ dot d n

abbrev pub flux_step : Triangle → V3 → Float → ℕ → Float → Float
flux_step t c sigma i total = total ⊕ flux t (normal_of t) c sigma (node i)

-- a face is seven additions to the running sum
unfoldable pub face_sum : Triangle → V3 → Float → Float → Float
face_sum t c sigma total = times (flux_step t c sigma) 7 0 total

abbrev pub face_step : (ℕ → Triangle) → V3 → Float → ℕ → Float → Float
face_step t c sigma f total = face_sum (t f) c sigma total

unfoldable pub kernel_volume : (ℕ → Triangle) → ℕ → V3 → Float → Float
kernel_volume t n c sigma = times (face_step t c sigma) n 0 +0

-- the volume inside a mesh given to the call
unfoldable pub volume_answer : List Float → List ℕ → V3 → Float → Answer
volume_answer xyz faces c sigma =
    answered (mesh_check (length xyz) faces) (kernel_volume (triangle_at xyz faces) (face_count faces) c sigma ∷ [])

-- ---- `mesh_enclosed_volume`

-- (a + b + c) / 3
unfoldable pub centroid_of : Triangle → V3
centroid_of t =
    record {
      x = (t.a.x ⊕ t.b.x ⊕ t.c.x) ⊘ three;
      y = (t.a.y ⊕ t.b.y ⊕ t.c.y) ⊘ three;
      z = (t.a.z ⊕ t.b.z ⊕ t.c.z) ⊘ three;
    }

-- (centroid·n) / 6
unfoldable pub pyramid : Triangle → Float
pyramid t = dot (centroid_of t) (normal_of t) ⊘ float_six

abbrev pub pyramid_to : (ℕ → Triangle) → ℕ → Float → Float
pyramid_to t f total = total ⊕ pyramid (t f)

unfoldable pub signed_volume : (ℕ → Triangle) → ℕ → Float
signed_volume t n = times (pyramid_to t) n 0 +0

-- the absolute value, of the whole sum
abbrev pub enclosed_volume : (ℕ → Triangle) → ℕ → Float
enclosed_volume t n = abs (signed_volume t n)

-- the volume of a mesh given to the call
unfoldable pub enclosed_answer : List Float → List ℕ → Answer
enclosed_answer xyz faces =
    answered (mesh_check (length xyz) faces) (enclosed_volume (triangle_at xyz faces) (face_count faces) ∷ [])
