-- 01, "Remainder": `volume_centroid` of native mass.rs. Definitions only.
-- A mesh is taken as its triangles t, by face number, and their count n.
use Rattle.std.specs.Prelude.{ℕ, cond, Float}
use Rattle.std.specs.Float.Ieee.{lt}
use Rattle.base.specs.Floats.{◌⊕◌, ◌⊗◌, ◌⊘◌, abs}
use Rattle.base.specs.Constants.{quarter, volume_limit}
use Rattle.base.specs.Loops.{times}
use Rattle.mesh.specs.declared.vectors.V3.{V3}
use Rattle.mesh.specs.declared.triangles.Triangle.{Triangle}
use Rattle.mesh.specs.Vectors.{dot}
use Rattle.mesh.specs.Triangles.{normal_of}
use Rattle.mesh.specs.declared.dunavant.Node.{Node}
use Rattle.mesh.specs.Dunavant.{node, point_of}
use Rattle.volume.specs.Volume.{origin_point, body_volume}

-- what a point y adds to the three sums: ((w·0.25)·(y·y))·n_k
unfoldable pub moment : Triangle → V3 → Node → V3 → V3
moment t n k acc =
    let y = point_of t k in
    let m = k.w ⊗ quarter ⊗ dot y y in
    record { x = acc.x ⊕ m ⊗ n.x; y = acc.y ⊕ m ⊗ n.y; z = acc.z ⊕ m ⊗ n.z }

abbrev pub moment_step : Triangle → ℕ → V3 → V3
moment_step t i acc = moment t (normal_of t) (node i) acc

-- a face is seven additions to each running sum
unfoldable pub face_moment : Triangle → V3 → V3
face_moment t acc = times (moment_step t) 7 0 acc

abbrev pub face_moment_step : (ℕ → Triangle) → ℕ → V3 → V3
face_moment_step t f acc = face_moment (t f) acc

-- the running sums after the first k faces, from +0
unfoldable pub moment_to : (ℕ → Triangle) → ℕ → V3
moment_to t k = times (face_moment_step t) k 0 origin_point

-- "zeros unless |volume| > 1e-30, so for NaN too"
unfoldable pub centred : V3 → Float → V3
centred a v = cond (lt volume_limit (abs v)) (record { x = a.x ⊘ v; y = a.y ⊘ v; z = a.z ⊘ v }) origin_point

unfoldable pub volume_centroid : (ℕ → Triangle) → ℕ → V3
volume_centroid t n = centred (moment_to t n) (body_volume t n)
