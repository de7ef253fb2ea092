-- 01, "The store": the triangles that a store holds, and the steps that it has left. Definitions only.
use Rattle.std.specs.Prelude.{List, ℕ, zero, suc, ◌+◌, ◌*◌, ◌-◌, take, drop, Float}
use Rattle.mesh.specs.declared.triangles.Triangle.{Triangle}
use Rattle.mesh.specs.Triangles.{triangle_at}
use Rattle.layout.specs.Layout.{coords_from, corners_from, status_of, finished_of, done_of}

-- the triangles of the mesh that the runs hold
abbrev pub held : ℕ → List Float → List ℕ → ℕ → ℕ → ℕ → Triangle
held q fs ws verts faces =
    triangle_at (take (3 * verts) (drop coords_from fs)) (take (3 * faces) (drop (corners_from q) ws))

-- ---- "left, the sum of need - p", where p = finished * F + done
abbrev pub left_at : ℕ → List ℕ → ℕ → ℕ → ℕ
left_at q ws m i = (status_of q ws i - 1 - finished_of q ws i) * m - done_of q ws i

unfoldable pub left_of : ℕ → List ℕ → ℕ → ℕ → ℕ
left_of q ws m zero = 0
left_of q ws m (suc k) = left_of q ws m k + left_at q ws m k
