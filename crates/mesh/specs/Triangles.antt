-- Native mesh.rs: a mesh is a run of coordinates, three to a vertex, and a run of corners, three to a face. Definitions
-- only. What later definitions take of a mesh is its triangles, a function of the face's number, and their count.
use Rattle.std.specs.Prelude.{ℕ, ◌+◌, ◌*◌, ◌/◌, ◌≤◌, ◌<◌, List, get_or, length, Float}
use Rattle.std.specs.Float.{nan}
use Rattle.mesh.specs.declared.vectors.V3.{V3}
use Rattle.mesh.specs.declared.triangles.Triangle.{Triangle}
use Rattle.mesh.specs.Vectors.{vsub, cross}

-- vertex i of a run of coordinates
unfoldable pub vertex : List Float → ℕ → V3
vertex xyz i = record { x = get_or xyz (3 * i) nan; y = get_or xyz (3 * i + 1) nan; z = get_or xyz (3 * i + 2) nan }

-- the triangle of face f
unfoldable pub triangle_at : List Float → List ℕ → ℕ → Triangle
triangle_at xyz corners f =
    record {
      a = vertex xyz (get_or corners (3 * f) 0);
      b = vertex xyz (get_or corners (3 * f + 1) 0);
      c = vertex xyz (get_or corners (3 * f + 2) 0);
    }

-- the raw normal, of native mass.rs: cross(p1 - p0, p2 - p1)
unfoldable pub normal_of : Triangle → V3
normal_of t = cross (vsub t.b t.a) (vsub t.c t.b)

-- how many faces there are
abbrev pub face_count : List ℕ → ℕ
face_count corners = length corners / 3

-- every corner names a vertex that lies within so many coordinates
pub record Sound (coordinates : ℕ) (corners : List ℕ) : Type 0 where
  pub corner : (k : ℕ) → k < length corners → 3 * get_or corners k 0 + 3 ≤ coordinates
