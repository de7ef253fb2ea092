-- 01, "Volume, mass, weights", four faces at once: what stands for their 28 points, face after face, and their sum. For
-- the functions' contracts. Definitions only.
use Rattle.std.specs.Prelude.{ℕ, ◌+◌, ◌*◌, ◌<◌, ◌≡◌, List, get_or, length, set, Float}
use Rattle.std.specs.Float.{nan}
use Rattle.base.specs.Floats.{◌⊕◌, ◌⊗◌}
use Rattle.base.specs.Constants.{half}
use Rattle.base.specs.Loops.{times}
use Rattle.mesh.specs.declared.vectors.V3.{V3}
use Rattle.mesh.specs.declared.triangles.Triangle.{Triangle}
use Rattle.mesh.specs.Vectors.{vsub, dot}
use Rattle.mesh.specs.Triangles.{normal_of}
use Rattle.mesh.specs.declared.dunavant.Node.{Node}
use Rattle.mesh.specs.Dunavant.{node, point_of}

-- of a point y: |y - c|²
unfoldable pub square_of : Triangle → V3 → Node → Float
square_of t c k = let d = vsub (point_of t k) c in dot d d

-- of a point y: (y - c)·n
unfoldable pub height_of : Triangle → V3 → V3 → Node → Float
height_of t n c k = dot (vsub (point_of t k) c) n

-- a list with v of a face's seven points in place of its elements from `at` on
abbrev pub set_at : (Node → Float) → ℕ → ℕ → List Float → List Float
set_at v at k xs = set xs (at + k) (v (node k))

unfoldable pub seven_set : (Node → Float) → ℕ → List Float → List Float
seven_set v at xs = times (set_at v at) 7 0 xs

-- both of face j of a block, which is face f + j of the mesh
abbrev pub squares_of : (ℕ → Triangle) → V3 → ℕ → ℕ → Node → Float
squares_of t c f j k = square_of (t (f + j)) c k

abbrev pub heights_of : (ℕ → Triangle) → V3 → ℕ → ℕ → Node → Float
heights_of t c f j k = height_of (t (f + j)) (normal_of (t (f + j))) c k

-- a list of 28: of the first n faces, v j at each of face j's seven points
pub record Points (v : ℕ → Node → Float) (n : ℕ) (xs : List Float) : Type 0 where
  pub long : length xs ≡ 28
  pub at : (j k : ℕ) → j < n → k < 7 → get_or xs (7 * j + k) nan ≡ v j (node k)

-- what the point at place i adds, g being the radial factors: `flux`, with its brackets
abbrev pub share_of : Float → List Float → List Float → ℕ → Float
share_of w g heights i = w ⊗ get_or g i nan ⊗ get_or heights i nan ⊗ half

abbrev pub share_step : List Float → List Float → ℕ → ℕ → Float → Float
share_step g heights at k sum = sum ⊕ share_of (node k).w g heights (at + k)

-- the sum after the seven points from `at` on
unfoldable pub seven_shares : List Float → List Float → ℕ → Float → Float
seven_shares g heights at sum = times (share_step g heights at) 7 0 sum

-- the sum after all 28
unfoldable pub all_shares : List Float → List Float → Float → Float
all_shares g heights sum = times (λ j s. seven_shares g heights (7 * j) s) 4 0 sum
