-- 02, L1: "takes the points .. and a lent run for the densities, in point order". Definitions only.
use Rattle.std.specs.Prelude.{List, [], ◌∷◌, ◌++◌, ℕ, zero, suc, ◌+◌, ◌*◌, get_or, Float}
use Rattle.std.specs.Float.{nan}

-- point i of a track of three coordinates each
abbrev pub point_at : List Float → ℕ → List Float
point_at xs i = get_or xs (3 * i) nan ∷ get_or xs (3 * i + 1) nan ∷ get_or xs (3 * i + 2) nan ∷ []

-- f at the k points from `at` on, in point order
unfoldable pub stretch : (List Float → Float) → List Float → ℕ → ℕ → List Float
stretch f xs at zero = []
stretch f xs at (suc k) = stretch f xs at k ++ (f (point_at xs (at + k)) ∷ [])

-- f at the first k points
abbrev pub along : (List Float → Float) → List Float → ℕ → List Float
along f xs k = stretch f xs 0 k
