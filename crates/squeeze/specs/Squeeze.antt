-- 02, L12: "squeezes them out of an opened store, keeping the others' order and renumbering corners". Definitions only.
-- xs are a mesh's coordinates, three to a vertex, and ks its corners.
use Rattle.std.specs.Prelude.{Bool, false, ◌||◌, cond, List, [], ◌∷◌, ◌++◌, map, ℕ, zero, suc, ◌+◌, ◌*◌, ◌-◌, eqb}
use Rattle.std.specs.Prelude.{get_or, take, drop, set, replicate, Float}
use Rattle.std.specs.Float.{nan}
use Rattle.base.specs.Floats.{+0}
use Rattle.base.specs.Answers.{counted}
use Rattle.layout.specs.Runs.{write}
use Rattle.layout.specs.Layout.{coords_from, corners_from, corners_of, verts_of}
use Rattle.layout.specs.Soundness.{store_check}
use Rattle.layout.specs.After.{After, after, guarded}

-- a face uses vertex i: a corner names it, whatever its coordinates are
unfoldable pub used : List ℕ → ℕ → Bool
used [] i = false
used (k ∷ ks) i = eqb k i || used ks i

-- how many vertices below i are used; the new number of vertex i, "keeping the others' order"
unfoldable pub rank : List ℕ → ℕ → ℕ
rank ks zero = 0
rank ks (suc i) = rank ks i + cond (used ks i) 1 0

-- "renumbering corners"
abbrev pub renumbered : List ℕ → List ℕ
renumbered ks = map (rank ks) ks

-- the coordinates of vertex i
abbrev pub point_of : List Float → ℕ → List Float
point_of xs i = get_or xs (3 * i) nan ∷ get_or xs (3 * i + 1) nan ∷ get_or xs (3 * i + 2) nan ∷ []

-- those of the used vertices below n, in order
unfoldable pub kept_to : List ℕ → List Float → ℕ → List Float
kept_to ks xs zero = []
kept_to ks xs (suc n) = kept_to ks xs n ++ cond (used ks n) (point_of xs n) []

-- "how many coordinates were freed", of n vertices
abbrev pub freed_of : List ℕ → ℕ → ℕ
freed_of ks n = 3 * (n - rank ks n)

-- "and those words become zero"
abbrev pub squeezed : List ℕ → List Float → ℕ → List Float
squeezed ks xs n = kept_to ks xs n ++ replicate (freed_of ks n) +0

-- the call, with rows 4 and 5: V, the coordinates and the corners are written, nothing else
unfoldable pub squeeze_step : ℕ → List Float → List ℕ → After
squeeze_step q fs ws =
    let v = verts_of ws in
    let ks = corners_of q ws in
    let xs = take (3 * v) (drop coords_from fs) in
    guarded (store_check q fs ws) fs ws
    (after (counted (freed_of ks v ∷ []))
    (write fs coords_from (squeezed ks xs v))
    (set (write ws (corners_from q) (renumbered ks)) 0 (rank ks v)))
