-- 01, "The store": what open, clear and reweigh answer, and what they leave in the two runs. Definitions only.
use Rattle.std.specs.Result.{result_and}
use Rattle.std.specs.Prelude.{◌&&◌, cond, List, [], ◌∷◌, ◌++◌, ℕ, ◌+◌, ◌-◌, ◌*◌, ◌/◌, leb, length, set, replicate, Err}
use Rattle.std.specs.Prelude.{Float}
use Rattle.base.specs.Floats.{+0}
use Rattle.base.specs.Answers.{counted, done, Checked, passed}
use Rattle.base.specs.declared.refusal.Refusal.TheVariants.{ShortStore}
use Rattle.layout.specs.Runs.{write}
use Rattle.mesh.specs.Checks.{mesh_check}
use Rattle.layout.specs.After.{After, after, guarded}
use Rattle.layout.specs.Layout.{place_limit, kernel_from, weight_at, pieces_from, coords_from, state_from, corners_from}
use Rattle.layout.specs.Soundness.{filled_check}

-- ---- "Open copies a mesh and radius; all empty", with rows 1 to 4: n coordinates, corners ks, runs of a floats and b
-- words
unfoldable pub open_check : ℕ → ℕ → List ℕ → ℕ → ℕ → Checked
open_check q n ks a b = result_and (mesh_check n ks)
    (cond (leb (coords_from + n) a && leb (corners_from q + length ks) b) passed (Err ShortStore))

abbrev pub open_floats : Float → List Float → List Float
open_floats radius xs = radius ∷ (replicate (coords_from - 1) +0 ++ xs)

abbrev pub open_words : ℕ → ℕ → ℕ → List ℕ → List ℕ
open_words q verts faces ks = verts ∷ faces ∷ (replicate (q * place_limit) 0 ++ ks)

unfoldable pub open_step : ℕ → List Float → List ℕ → Float → List Float → List ℕ → After
open_step q fs ws radius xs ks =
    let v = length xs / 3 in
    let f = length ks / 3 in
    guarded (open_check q (length xs) ks (length fs) (length ws)) fs ws
    (after (counted (v ∷ f ∷ [])) (write fs 0 (open_floats radius xs)) (write ws 0 (open_words q v f ks)))

-- ---- "Clear: .. empty": "Unused fields are zero"
unfoldable pub clear_step : ℕ → List Float → List ℕ → ℕ → After
clear_step q fs ws i =
    guarded (filled_check q fs ws i) fs ws
    (after done
    (write (write fs (kernel_from i) (replicate 7 +0)) (pieces_from i) (replicate 48 +0))
    (write ws (state_from q i) (replicate q 0)))

-- ---- "Reweigh: new w, p kept"
unfoldable pub reweigh_step : ℕ → List Float → List ℕ → ℕ → Float → After
reweigh_step q fs ws i w = guarded (filled_check q fs ws i) fs ws (after done (set fs (weight_at i) w) ws)
