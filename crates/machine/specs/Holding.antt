-- 01, "The store": the two runs that hold a machine, field by field. Definitions only.
use Rattle.std.specs.Prelude.{cond, List, [], ◌∷◌, ◌++◌, map, ℕ, zero, suc, ◌+◌, ◌*◌, ◌-◌, ◌/◌, ◌%◌, min, eqb, length, get_or, drop, replicate, Float}
use Rattle.std.specs.Float.{nan}
use Rattle.base.specs.Floats.{+0}
use Rattle.mesh.specs.Triangles.{triangle_at}
use Rattle.mesh.specs.declared.triangles.Triangle.{Triangle}
use Rattle.volume.specs.Volume.{volume_to}
use Rattle.kernel.specs.Field.{centre_of}
use Rattle.kernel.specs.declared.kernel.Kernel.{Kernel}
use Rattle.pieces.specs.Pieces.{part_at}
use Rattle.pieces.specs.declared.pieces.Pieces.{Pieces}
use Rattle.layout.specs.Layout.{coords_from, corners_from, layer_words}
use Rattle.machine.specs.Machine.{Mesh, Place, empty, full}

-- ---- the float run

-- "place i's c, sigma, w, alpha, error"; "Unused fields are zero"
abbrev pub floats7 : Place → List Float
floats7 empty = replicate 7 +0
floats7 (full k fit o p l) =
    get_or k.c 0 nan ∷ get_or k.c 1 nan ∷ get_or k.c 2 nan ∷ k.sigma ∷ k.w ∷ k.alpha ∷ fit.error ∷ []

abbrev pub triangles : Mesh → ℕ → Triangle
triangles m = triangle_at m.coords m.corners

-- "its 16 pieces (sigma, coefficient, volume so far, which is `kernel_volume`'s running sum over that piece's faces
-- done, 0 before the first and over all F once it is finished)": n pieces from j on. t steps were made on them: min(F,
-- t) on piece j, the others on those after it
abbrev pub cells : Mesh → Kernel → Pieces → ℕ → ℕ → ℕ → List Float
cells m k fit zero j t = []
cells m k fit (suc n) j t =
    (part_at fit j).sigma
    ∷ (part_at fit j).coefficient
    ∷ volume_to (triangles m) (centre_of k) (part_at fit j).sigma (min m.faces t)
    ∷ cells m k fit n (suc j) (t - m.faces)

-- "Unused fields are zero": those of the pieces past its last
abbrev pub floats48 : Mesh → Place → List Float
floats48 m empty = replicate 48 +0
floats48 m (full k fit o p l) = cells m k fit fit.count 0 p ++ replicate (48 - 3 * fit.count) +0

-- rows one behind the other
abbrev pub flat : {A : Type 0} → List (List A) → List A
flat [] = []
flat (r ∷ rs) = r ++ flat rs

-- "[0] radius; from 1+7i ..; from 225+48i ..; from 1,761 coordinates", then what lies past the store's own floats
unfoldable pub floats_of : Mesh → List Place → List Float → List Float
floats_of m ss xs = m.radius ∷ (flat (map floats7 ss) ++ (flat (map (floats48 m) ss) ++ (m.coords ++ xs)))

-- ---- the u32 run

-- "status (0 empty, else 1 + pieces), pieces finished, faces done in the current piece"; "with F = 0 all are finished",
-- and p is 0, so p % 0 is 0 too. 02, L5: "four, with the layer last, 0 for an empty place"
abbrev pub pieces_finished : Mesh → Pieces → ℕ → ℕ
pieces_finished m fit p = cond (eqb m.faces 0) fit.count (p / m.faces)

-- of q words to a place: the form before L5 has no word for the layer
abbrev pub place_row : ℕ → Mesh → Place → List ℕ
place_row q m empty = 0 ∷ 0 ∷ 0 ∷ layer_words q 0
place_row q m (full k fit o p l) = (1 + fit.count) ∷ pieces_finished m fit p ∷ p % m.faces ∷ layer_words q l

-- "V, F; from 2+3i [2+4i] ..; from 98 [130] corners", then what lies past the store's own words
unfoldable pub words_of : ℕ → Mesh → List Place → List ℕ → List ℕ
words_of q m ss ys = m.verts ∷ m.faces ∷ (flat (map (place_row q m) ss) ++ (m.corners ++ ys))

-- ---- what an opening found past them
abbrev pub excess_f : List Float → List Float → List Float
excess_f xs fs = drop (coords_from + length xs) fs

abbrev pub excess_w : ℕ → List ℕ → List ℕ → List ℕ
excess_w q ks ws = drop (corners_from q + length ks) ws
