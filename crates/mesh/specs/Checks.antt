-- 01, "The store": refusals 1 to 3, which "concern a mesh given to a call". Definitions only.
use Rattle.base.specs.Answers.{Checked, passed}
use Rattle.std.specs.Prelude.{ℕ, ◌/◌, ◌%◌, Bool, true, not, ◌&&◌, ◌||◌, cond, List, [], ◌∷◌, ltb, eqb, length, Err}
use Rattle.base.specs.declared.refusal.Refusal.TheVariants.{Ragged, Oversize, LooseCorner}

-- "V vertices ≤ 1,048,576"
abbrev pub vertex_limit : ℕ
vertex_limit = 1048576

-- "F faces ≤ 2,097,152"
abbrev pub face_limit : ℕ
face_limit = 2097152

-- each word is below v
unfoldable pub all_below : ℕ → List ℕ → Bool
all_below v [] = true
all_below v (k ∷ ks) = ltb k v && all_below v ks

-- 1: "coordinate or index count not a multiple of 3"
abbrev pub ragged : ℕ → List ℕ → Bool
ragged coordinates corners = not (eqb (coordinates % 3) 0) || not (eqb (length corners % 3) 0)

-- 2: "V or F above limit", of the two counts and of a mesh
abbrev pub above_limit : ℕ → ℕ → Bool
above_limit verts faces = ltb vertex_limit verts || ltb face_limit faces

abbrev pub oversize : ℕ → List ℕ → Bool
oversize coordinates corners = above_limit (coordinates / 3) (length corners / 3)

-- refusals 1, 2 and 3 ("index ≥ V") of a mesh of so many coordinates and of these corners: the lowest that applies
unfoldable pub mesh_check : ℕ → List ℕ → Checked
mesh_check coordinates corners =
    cond (ragged coordinates corners) (Err Ragged)
    (cond (oversize coordinates corners) (Err Oversize)
    (cond (all_below (coordinates / 3) corners) passed (Err LooseCorner)))
