-- 01, "The store": where each field stands in the float run and in the u32 run. Definitions only.
use Rattle.std.specs.Prelude.{List, [], ◌∷◌, ℕ, ◌+◌, ◌*◌, cond, ltb, get_or, take, drop, Float}
use Rattle.std.specs.Float.{nan}
use Rattle.mesh.specs.declared.vectors.V3.{V3}

-- "places 0 to 31", "its 16 pieces"
abbrev pub place_limit : ℕ
place_limit = 32

abbrev pub piece_limit : ℕ
piece_limit = 16

-- ---- the float run fs; i is a place, j a piece

-- "[0] radius"
abbrev pub radius_of : List Float → Float
radius_of fs = get_or fs 0 nan

-- "from 1+7i place i's c, sigma, w, alpha, error"
abbrev pub kernel_from : ℕ → ℕ
kernel_from i = 1 + 7 * i

abbrev pub centre_floats : List Float → ℕ → List Float
centre_floats fs i = get_or fs (1 + 7 * i) nan ∷ get_or fs (2 + 7 * i) nan ∷ get_or fs (3 + 7 * i) nan ∷ []

-- the same as a point
abbrev pub centre_at : List Float → ℕ → V3
centre_at fs i = record { x = get_or fs (1 + 7 * i) nan; y = get_or fs (2 + 7 * i) nan; z = get_or fs (3 + 7 * i) nan }

abbrev pub weight_at : ℕ → ℕ
weight_at i = 5 + 7 * i

abbrev pub weight_of : List Float → ℕ → Float
weight_of fs i = get_or fs (weight_at i) nan

abbrev pub alpha_of : List Float → ℕ → Float
alpha_of fs i = get_or fs (6 + 7 * i) nan

abbrev pub error_of : List Float → ℕ → Float
error_of fs i = get_or fs (7 + 7 * i) nan

-- "from 225+48i its 16 pieces (sigma, coefficient, volume so far ..)"
abbrev pub pieces_from : ℕ → ℕ
pieces_from i = 225 + 48 * i

abbrev pub piece_from : ℕ → ℕ → ℕ
piece_from i j = 225 + 48 * i + 3 * j

abbrev pub sigma_of : List Float → ℕ → ℕ → Float
sigma_of fs i j = get_or fs (piece_from i j) nan

abbrev pub coefficient_of : List Float → ℕ → ℕ → Float
coefficient_of fs i j = get_or fs (piece_from i j + 1) nan

abbrev pub volume_of : List Float → ℕ → ℕ → Float
volume_of fs i j = get_or fs (piece_from i j + 2) nan

-- "from 1,761 coordinates"
abbrev pub coords_from : ℕ
coords_from = 1761

-- ---- the u32 run ws, with q words to a place

-- the words to a place: status, pieces finished, faces done, and since 02's L5 the layer. A store of the form before it
-- has three words to a place, and the definitions are of both forms
abbrev pub width : ℕ
width = 4

-- "V, F"
abbrev pub verts_of : List ℕ → ℕ
verts_of ws = get_or ws 0 0

abbrev pub faces_of : List ℕ → ℕ
faces_of ws = get_or ws 1 0

-- "from 2+3i status (0 empty, else 1 + pieces), pieces finished, faces done in the current piece"
abbrev pub state_from : ℕ → ℕ → ℕ
state_from q i = 2 + q * i

abbrev pub status_of : ℕ → List ℕ → ℕ → ℕ
status_of q ws i = get_or ws (2 + q * i) 0

abbrev pub finished_at : ℕ → ℕ → ℕ
finished_at q i = 3 + q * i

abbrev pub finished_of : ℕ → List ℕ → ℕ → ℕ
finished_of q ws i = get_or ws (finished_at q i) 0

abbrev pub done_at : ℕ → ℕ → ℕ
done_at q i = 4 + q * i

abbrev pub done_of : ℕ → List ℕ → ℕ → ℕ
done_of q ws i = get_or ws (done_at q i) 0

-- 02, L5: "Each place .. gets a layer number from 0 to 15"
abbrev pub layer_limit : ℕ
layer_limit = 16

-- "place records grow from three words to four, with the layer last"
abbrev pub layer_at : ℕ → ℕ → ℕ
layer_at q i = 5 + q * i

-- a form of three words has no layers: every place is in layer 0
abbrev pub layer_of : ℕ → List ℕ → ℕ → ℕ
layer_of q ws i = cond (ltb 3 q) (get_or ws (layer_at q i) 0) 0

-- the words of a layer in a place's record
abbrev pub layer_words : ℕ → ℕ → List ℕ
layer_words q layer = cond (ltb 3 q) (layer ∷ []) []

-- "Corners then start at word 130"; at word 98 in the form before
abbrev pub corners_from : ℕ → ℕ
corners_from q = 2 + q * 32

-- ---- the mesh that the runs hold
abbrev pub coords_of : List Float → List ℕ → List Float
coords_of fs ws = take (3 * verts_of ws) (drop coords_from fs)

abbrev pub corners_of : ℕ → List ℕ → List ℕ
corners_of q ws = take (3 * faces_of ws) (drop (corners_from q) ws)
