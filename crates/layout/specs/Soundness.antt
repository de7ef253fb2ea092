-- 01, "The store": when a store is sound, and the refusals 4 to 7 of a call on one; 02, L5: 16 of a layer. Definitions
-- only.
use Rattle.std.specs.Result.{result_and}
use Rattle.std.specs.Prelude.{Bool, ◌&&◌, cond, List, ℕ, ◌+◌, ◌*◌, ◌-◌, ltb, leb, eqb, length, Float, Err}
use Rattle.base.specs.Loops.{every}
use Rattle.base.specs.Answers.{Checked, passed}
use Rattle.base.specs.declared.refusal.Refusal.TheVariants.{ShortStore, Unsound, NoPlace, Vacant, NoLayer}
use Rattle.mesh.specs.Checks.{vertex_limit, face_limit, all_below}
use Rattle.layout.specs.Layout.{place_limit, piece_limit, coords_from, corners_from, corners_of, verts_of, faces_of}
use Rattle.layout.specs.Layout.{status_of, finished_of, done_of, layer_limit, layer_of}

-- "both lengths suffice"; a run that ends before its corners begin, at word 130 or in the old form 98, is too short for
-- any F, so also for the 0 that is read past its end
unfoldable pub long_enough : ℕ → List Float → List ℕ → Bool
long_enough q fs ws =
    leb (corners_from q + 3 * faces_of ws) (length ws) && leb (coords_from + 3 * verts_of ws) (length fs)

-- a place's status, pieces finished and faces done, in a store of so many faces
unfoldable pub place_sound : ℕ → ℕ → ℕ → ℕ → Bool
place_sound status finished done faces =
    -- "status ≤ 17"
    leb status (1 + piece_limit)
    && cond (eqb status 0)
    -- "empty means two zeros"
    (eqb finished 0 && eqb done 0)
    -- "finished ≤ pieces"
    (leb finished (status - 1)
    -- "faces done 0 if all are finished and else below F": with F = 0 nothing is below F, so all must be finished
    && cond (eqb finished (status - 1)) (eqb done 0) (ltb done faces))

-- 02, L5: "a kept layer above 15, or any but 0 at an empty place, makes a store unsound"
unfoldable pub layer_sound : ℕ → ℕ → Bool
layer_sound status layer = cond (eqb status 0) (eqb layer 0) (ltb layer layer_limit)

-- place i of a run
unfoldable pub place_sound_at : ℕ → List ℕ → ℕ → Bool
place_sound_at q ws i =
    place_sound (status_of q ws i) (finished_of q ws i) (done_of q ws i) (faces_of ws)
    && layer_sound (status_of q ws i) (layer_of q ws i)

-- "Sound", but for the lengths
unfoldable pub sound : ℕ → List ℕ → Bool
sound q ws =
    -- "V and F in limit"
    (leb (verts_of ws) vertex_limit && leb (faces_of ws) face_limit)
    -- every place
    && (every (place_sound_at q ws) place_limit
    -- "corners < V"
    && all_below (verts_of ws) (corners_of q ws))

-- rows 4 and 5, of every call on a store: "too short for them, or under 98 words [130 since 02's L5], is 4; any other
-- fault in it .. is 5"
unfoldable pub store_check : ℕ → List Float → List ℕ → Checked
store_check q fs ws = cond (long_enough q fs ws) (cond (sound q ws) passed (Err Unsound)) (Err ShortStore)

-- and row 6, of a call that names a place
unfoldable pub place_check : ℕ → List Float → List ℕ → ℕ → Checked
place_check q fs ws i = result_and (store_check q fs ws) (cond (ltb i place_limit) passed (Err NoPlace))

-- and row 7, of a call that wants the place filled
unfoldable pub filled_check : ℕ → List Float → List ℕ → ℕ → Checked
filled_check q fs ws i = result_and (place_check q fs ws i) (cond (eqb (status_of q ws i) 0) (Err Vacant) passed)

-- 02, L5: "16 when a layer is above 15"; of the layer that a put gives
unfoldable pub layer_check : ℕ → Checked
layer_check layer = cond (ltb layer layer_limit) passed (Err NoLayer)
