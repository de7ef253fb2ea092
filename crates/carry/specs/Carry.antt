-- 02, L6: "Turn an opened store of the old form into the new one, in fresh lent runs, with every kernel in layer 0."
-- The old runs are fs and ws, the new ones gs and us. Definitions only.
use Rattle.std.specs.Prelude.{Bool, ◌&&◌, cond, List, [], ◌∷◌, ◌++◌, ℕ, zero, suc, ◌+◌, ◌*◌, leb, length, take, Float, Err}
use Rattle.base.specs.Answers.{counted, Checked, passed}
use Rattle.base.specs.declared.refusal.Refusal.TheVariants.{ShortStore, Unsound}
use Rattle.layout.specs.Layout.{place_limit, width, coords_from, corners_from, verts_of, faces_of, status_of}
use Rattle.layout.specs.Layout.{finished_of, done_of, corners_of}
use Rattle.layout.specs.Runs.{write}
use Rattle.layout.specs.Soundness.{long_enough, sound}
use Rattle.layout.specs.After.{After, after, guarded}

-- the words to a place of the form before L5: status, pieces finished, faces done
abbrev pub old_width : ℕ
old_width = 3

-- ---- what the new runs get

-- "Unfinished sums and step counts go along": the floats of both forms are the same, "1,761+3V" of them
abbrev pub carried_floats : List Float → List ℕ → List Float
carried_floats fs ws = take (coords_from + 3 * verts_of ws) fs

-- the records of the places below k: the three words that each has, and the layer, 0
unfoldable pub carried_rows : List ℕ → ℕ → List ℕ
carried_rows ws zero = []
carried_rows ws (suc k) =
    carried_rows ws k ++ (status_of old_width ws k ∷ finished_of old_width ws k ∷ done_of old_width ws k ∷ 0 ∷ [])

-- "V, F", the places, the corners
abbrev pub carried_words : List ℕ → List ℕ
carried_words ws = verts_of ws ∷ faces_of ws ∷ (carried_rows ws place_limit ++ corners_of old_width ws)

-- ---- "Unsound and short-store refusals apply to the old runs as in 01, and 4 to new runs below L5's lengths": 4
-- first, for the counts V and F that the old words have, whatever they are

abbrev pub room_for : List ℕ → List Float → List ℕ → Bool
room_for ws gs us =
    leb (corners_from width + 3 * faces_of ws) (length us) && leb (coords_from + 3 * verts_of ws) (length gs)

unfoldable pub carry_check : List Float → List ℕ → List Float → List ℕ → Checked
carry_check fs ws gs us =
    cond (long_enough old_width fs ws && room_for ws gs us) (cond (sound old_width ws) passed (Err Unsound))
    (Err ShortStore)

-- ---- the call: it answers V and F, as an opening does, and leaves what lies past the store in the new runs
unfoldable pub carry_step : List Float → List ℕ → List Float → List ℕ → After
carry_step fs ws gs us =
    guarded (carry_check fs ws gs us) gs us
    (after (counted (verts_of ws ∷ faces_of ws ∷ [])) (write gs 0 (carried_floats fs ws))
    (write us 0 (carried_words ws)))
