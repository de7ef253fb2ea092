-- Many hands, a call of ours, beyond 02 (docs/DECISIONS.md): a filled place of another store of the same body comes
-- into a place of this one. This store's runs are fs and ws, its place is i; the other's runs are gs and us, its place
-- is j; there are q words to a place. Definitions only.
use Rattle.std.specs.Prelude.{Bool, ◌&&◌, cond, List, [], ◌∷◌, ℕ, ◌-◌, ltb, eqb, take, drop, Float, Err}
use Rattle.base.specs.Answers.{Answer, counted, Checked, passed}
use Rattle.base.specs.declared.refusal.Refusal.TheVariants.{ShortStore, Unsound, NoPlace, Vacant}
use Rattle.layout.specs.Layout.{place_limit, radius_of, kernel_from, pieces_from, state_from, verts_of, faces_of}
use Rattle.layout.specs.Layout.{status_of, coords_of, corners_of}
use Rattle.layout.specs.Runs.{write}
use Rattle.layout.specs.Soundness.{long_enough, sound}
use Rattle.layout.specs.Left.{left_at}
use Rattle.layout.specs.After.{After, after, guarded}
use Rattle.adopt.specs.Same.{same_float, same_floats, same_words}

-- ---- refusals 4 and 5 of either store, 6 of either place, 7 where the other's place is empty: the lowest that applies
unfoldable pub adopt_check : ℕ → List Float → List ℕ → ℕ → List Float → List ℕ → ℕ → Checked
adopt_check q fs ws i gs us j =
    cond (long_enough q fs ws && long_enough q gs us)
    (cond (sound q ws && sound q us)
    (cond (ltb i place_limit && ltb j place_limit)
    (cond (eqb (status_of q us j) 0) (Err Vacant) passed)
    (Err NoPlace))
    (Err Unsound))
    (Err ShortStore)

-- ---- of the same body: radius, V, F, coordinates and corners are equal, NaN as one
unfoldable pub same_body_lem : ℕ → List Float → List ℕ → List Float → List ℕ → Bool
same_body_lem q fs ws gs us =
    same_float (radius_of fs) (radius_of gs)
    && ((eqb (verts_of ws) (verts_of us) && eqb (faces_of ws) (faces_of us))
    && (same_floats (coords_of fs ws) (coords_of gs us) && same_words (corners_of q ws) (corners_of q us)))

-- ---- what comes across, whatever place i held: the kernel and its error, the pieces with their volumes so far; the
-- status, the steps and the layer
abbrev pub adopted_floats : List Float → ℕ → List Float → ℕ → List Float
adopted_floats fs i gs j =
    write (write fs (kernel_from i) (take 7 (drop (kernel_from j) gs))) (pieces_from i)
    (take 48 (drop (pieces_from j) gs))

abbrev pub adopted_words : ℕ → List ℕ → ℕ → List ℕ → ℕ → List ℕ
adopted_words q ws i us j = write ws (state_from q i) (take q (drop (state_from q j) us))

-- ---- what it answers: 1 and the pieces and steps left of the place that came across; of another body three zeros
abbrev pub adopted : ℕ → ℕ → Answer
adopted pieces left = counted (1 ∷ pieces ∷ left ∷ [])

abbrev pub another : Answer
another = counted (0 ∷ 0 ∷ 0 ∷ [])

-- ---- the call: where the bodies differ nothing is changed, and the answer says so
unfoldable pub adopt_step : ℕ → List Float → List ℕ → ℕ → List Float → List ℕ → ℕ → After
adopt_step q fs ws i gs us j =
    guarded (adopt_check q fs ws i gs us j) fs ws
    (cond (same_body_lem q fs ws gs us)
    (after (adopted (status_of q us j - 1) (left_at q us (faces_of us) j)) (adopted_floats fs i gs j)
    (adopted_words q ws i us j))
    (after another fs ws))
