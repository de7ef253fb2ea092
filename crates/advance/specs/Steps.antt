-- 01, "The store": "Advance(n, u64)". Definitions only.
use Rattle.std.specs.Prelude.{◌&&◌, cond, List, [], ◌∷◌, ℕ, zero, suc, ◌+◌, ◌*◌, ◌-◌, ltb, eqb, get_or, set, Float}
use Rattle.std.specs.Float.{nan}
use Rattle.base.specs.Answers.{counted}
use Rattle.base.specs.Loops.{iterate}
use Rattle.mesh.specs.declared.vectors.V3.{V3}
use Rattle.mesh.specs.declared.triangles.Triangle.{Triangle}
use Rattle.volume.specs.Volume.{face_sum}
use Rattle.layout.specs.Layout.{place_limit, centre_at, pieces_from, verts_of, faces_of, status_of, finished_at}
use Rattle.layout.specs.Layout.{finished_of, done_at, done_of}
use Rattle.layout.specs.Soundness.{store_check}
use Rattle.layout.specs.Left.{held, left_of}
use Rattle.layout.specs.After.{After, after, guarded}

-- ---- "one face of one piece each"

-- a place at work: the floats, its pieces finished, the faces done in the current one, and the steps still to spend
pub record Work : Type 0 where
  pub floats : List Float
  pub finished : ℕ
  pub done : ℕ
  pub budget : ℕ

abbrev pub work : List Float → ℕ → ℕ → ℕ → Work
work fs n d b = record { floats = fs; finished = n; done = d; budget = b }

-- one step at a place whose `count` pieces stand from `base` on, centre c, in a mesh of m triangles t: the current
-- piece's volume so far is brought on by its next face, and its last face finishes it. Where no piece or no step is
-- left, nothing is done
unfoldable pub one_face : (ℕ → Triangle) → V3 → ℕ → ℕ → ℕ → Work → Work
one_face t c m base count r =
    let at = base + 3 * r.finished in
    cond (ltb r.finished count && ltb 0 r.budget)
    (work
    (set r.floats (at + 2) (face_sum (t r.done) c (get_or r.floats at nan) (get_or r.floats (at + 2) nan)))
    (cond (eqb (r.done + 1) m) (r.finished + 1) r.finished)
    (cond (eqb (r.done + 1) m) 0 (r.done + 1))
    (r.budget - 1))
    r

-- ---- "lowest unfinished place first"

-- the store between two places, and the steps still to spend
pub record Standing : Type 0 where
  pub floats : List Float
  pub words : List ℕ
  pub budget : ℕ

abbrev pub standing : List Float → List ℕ → ℕ → Standing
standing fs ws b = record { floats = fs; words = ws; budget = b }

-- place i, of `count` pieces, at work until its steps are spent
abbrev pub worked_from : (ℕ → Triangle) → V3 → ℕ → ℕ → ℕ → Work → Work
worked_from t c m i count r = iterate (one_face t c m (pieces_from i) count) r.budget r

-- the steps that place i takes of them
unfoldable pub place_work : ℕ → (ℕ → Triangle) → ℕ → ℕ → Standing → Work
place_work q t m i s =
    worked_from t (centre_at s.floats i) m i (status_of q s.words i - 1)
    (work s.floats (finished_of q s.words i) (done_of q s.words i) s.budget)

-- with its words written back
abbrev pub stored : ℕ → List ℕ → ℕ → Work → Standing
stored q ws i r = standing r.floats (set (set ws (finished_at q i) r.finished) (done_at q i) r.done) r.budget

-- the places below k, one after the other
unfoldable pub places_run : ℕ → (ℕ → Triangle) → ℕ → ℕ → Standing → Standing
places_run q t m zero s = s
places_run q t m (suc i) s = stored q (places_run q t m i s).words i (place_work q t m i (places_run q t m i s))

-- ---- the call: "the step count in its result is done, beside left"
abbrev pub spent_all : ℕ → List Float → List ℕ → ℕ → Standing
spent_all q fs ws n =
    places_run q (held q fs ws (verts_of ws) (faces_of ws)) (faces_of ws) place_limit (standing fs ws n)

unfoldable pub advance_step : ℕ → List Float → List ℕ → ℕ → After
advance_step q fs ws n =
    let s = spent_all q fs ws n in
    let done = n - s.budget in
    guarded (store_check q fs ws) fs ws
    (after (counted (done ∷ (left_of q ws (faces_of ws) place_limit - done) ∷ [])) s.floats s.words)
