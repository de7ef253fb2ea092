-- 01, "The store": "Readings (density, report, list) take filled places in order", which pieces, which scale, and what
-- is made of them; 02, L1, the track, and L5, a set of layers. Definitions only.
use Rattle.std.specs.Result.{result_and}
use Rattle.std.specs.Prelude.{Bool, true, false, ◌&&◌, cond, List, [], ◌∷◌, ◌++◌, map, ℕ, zero, suc, ◌+◌, ◌*◌, ◌-◌, ◌/◌, Ok, Err}
use Rattle.std.specs.Prelude.{◌%◌, ltb, leb, eqb, length, get_or, Float}
use Rattle.std.specs.Float.{nan}
use Rattle.std.specs.Float.Ieee.{lt}
use Rattle.base.specs.Answers.{Answer, accepted, refused, counted, Outcome, outcome, guarded_run, room_check, Checked, passed}
use Rattle.base.specs.Floats.{◌⊕◌, ◌⊗◌, +0, greater}
use Rattle.base.specs.Loops.{times}
use Rattle.base.specs.declared.refusal.Refusal.{Refusal}
use Rattle.base.specs.declared.refusal.Refusal.TheVariants.{Unfinished, BadTrack}
use Rattle.layout.specs.Runs.{write}
use Rattle.volume.specs.Volume.{body_volume}
use Rattle.kernel.specs.declared.kernel.Kernel.{Kernel}
pub use Rattle.kernel.specs.Kernels.{six}
use Rattle.pieces.specs.Pieces.{piece_alpha}
use Rattle.density.specs.declared.convention.Convention.{Convention}
use Rattle.density.specs.declared.convention.Convention.TheVariants.{Raw, Rho0, Mass}
use Rattle.density.specs.declared.report.MassReport.{MassReport}
use Rattle.density.specs.Densitize.{densitize_of}
use Rattle.density.specs.Conventions.{bulk_of, rho0_scale_lem, applied_scale_lem}
use Rattle.density.specs.Reports.{report_values, report_of}
use Rattle.layout.specs.Layout.{place_limit, centre_floats, weight_of, alpha_of, error_of, sigma_of, coefficient_of}
use Rattle.layout.specs.Layout.{volume_of, verts_of, faces_of, status_of}
use Rattle.layout.specs.Soundness.{store_check}
use Rattle.layout.specs.Left.{held, left_of}
use Rattle.layout.specs.Layers.{layers_check, in_layers}
use Rattle.along.specs.Along.{along}

-- ---- a reading and its convention

-- density at a point; report; list, into a lent run; density along a track of points, into a lent run
pub data Reading : Type 0 where
  density : Convention → List Float → Reading
  report : Convention → Reading
  list : Convention → List Float → Reading
  track : Convention → List Float → List Float → Reading

-- "by mass with target > 0"
abbrev pub by_mass : Convention → Bool
by_mass Raw = false
by_mass (Rho0 bulk) = false
by_mass (Mass target bulk) = lt +0 target

-- row 8: "left > 0, for report, or density and list by mass with target > 0"; 02: "for 8 a track counts as a density"
abbrev pub needs_work : Reading → Bool
needs_work (density v x) = by_mass v
needs_work (report v) = true
needs_work (list v out) = by_mass v
needs_work (track v points out) = by_mass v

-- ---- pieces: each a kernel of its own, with its volume
pub record Part : Type 0 where
  pub kernel : Kernel
  pub volume : Float

-- what is left of a piece where its volume is not looked at
abbrev pub bare : Part → Kernel
bare p = p.kernel

abbrev pub no_kernel : Kernel
no_kernel = record { c = []; sigma = nan; w = nan; alpha = nan }

abbrev pub no_part : Part
no_part = record { kernel = no_kernel; volume = nan }

-- ---- which scale

-- `densitize` of the pieces at x
unfoldable pub density_at : List Kernel → List Float → Float
density_at ks x = densitize_of (λ i. get_or ks i no_kernel) (length ks) x

-- `kernel_field_mass` "adds w times volume", in one running sum over the pieces
abbrev pub mass_to : List Part → ℕ → Float → Float
mass_to ps i total = total ⊕ (get_or ps i no_part).kernel.w ⊗ (get_or ps i no_part).volume

unfoldable pub raw_mass_lem : List Part → Float
raw_mass_lem ps = times (mass_to ps) (length ps) 0 +0

abbrev pub origin : List Float
origin = +0 ∷ +0 ∷ +0 ∷ []

-- the scale on every weight
abbrev pub applied : Convention → List Part → Float
applied v ps = applied_scale_lem v (raw_mass_lem ps) (rho0_scale_lem (bulk_of v) (density_at (map bare ps) origin))

-- a rescaled piece: only the weight changes
abbrev pub rescaled : Float → Kernel → Kernel
rescaled s k = record { c = k.c; sigma = k.sigma; w = k.w ⊗ s; alpha = k.alpha }

-- ---- what is made of them

-- all that a reading looks at: the pieces, the mesh's volume, the filled places, the greatest error
pub record Seen : Type 0 where
  pub parts : List Part
  pub body : Float
  pub filled : ℕ
  pub worst : Float

abbrev pub seeing : List Part → Float → ℕ → Float → Seen
seeing ps body filled worst = record { parts = ps; body = body; filled = filled; worst = worst }

-- "Report adds filled count, pieces, greatest error"
abbrev pub reported : MassReport → ℕ → ℕ → Float → Answer
reported r filled pieces worst =
    record {
      refusal = 0;
      counts = filled ∷ pieces ∷ [];
      floats = report_values r ++ (worst ∷ []);
    }

-- "List writes c, sigma, rescaled w, alpha per piece": `six` of the piece
abbrev pub sixes : List Kernel → List Float
sixes [] = []
sixes (k ∷ ks) = six k ++ sixes ks

-- "and answers the piece count; words past them are untouched"; row 9
abbrev pub listing : Float → List Kernel → List Float → Outcome
listing s ks out =
    guarded_run (room_check (6 * length ks) (length out)) out
    (outcome (counted (length ks ∷ [])) (write out 0 (sixes (map (rescaled s) ks))))

-- 02: "14 when the track has more than 4,096 points, its coordinate count isn't a multiple of 3, or the run is too
-- short"; of the counts of floats
abbrev pub track_limit : ℕ
track_limit = 4096

unfoldable pub track_check : ℕ → ℕ → Checked
track_check coords room =
    cond (eqb (coords % 3) 0 && leb (coords / 3) track_limit && leb (coords / 3) room) passed (Err BadTrack)

-- "takes the points, one convention and a lent run for the densities, in point order"; "The scale and the rescaled
-- weights are worked once for the track"
abbrev pub densities_along : Float → List Kernel → List Float → ℕ → List Float
densities_along s ks points count = along (density_at (map (rescaled s) ks)) points count

abbrev pub tracking : Float → List Kernel → List Float → List Float → Outcome
tracking s ks points out =
    guarded_run (track_check (length points) (length out)) out
    (outcome (counted (length points / 3 ∷ []))
    (write out 0 (densities_along s ks points (length points / 3))))

abbrev pub answer_of : Reading → Seen → Outcome
answer_of (density v x) s =
    outcome (accepted (density_at (map (rescaled (applied v s.parts)) (map bare s.parts)) x ∷ [])) []
answer_of (report v) s =
    outcome (reported (report_of v (raw_mass_lem s.parts) (density_at (map bare s.parts) origin) s.body) s.filled
    (length s.parts) s.worst) []
answer_of (list v out) s = listing (applied v s.parts) (map bare s.parts) out
answer_of (track v points out) s = tracking (applied v s.parts) (map bare s.parts) points out

-- refused: the lent run stays
abbrev pub refusing : Reading → Refusal → Outcome
refusing (density v x) r = outcome (refused r) []
refusing (report v) r = outcome (refused r) []
refusing (list v out) r = outcome (refused r) out
refusing (track v points out) r = outcome (refused r) out

-- row 8
abbrev pub reading_of : Reading → ℕ → Seen → Outcome
reading_of r left s = cond (needs_work r && ltb 0 left) (refusing r Unfinished) (answer_of r s)

-- ---- as a store's runs hold it: "Readings use pieces and volumes as the store holds them; a piece's alpha is the
-- kernel's if that kernel stays, else 1, and its weight is w times the coefficient"
abbrev pub held_piece : List Float → ℕ → ℕ → Float → Kernel
held_piece fs i j w =
    record { c = centre_floats fs i; sigma = sigma_of fs i j; w = w; alpha = piece_alpha (alpha_of fs i) }

abbrev pub held_part : List Float → ℕ → ℕ → Part
held_part fs i j =
    record { kernel = held_piece fs i j (weight_of fs i ⊗ coefficient_of fs i j); volume = volume_of fs i j }

-- the first j pieces of place i, and those of the places below k
abbrev pub held_at : List Float → ℕ → ℕ → List Part
held_at fs i zero = []
held_at fs i (suc j) = held_at fs i j ++ (held_part fs i j ∷ [])

unfoldable pub held_all_lem : ℕ → List Float → List ℕ → ℕ → List Part
held_all_lem q fs ws zero = []
held_all_lem q fs ws (suc k) = held_all_lem q fs ws k ++ held_at fs k (status_of q ws k - 1)

unfoldable pub held_filled : ℕ → List ℕ → ℕ → ℕ
held_filled q ws zero = 0
held_filled q ws (suc k) = held_filled q ws k + cond (eqb (status_of q ws k) 0) 0 1

-- "greatest error (+0 with no place filled)"
unfoldable pub held_worst : ℕ → List Float → List ℕ → ℕ → Float
held_worst q fs ws zero = +0
held_worst q fs ws (suc k) =
    cond (eqb (status_of q ws k) 0) (held_worst q fs ws k) (greater (held_worst q fs ws k) (error_of fs k))

-- all places, in a mesh of the volume `body`
abbrev pub seen_by_lem : ℕ → List Float → List ℕ → Float → Seen
seen_by_lem q fs ws body =
    seeing (held_all_lem q fs ws place_limit) body (held_filled q ws place_limit) (held_worst q fs ws place_limit)

unfoldable pub held_seen : ℕ → List Float → List ℕ → Seen
held_seen q fs ws = seen_by_lem q fs ws (body_volume (held q fs ws (verts_of ws) (faces_of ws)) (faces_of ws))

-- where a check of the store or of its layers refuses
abbrev pub guarded_read : Checked → Reading → Outcome → Outcome
guarded_read (Ok _) r good = good
guarded_read (Err e) r good = refusing r e

-- the contract of the four readings, none of which changes the store. 02, L5: a reading of a set of layers is that of
-- the store whose other places are empty; "16 when a layer is above 15" comes after 5 and before 8
unfoldable pub read_step : ℕ → List Float → List ℕ → ℕ → Reading → Outcome
read_step q fs ws layers r =
    let seen = in_layers q layers ws in
    guarded_read (result_and (store_check q fs ws) (layers_check layers)) r
    (reading_of r (left_of q seen (faces_of seen) place_limit) (held_seen q fs seen))
