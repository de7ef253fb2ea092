-- 01, "The store": "Afresh: the machine's filled places in order, on the opening's mesh and radius, each decomposed,
-- `kernel_volume` of every piece over all F faces, then the reading's functions by its convention; nothing comes from
-- the runs". Said with demand 2's functions: `decomposed`, `field_mass_call`, `densitized` and `body_volume_call` are what
-- the contracts of those calls cite; `applied_scale_lem` and `report_of` (crates/density/specs) are 01's "Scales and report
-- fields", which the readings cite. Definitions only.
use Rattle.std.specs.Prelude.{List, [], ◌∷◌, ◌++◌, map, ℕ, zero, suc, ◌*◌, ◌/◌, length, get_or, Float}
use Rattle.std.specs.Float.{nan}
use Rattle.base.specs.Floats.{+0, greater}
use Rattle.base.specs.Answers.{Answer, counted, Outcome, outcome, guarded_run, Printout, room_check}
use Rattle.layout.specs.Runs.{write}
use Rattle.kernel.specs.declared.kernel.Kernel.{Kernel}
use Rattle.pieces.specs.declared.pieces.Pieces.{Pieces}
use Rattle.pieces.specs.Pieces.{decomposed}
use Rattle.pieces.specs.Kernels.{piece_at}
use Rattle.mass.specs.Calls.{body_volume_call, field_mass_call}
use Rattle.density.specs.declared.convention.Convention.{Convention}
use Rattle.density.specs.Densitize.{densitized}
use Rattle.density.specs.Conventions.{bulk_of, rho0_scale_lem, applied_scale_lem}
use Rattle.density.specs.Reports.{report_of}
use Rattle.along.specs.Along.{along}
use Rattle.readings.specs.Readings.{Reading, density, report, list, track, origin, rescaled, sixes, reported, track_check}
use Rattle.readings.specs.Finished.{beside}
use Rattle.page.specs.Page.{Row, row, page_answer}
use Rattle.machine.specs.Machine.{Mesh, Provenance, own, carried, Place, empty, full, complete_places, passed_places}

-- ---- "the machine's filled places in order": their kernels
abbrev pub kernel_of : Place → List Kernel
kernel_of empty = []
kernel_of (full k fit o p l) = k ∷ []

abbrev pub kernels_of : List Place → List Kernel
kernels_of [] = []
kernels_of (s ∷ ss) = kernel_of s ++ kernels_of ss

-- ---- "each decomposed": a kernel and its fit
pub record Worked : Type 0 where
  pub kernel : Kernel
  pub fit : Pieces

-- 02, L6: "pieces fitted before L2 go across as held, and for their kernels demand 3's machine and fresh working start
-- from those pieces and the error held with them"
abbrev pub fit_afresh : Float → Kernel → Pieces → Provenance → Pieces
fit_afresh radius k fit own = decomposed k radius
fit_afresh radius k fit carried = fit

abbrev pub work_place : Float → Place → List Worked
work_place radius empty = []
work_place radius (full k fit o p l) = record { kernel = k; fit = fit_afresh radius k fit o } ∷ []

abbrev pub work_all : Float → List Place → List Worked
work_all radius [] = []
work_all radius (s ∷ ss) = work_place radius s ++ work_all radius ss

-- the first n pieces of a fit, each a kernel of its own; those of one kernel, of all
abbrev pub pieces_to : Kernel → Pieces → ℕ → List Kernel
pieces_to k fit zero = []
pieces_to k fit (suc n) = pieces_to k fit n ++ (piece_at k fit n ∷ [])

abbrev pub pieces_of : Worked → List Kernel
pieces_of a = pieces_to a.kernel a.fit a.fit.count

abbrev pub all_pieces : List Worked → List Kernel
all_pieces [] = []
all_pieces (a ∷ rest) = pieces_of a ++ all_pieces rest

-- "greatest error (+0 with no place filled)", from e on
abbrev pub worst_from : Float → List Worked → Float
worst_from e [] = e
worst_from e (a ∷ rest) = worst_from (greater e a.fit.error) rest

-- ---- "then the reading's functions by its convention", on a mesh m and pieces ks

-- the float that a call answers
abbrev pub value_of : Answer → Float
value_of a = get_or a.floats 0 nan

-- `kernel_field_mass`, `densitize` at the origin, `body_volume`
abbrev pub mass_of : Mesh → List Kernel → Float
mass_of m ks = value_of (field_mass_call m.coords m.corners (sixes ks))

abbrev pub origin_of : List Kernel → Float
origin_of ks = value_of (densitized (sixes ks) origin)

abbrev pub body_of : Mesh → Float
body_of m = value_of (body_volume_call m.coords m.corners)

-- the pieces rescaled, six floats each
abbrev pub scaled_list : Convention → Mesh → List Kernel → List Float
scaled_list v m ks = sixes (map (rescaled (applied_scale_lem v (mass_of m ks) (rho0_scale_lem (bulk_of v) (origin_of ks)))) ks)

-- "Density is `densitize` on rescaled pieces"; the report; "List writes c, sigma, rescaled w, alpha per piece and
-- answers the piece count", row 9; 02, L1: the density at each point of a track, in point order, row 14
abbrev pub reading_on : Mesh → List Kernel → ℕ → Float → Reading → Outcome
reading_on m ks filled worst (density v x) = outcome (densitized (scaled_list v m ks) x) []
reading_on m ks filled worst (report v) =
    outcome (reported (report_of v (mass_of m ks) (origin_of ks) (body_of m)) filled (length ks) worst) []
reading_on m ks filled worst (list v out) =
    guarded_run (room_check (6 * length ks) (length out)) out
    (outcome (counted (length ks ∷ [])) (write out 0 (scaled_list v m ks)))
reading_on m ks filled worst (track v points out) =
    let count = length points / 3 in
    guarded_run (track_check (length points) (length out)) out
    (outcome (counted (count ∷ [])) (write out 0
    (along (λ x. value_of (densitized (scaled_list v m ks) x)) points count)))

unfoldable pub worked_afresh : Mesh → List Place → Reading → Outcome
worked_afresh m ss r =
    let all = work_all m.radius ss in
    reading_on m (all_pieces all) (length all) (worst_from +0 all) r

-- ---- 02, L7: "It covers only the places whose steps are complete, and says how many filled places of its layers it
-- passed over": the report worked afresh on those of the places ss that have nothing left, and beside it how many have
-- some
unfoldable pub finished_afresh : Mesh → List Place → Convention → Answer
finished_afresh m ss v = beside (passed_places m ss) (worked_afresh m (complete_places m ss) (report v)).reply

-- ---- 02, L8, the wall page: "One line per filled place shows its number [..], its pieces [..] and its raw mass"; "The
-- mass is the place's own field mass": `kernel_field_mass` of its pieces alone. Place i, and the places from i on
abbrev pub fresh_row : Mesh → ℕ → Place → List Row
fresh_row m i s = map (λ a. row i a.fit.count (mass_of m (pieces_of a))) (work_place m.radius s)

abbrev pub fresh_rows : Mesh → ℕ → List Place → List Row
fresh_rows m i [] = []
fresh_rows m i (s ∷ ss) = fresh_row m i s ++ fresh_rows m (suc i) ss

-- the page of those rows into lent bytes, rows 17 and 18
unfoldable pub page_afresh : Mesh → List Place → List ℕ → Printout
page_afresh m ss bs = page_answer (fresh_rows m 0 ss) bs
