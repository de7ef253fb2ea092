-- An answer can be read off what C gets: the number is 0 just where nothing is refused, and no value is lost.
-- Assumes nothing.
use Rattle.std.specs.Prelude.{◌≡◌, refl, ℕ, cond, List, [], ◌∷◌, eqb, Float, Option, Some, None, Result, Ok, Err}
use Rattle.base.specs.Answers.{Answer, measured_as, counted_as}
use Rattle.base.specs.RefusalLaws.{never-zero}
use Rattle.base.specs.declared.refusal.Refusal.{Refusal}
use Rattle.base.specs.declared.refusal.Refusal.TheVariants.{BadMatrix}
use Rattle.solve.specs.declared.Unsolved.TheVariants.{Flat, Refused}
use Rattle.solve.specs.declared.eliminate.FlatPivot.{FlatPivot}
use Rattle.solve.specs.Solve.{flat_at, solved_as}
use Rattle.pieces.specs.declared.kernels.Decomposed.{Decomposed}
use Rattle.pieces.specs.Kernels.{decomposed_as}
use Rattle.pieces.specs.declared.lists.DecomposedList.{DecomposedList}
use Rattle.pieces.specs.Lists.{listed_as}
use Rattle.store.specs.declared.open.Opened.{Opened}
use Rattle.store.specs.OpenAnswer.{opened}
use Rattle.store.specs.declared.put.Placed.{Placed}
use Rattle.store.specs.PutAnswer.{placed}
use Rattle.advance.specs.declared.advance.Advanced.{Advanced}
use Rattle.advance.specs.AdvanceAnswer.{advanced}
use Rattle.adopt.specs.declared.adopt.Adopted.{Adopted}
use Rattle.adopt.specs.AdoptAnswer.{adopting}
use Rattle.bill.specs.declared.Billed.{Billed}
use Rattle.bill.specs.BillAnswer.{billed}
use Rattle.readings.specs.Readings.{reported}
use Rattle.reports.specs.declared.reports.Totals.{Totals}
use Rattle.reports.specs.ReportAnswer.{report_read}
use Rattle.crossing.specs.Crossing.{solved_from, kernel_pieces_from, list_pieces_from}
use Rattle.crossing.specs.declared.kernels.CauchySolved.{CauchySolved}
use Rattle.crossing.specs.Volumes.{value_from}
use Rattle.crossing.specs.Bills.{bill_from}
use Rattle.crossing.specs.Sources.{written_from}
use Rattle.crossing.specs.StoreCrossing.{opened_from, placed_from, steps_from, adopted_from, store_report_from, listed_from, track_from}

-- the reply of a number and values, which count where the number is 0
abbrev pub told : ℕ → List ℕ → List Float → Answer
told n ns xs =
    cond (eqb n 0) (record { refusal = 0; counts = ns; floats = xs }) (record { refusal = n; counts = []; floats = [] })

-- the solver's reply, where the number 11 comes with a column and any other refusal with none
abbrev pub told_solved : CauchySolved → Answer
told_solved c = cond (eqb c.no 11) (flat_at c.column) (told c.no [] (c.pivot ∷ []))

pub solves : (pivot : Float) → told_solved (solved_from (solved_as (Ok pivot))) ≡ solved_as (Ok pivot)
solves pivot = refl

pub flat : (p : FlatPivot) → told_solved (solved_from (solved_as (Err (Flat p)))) ≡ solved_as (Err (Flat p))
flat p = refl

pub bad_matrix_lem : told_solved (solved_from (solved_as (Err (Refused BadMatrix)))) ≡ solved_as (Err (Refused BadMatrix))
bad_matrix_lem = refl

pub decomposes : (d : Result Decomposed Refusal)
    → let c = kernel_pieces_from (decomposed_as d) in
    told c.no (c.pieces ∷ c.fit.kind ∷ c.fit.column ∷ []) (c.error ∷ c.fit.pivot ∷ []) ≡ decomposed_as d
decomposes (Ok d) = refl
decomposes (Err r) = rw (never-zero r) refl

pub list_decomposes : (d : Result DecomposedList Refusal)
    → let c = list_pieces_from (listed_as d) in told c.no (c.kernels ∷ c.pieces ∷ []) (c.error ∷ []) ≡ listed_as d
list_decomposes (Ok d) = refl
list_decomposes (Err r) = rw (never-zero r) refl

pub opens : (o : Result Opened Refusal)
    → let c = opened_from (opened o) in told c.no (c.verts ∷ c.faces ∷ []) [] ≡ opened o
opens (Ok o) = refl
opens (Err r) = rw (never-zero r) refl

pub places : (p : Result Placed Refusal)
    → let c = placed_from (placed p) in
    told c.no (c.pieces ∷ c.need ∷ c.fit.kind ∷ c.fit.column ∷ []) (c.fit.pivot ∷ []) ≡ placed p
places (Ok p) = refl
places (Err r) = rw (never-zero r) refl

pub advances : (a : Result Advanced Refusal)
    → let c = steps_from (advanced a) in told c.no (c.done ∷ c.left ∷ []) [] ≡ advanced a
advances (Ok a) = refl
advances (Err r) = rw (never-zero r) refl

pub adopts : (a : Result (Option Adopted) Refusal)
    → let c = adopted_from (adopting a) in told c.no (c.same_body ∷ c.pieces ∷ c.left ∷ []) [] ≡ adopting a
adopts (Ok (Some a)) = refl
adopts (Ok None) = refl
adopts (Err r) = rw (never-zero r) refl

pub values : (d : Result Float Refusal)
    → let c = value_from (measured_as d) in told c.no [] (c.value ∷ []) ≡ measured_as d
values (Ok x) = refl
values (Err r) = rw (never-zero r) refl

pub reports : (d : Result Totals Refusal)
    → let c = store_report_from (report_read d) in
    let s = reported c.report c.kernels c.pieces c.error in
    told c.no s.counts s.floats ≡ report_read d
reports (Ok d) = refl
reports (Err r) = rw (never-zero r) refl

pub lists : (d : Result ℕ Refusal) → let c = listed_from (counted_as d) in told c.no (c.pieces ∷ []) [] ≡ counted_as d
lists (Ok n) = refl
lists (Err r) = rw (never-zero r) refl

pub tracked : (d : Result ℕ Refusal) → let c = track_from (counted_as d) in told c.no (c.points ∷ []) [] ≡ counted_as d
tracked (Ok n) = refl
tracked (Err r) = rw (never-zero r) refl

pub bills : (b : Result Billed Refusal) → let c = bill_from (billed b) in told c.no (c.steps ∷ c.floats ∷ []) [] ≡ billed b
bills (Ok b) = refl
bills (Err r) = rw (never-zero r) refl

pub converts : (o : Result ℕ Refusal)
    → let c = written_from (counted_as o) in told c.no (c.kernels ∷ []) [] ≡ counted_as o
converts (Ok n) = refl
converts (Err r) = rw (never-zero r) refl
