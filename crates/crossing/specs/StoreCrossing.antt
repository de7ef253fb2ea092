-- What crosses to C of a store's reply: 01's number, then each value, 0 where the reply has none, beside both runs.
-- Definitions only.
use Rattle.std.specs.Prelude.{ℕ, cond, List, eqb, get_or, Float}
use Rattle.base.specs.Answers.{Answer, Printout}
use Rattle.base.specs.Floats.{+0}
use Rattle.density.specs.declared.convention.Convention.{Convention}
use Rattle.density.specs.declared.convention.Convention.TheVariants.{Raw, Rho0, Mass}
use Rattle.layout.specs.After.{After}
use Rattle.crossing.specs.Crossing.{Lent, lent, fit_from}
use Rattle.crossing.specs.Volumes.{mass_from}
use Rattle.crossing.specs.declared.stores.CauchyOpened.{CauchyOpened}
use Rattle.crossing.specs.declared.stores.CauchyPlaced.{CauchyPlaced}
use Rattle.crossing.specs.declared.stores.CauchySteps.{CauchySteps}
use Rattle.crossing.specs.declared.stores.CauchyAdopted.{CauchyAdopted}
use Rattle.crossing.specs.declared.stores.CauchySqueezed.{CauchySqueezed}
use Rattle.crossing.specs.declared.stores.CauchyConvention.{CauchyConvention}
use Rattle.crossing.specs.declared.stores.CauchyStoreReport.{CauchyStoreReport}
use Rattle.crossing.specs.declared.stores.CauchyFinished.{CauchyFinished}
use Rattle.crossing.specs.declared.stores.CauchyListed.{CauchyListed}
use Rattle.crossing.specs.declared.stores.CauchyTrack.{CauchyTrack}
use Rattle.crossing.specs.declared.stores.CauchyBytes.{CauchyBytes}
use Rattle.crossing.specs.declared.scripts.CauchyLoaded.{CauchyLoaded}

-- ---- what C gets, with the runs as they are then
pub record Crossed (A : Type 0) : Type 0 where
  pub answer : A
  pub floats : List Float
  pub words : List ℕ

abbrev pub crossed : {A : Type 0} → A → List Float → List ℕ → Crossed A
crossed r fs ws = record { answer = r; floats = fs; words = ws }

-- what a call leaves, its reply as C gets it
abbrev pub across : {A : Type 0} → (Answer → A) → After → Crossed A
across answer a = crossed (answer a.reply) a.floats a.words

-- ---- each reply as C gets it

-- open: "vertices and faces"
abbrev pub opened_from : Answer → CauchyOpened
opened_from a = record { no = a.refusal; verts = get_or a.counts 0 0; faces = get_or a.counts 1 0 }

-- put: "pieces and need", and how the fit ended
abbrev pub placed_from : Answer → CauchyPlaced
placed_from a =
    record { no = a.refusal; pieces = get_or a.counts 0 0; need = get_or a.counts 1 0; fit = fit_from 2 0 a }

-- advance: "done, beside left"
abbrev pub steps_from : Answer → CauchySteps
steps_from a = record { no = a.refusal; done = get_or a.counts 0 0; left = get_or a.counts 1 0 }

-- adopt: 1 where the bodies are the same and 0 where they are not, then pieces and steps left
abbrev pub adopted_from : Answer → CauchyAdopted
adopted_from a =
    record {
      no = a.refusal;
      same_body = get_or a.counts 0 0;
      pieces = get_or a.counts 1 0;
      left = get_or a.counts 2 0;
    }

-- squeeze: "how many coordinates were freed"
abbrev pub squeezed_from : Answer → CauchySqueezed
squeezed_from a = record { no = a.refusal; freed = get_or a.counts 0 0 }

-- report: "the first seven in `MassReport` order", then "filled count, pieces, greatest error"
abbrev pub store_report_from : Answer → CauchyStoreReport
store_report_from a =
    record {
      no = a.refusal;
      report = mass_from a;
      kernels = get_or a.counts 0 0;
      pieces = get_or a.counts 1 0;
      error = get_or a.floats 7 +0;
    }

-- the report of what is finished: likewise, then "how many filled places of its layers it passed over"
abbrev pub finished_from : Answer → CauchyFinished
finished_from a =
    record {
      no = a.refusal;
      report = mass_from a;
      kernels = get_or a.counts 0 0;
      pieces = get_or a.counts 1 0;
      error = get_or a.floats 7 +0;
      passed_over = get_or a.counts 2 0;
    }

-- list: "the piece count"
abbrev pub listed_from : Answer → CauchyListed
listed_from a = record { no = a.refusal; pieces = get_or a.counts 0 0 }

-- track: how many points
abbrev pub track_from : Answer → CauchyTrack
track_from a = record { no = a.refusal; points = get_or a.counts 0 0 }

-- page, and writer: "it answers its byte count"
abbrev pub bytes_from : Answer → CauchyBytes
bytes_from a = record { no = a.refusal; bytes = get_or a.counts 0 0 }

-- with the lent bytes as they are then
abbrev pub printed_from : Printout → Lent CauchyBytes ℕ
printed_from p = lent (bytes_from p.reply) p.bytes

-- reader: vertices, faces, lines of puts
abbrev pub loaded_from : Answer → CauchyLoaded
loaded_from a =
    record { no = a.refusal; verts = get_or a.counts 0 0; faces = get_or a.counts 1 0; puts = get_or a.counts 2 0 }

-- ---- "raw, rho0 with a bulk density, or mass with target and bulk", by a kind: 0, 1, any other
abbrev pub convention_of : CauchyConvention → Convention
convention_of v = cond (eqb v.kind 0) Raw (cond (eqb v.kind 1) (Rho0 v.bulk) (Mass v.target v.bulk))
