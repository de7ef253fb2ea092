-- Demand 3: the calls on a store, what the machine does at each, the store's calls by their contracts, what each of
-- them charges and does, and what a list of them answers. Definitions only.
use Rattle.std.specs.Prelude.{Bool, true, false, ◌&&◌, cond, List, [], ◌∷◌, ◌++◌, ℕ, ◌^◌, ltb, leb, get_or, replicate, Float}
use Rattle.std.specs.Float.Ieee.{lt}
use Rattle.base.specs.Floats.{+0}
use Rattle.base.specs.Answers.{Answer, refused, Outcome, outcome, Printout, printout}
use Rattle.base.specs.declared.refusal.Refusal.TheVariants.{NoPlace, Unfinished, NoLayer}
use Rattle.kernel.specs.declared.kernel.Kernel.{Kernel}
use Rattle.pieces.specs.Pieces.{decomposed}
use Rattle.pieces.specs.FitEnd.{fit_of}
use Rattle.layout.specs.Layout.{place_limit}
use Rattle.layout.specs.After.{After}
use Rattle.store.specs.Calls.{clear_step, reweigh_step}
use Rattle.advance.specs.Steps.{advance_step}
use Rattle.store.specs.Puts.{put_step_lem}
use Rattle.density.specs.declared.convention.Convention.{Convention}
use Rattle.density.specs.declared.convention.Convention.TheVariants.{Raw, Rho0, Mass}
use Rattle.readings.specs.Readings.{Reading, density, report, list, track, refusing, read_step}
use Rattle.readings.specs.Finished.{finished_step}
use Rattle.page.specs.Page.{page_step}
use Rattle.squeeze.specs.Squeeze.{squeeze_step}
use Rattle.script.specs.Written.{text_answer, write_step}
use Rattle.machine.specs.Machine.{empty, Machine, left_sum, seen_places, work_left, Turn, turn, put_turn, clear_turn, reweigh_turn, advance_turn, squeeze_turn}
use Rattle.machine.specs.Holding.{floats_of, words_of}
use Rattle.machine.specs.Fresh.{worked_afresh, finished_afresh, page_afresh}
use Rattle.machine.specs.Lines.{machine_lines}

-- the calls of demand 3's list
pub data Call : Type 0 where
  -- into a place, a kernel, in a layer
  put : ℕ → Kernel → ℕ → Call
  clear : ℕ → Call
  reweigh : ℕ → Float → Call
  advance : ℕ → Call
  squeeze : Call
  -- of a set of layers
  read : ℕ → Reading → Call
  -- the report of what is finished, of a set of layers
  finished : ℕ → Convention → Call
  -- the wall page, into lent bytes
  page : List ℕ → Call
  -- the store's lines, into lent bytes
  lines : List ℕ → Call

-- ---- the machine: "It refuses by the table below as its own places stand; a refused call changes nothing."

-- row 6: "place ≥ 32"
abbrev pub in_place : Machine → ℕ → Turn → Turn
in_place m i t = cond (ltb i place_limit) t (turn m (refused NoPlace))

-- 02, L5: "16 when a layer is above 15, after 6"
abbrev pub in_layer : Machine → ℕ → Turn → Turn
in_layer m l t = cond (leb l 15) t (turn m (refused NoLayer))

-- row 8: "left > 0, for report, or density and list by mass with target > 0"; 02: "for 8 a track counts as a density"
abbrev pub by_target : Convention → Bool
by_target Raw = false
by_target (Rho0 bulk) = false
by_target (Mass target bulk) = lt +0 target

abbrev pub needs : Reading → Bool
needs (density v x) = by_target v
needs (report v) = true
needs (list v out) = by_target v
needs (track v points out) = by_target v

-- "Left is then counted over the places in the set where a reading decides whether it is unfinished"
abbrev pub work_seen : Machine → ℕ → ℕ
work_seen m layers = left_sum m.mesh (seen_places layers m.places)

-- "16 when a layer is above 15": a set that has such a layer is a number of more than sixteen bits. It comes before 8.
-- Any other reading is worked afresh on the places that it sees; none changes the machine
abbrev pub read_turn : Machine → ℕ → Reading → Outcome
read_turn m layers r =
    cond (leb (2 ^ 16) layers) (refusing r NoLayer)
    (cond (needs r && ltb 0 (work_seen m layers)) (refusing r Unfinished)
    (worked_afresh m.mesh (seen_places layers m.places) r))

-- 02, L7, of the places that it sees: "It is never refused as unfinished"; like a reading it changes nothing
abbrev pub finished_turn : Machine → ℕ → Convention → Answer
finished_turn m layers v =
    cond (leb (2 ^ 16) layers) (refused NoLayer) (finished_afresh m.mesh (seen_places layers m.places) v)

abbrev pub given : Machine → Outcome → Turn
given m a = record { next = m; reply = a.reply; out = a.out; bytes = [] }

-- 02, L8: "It is given only when nothing is left to do, else 8"; a page changes the machine no more than a reading
abbrev pub page_turn : Machine → List ℕ → Printout
page_turn m bs = cond (ltb 0 (work_left m)) (printout (refused Unfinished) bs) (page_afresh m.mesh m.places bs)

abbrev pub posted : Machine → Printout → Turn
posted m a = record { next = m; reply = a.reply; out = []; bytes = a.bytes }

unfoldable pub machine : Machine → Call → Turn
machine m (put i k l) =
    let r = m.mesh.radius in
    in_place m i (in_layer m l (put_turn m i k (decomposed k r) (fit_of k r) l))
machine m (clear i) = in_place m i (clear_turn m i (get_or m.places i empty))
machine m (reweigh i v) = in_place m i (reweigh_turn m i v (get_or m.places i empty))
machine m (advance n) = advance_turn m n
machine m squeeze = squeeze_turn m
machine m (read ls r) = given m (read_turn m ls r)
machine m (finished ls v) = turn m (finished_turn m ls v)
machine m (page bs) = posted m (page_turn m bs)
machine m (lines bs) = posted m (text_answer (machine_lines m.mesh m.places) bs)

-- ---- the store

-- the two runs
pub record Store : Type 0 where
  pub floats : List Float
  pub words : List ℕ

-- what a call on them does: the runs that it leaves, its reply, and what is lent beside them as it is then
pub record Result : Type 0 where
  pub runs : Store
  pub reply : Answer
  pub out : List Float
  pub bytes : List ℕ

abbrev pub result : After → Result
result a = record { runs = record { floats = a.floats; words = a.words }; reply = a.reply; out = []; bytes = [] }

-- a reading leaves the store, and so does a page
abbrev pub seen : Store → Outcome → Result
seen s a = record { runs = s; reply = a.reply; out = a.out; bytes = [] }

abbrev pub pinned : Store → Printout → Result
pinned s a = record { runs = s; reply = a.reply; out = []; bytes = a.bytes }

-- each call is the function of its contract
unfoldable pub store : ℕ → Store → Call → Result
store q s (put i k l) = result (put_step_lem q s.floats s.words i k l)
store q s (clear i) = result (clear_step q s.floats s.words i)
store q s (reweigh i v) = result (reweigh_step q s.floats s.words i v)
store q s (advance n) = result (advance_step q s.floats s.words n)
store q s squeeze = result (squeeze_step q s.floats s.words)
store q s (read ls r) = seen s (read_step q s.floats s.words ls r)
store q s (finished ls v) = seen s (outcome (finished_step q s.floats s.words ls v) [])
store q s (page bs) = pinned s (page_step q s.floats s.words bs)
store q s (lines bs) = pinned s (write_step q s.floats s.words bs)

-- ---- the runs that hold a machine, with what lies past them: the freed words, which are zero, and the excess
abbrev pub past : Machine → List Float → List Float
past m xs = replicate m.freed +0 ++ xs

abbrev pub holding : ℕ → Machine → List Float → List ℕ → Store
holding q m xs ys =
    record { floats = floats_of m.mesh m.places (past m xs); words = words_of q m.mesh m.places ys }

-- ---- the sums: "charged is the need summed over accepted puts' answers"; a refused call answers no count
abbrev pub charged_by : Call → Answer → ℕ
charged_by (put i k l) r = get_or r.counts 1 0
charged_by (clear i) r = 0
charged_by (reweigh i v) r = 0
charged_by (advance n) r = 0
charged_by squeeze r = 0
charged_by (read ls x) r = 0
charged_by (finished ls v) r = 0
charged_by (page bs) r = 0
charged_by (lines bs) r = 0

-- the steps that an advance answers
abbrev pub done_by : Call → Answer → ℕ
done_by (put i k l) r = 0
done_by (clear i) r = 0
done_by (reweigh i v) r = 0
done_by (advance n) r = get_or r.counts 0 0
done_by squeeze r = 0
done_by (read ls x) r = 0
done_by (finished ls v) r = 0
done_by (page bs) r = 0
done_by (lines bs) r = 0

-- the left that an advance answers
abbrev pub left_in : Answer → ℕ
left_in r = get_or r.counts 1 0

-- ---- a list without its squeezes; and what its calls answer and write into what is lent beside the store
abbrev pub without : List Call → List Call
without [] = []
without (put i k l ∷ cs) = put i k l ∷ without cs
without (clear i ∷ cs) = clear i ∷ without cs
without (reweigh i v ∷ cs) = reweigh i v ∷ without cs
without (advance n ∷ cs) = advance n ∷ without cs
without (squeeze ∷ cs) = without cs
without (read ls r ∷ cs) = read ls r ∷ without cs
without (finished ls v ∷ cs) = finished ls v ∷ without cs
without (page bs ∷ cs) = page bs ∷ without cs
without (lines bs ∷ cs) = lines bs ∷ without cs

-- of one call: its reply, and what is lent beside the store as it is then
pub record Heard : Type 0 where
  pub reply : Answer
  pub out : List Float
  pub bytes : List ℕ

abbrev pub hearing : Result → Heard
hearing a = record { reply = a.reply; out = a.out; bytes = a.bytes }

-- what those calls of a list answer and write that a test picks
abbrev pub heard_of : (Call → Bool) → ℕ → Store → List Call → List Heard
heard_of pick q s [] = []
heard_of pick q s (c ∷ cs) =
    let rest = heard_of pick q (store q s c).runs cs in
    cond (pick c) (hearing (store q s c) ∷ rest) rest

-- all of them
abbrev pub answers : ℕ → Store → List Call → List Heard
answers q s cs = heard_of (λ c. true) q s cs

-- those that do not show how the vertices are numbered: a store's lines do
abbrev pub numberless : Call → Bool
numberless (put i k l) = true
numberless (clear i) = true
numberless (reweigh i v) = true
numberless (advance n) = true
numberless squeeze = true
numberless (read ls r) = true
numberless (finished ls v) = true
numberless (page bs) = true
numberless (lines bs) = false

-- and those of them that do not squeeze
abbrev pub steady : Call → Bool
steady (put i k l) = true
steady (clear i) = true
steady (reweigh i v) = true
steady (advance n) = true
steady squeeze = false
steady (read ls r) = true
steady (finished ls v) = true
steady (page bs) = true
steady (lines bs) = false

abbrev pub heard : ℕ → Store → List Call → List Heard
heard q s cs = heard_of steady q s cs
