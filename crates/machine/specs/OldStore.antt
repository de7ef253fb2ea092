-- 02, L6: "The claims here take old runs as the old store's opening and calls left them, whole": the calls on a store
-- of the form before L5, with three words to a place, and its machine. Definitions only.
use Rattle.std.specs.Prelude.{◌≡◌, cond, List, [], ◌∷◌, ℕ, ◌≤◌, ltb, Float}
use Rattle.base.specs.Answers.{done}
use Rattle.kernel.specs.declared.kernel.Kernel.{Kernel}
use Rattle.pieces.specs.declared.pieces.Pieces.{Pieces}
use Rattle.pieces.specs.Pieces.{decomposed}
use Rattle.pieces.specs.PieceLaws.{Clean}
use Rattle.layout.specs.Layout.{place_limit, radius_of}
use Rattle.layout.specs.Soundness.{place_check}
use Rattle.layout.specs.After.{After, after, guarded}
use Rattle.store.specs.Calls.{clear_step, reweigh_step}
use Rattle.store.specs.Puts.{put_floats, put_words}
use Rattle.squeeze.specs.Squeeze.{squeeze_step}
use Rattle.advance.specs.Steps.{advance_step}
use Rattle.readings.specs.Readings.{Reading}
use Rattle.carry.specs.Carry.{old_width}
use Rattle.machine.specs.Machine.{Provenance, Machine, put_into}
use Rattle.machine.specs.Calls.{Call, put, clear, reweigh, advance, squeeze, read, page, machine, Store, result}

-- what fits a kernel on a body of some radius: 01's decomposition and that with L2's powers are two of them
abbrev pub Fitter : Type 0
Fitter = Kernel → Float → Pieces

-- all that the claims ask of it: "So a kernel has at most 16 pieces", and the arrays are +0 past the last. `any_powers`
-- (proofs/Fitters.antt) shows it of 01's decomposition with any powers at all
pub record Fitting (fitter : Fitter) : Type 0 where
  pub few : (k : Kernel) (radius : Float) → (fitter k radius).count ≤ 16
  pub clean : (k : Kernel) (radius : Float) → Clean (fitter k radius)

-- "made with L2's powers": as today
abbrev pub Todays : Fitter → Type 0
Todays fitter = (k : Kernel) (radius : Float) → fitter k radius ≡ decomposed k radius

-- the calls on an old store: no put had a layer, and no reading a set of layers; reports of what is finished, a store's
-- lines and adoptions came later. A put has what fitted its kernel: one store may have had puts before L2 and since
pub data Old : Type 0 where
  puts : Fitter → ℕ → Kernel → Old
  clears : ℕ → Old
  reweighs : ℕ → Float → Old
  advances : ℕ → Old
  squeezes : Old
  reads : Reading → Old
  pages : List ℕ → Old

-- each as a call of today: "its puts in layer 0", and readings of all sixteen layers
abbrev pub nowadays : Old → Call
nowadays (puts fitter i k) = put i k 0
nowadays (clears i) = clear i
nowadays (reweighs i v) = reweigh i v
nowadays (advances n) = advance n
nowadays squeezes = squeeze
nowadays (reads r) = read 65535 r
nowadays (pages bs) = page bs

-- what fitted the kernels of a call's put, and of all puts of a list
abbrev pub OfPut : (Fitter → Type 0) → Old → Type 0
OfPut P (puts fitter i k) = P fitter
OfPut P (clears i) = Unit {0}
OfPut P (reweighs i v) = Unit {0}
OfPut P (advances n) = Unit {0}
OfPut P squeezes = Unit {0}
OfPut P (reads r) = Unit {0}
OfPut P (pages bs) = Unit {0}

abbrev pub OfPuts : (Fitter → Type 0) → List Old → Type 0
OfPuts P [] = Unit {0}
OfPuts P (c ∷ cs) = OfPut P c × OfPuts P cs

-- ---- the runs that a call on an old store leaves, by its contract at three words to a place
abbrev pub old_put : Fitter → List Float → List ℕ → ℕ → Kernel → After
old_put fitter fs ws i k =
    let fit = fitter k (radius_of fs) in
    guarded (place_check old_width fs ws i) fs ws (after done (put_floats fs i k fit) (put_words old_width ws i fit 0))

unfoldable pub old_store : Store → Old → Store
old_store s (puts fitter i k) = (result (old_put fitter s.floats s.words i k)).runs
old_store s (clears i) = (result (clear_step old_width s.floats s.words i)).runs
old_store s (reweighs i v) = (result (reweigh_step old_width s.floats s.words i v)).runs
old_store s (advances n) = (result (advance_step old_width s.floats s.words n)).runs
old_store s squeezes = (result (squeeze_step old_width s.floats s.words)).runs
old_store s (reads r) = s
old_store s (pages bs) = s

abbrev pub old_leaves : Store → List Old → Store
old_leaves s [] = s
old_leaves s (c ∷ cs) = old_leaves (old_store s c) cs

-- ---- its machine: as today's, but for a put's fit; o says where the pieces of its places count as coming from
unfoldable pub old_machine : Provenance → Machine → Old → Machine
old_machine o m (puts fitter i k) =
    cond (ltb i place_limit) (put_into m i k (fitter k m.mesh.radius) o 0) m
old_machine o m (clears i) = (machine m (clear i)).next
old_machine o m (reweighs i v) = (machine m (reweigh i v)).next
old_machine o m (advances n) = (machine m (advance n)).next
old_machine o m squeezes = (machine m squeeze).next
old_machine o m (reads r) = m
old_machine o m (pages bs) = m

abbrev pub old_after : Provenance → Machine → List Old → Machine
old_after o m [] = m
old_after o m (c ∷ cs) = old_after o (old_machine o m c) cs
