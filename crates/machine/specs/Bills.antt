-- 02, L3, one statement: `BillBefore`, at the end. "The bill is never below what puts of the same kernels charge or
-- what a list of them needs, whatever the radius." It speaks of the answers of the calls alone: of the bill, of the
-- puts and of a list. s is the store that an opening left, verts and faces are the counts of its mesh. Definitions
-- only.
use Rattle.std.specs.Prelude.{◌≡◌, true, ◌⊎◌, List, [], ◌∷◌, ◌++◌, map, ℕ, zero, suc, ◌*◌, ◌/◌, ◌%◌, ◌^◌, ◌≤◌, ◌<◌, length, Float}
use Rattle.std.specs.Float.{nan}
use Rattle.base.specs.Answers.{Answer, refused, counted}
use Rattle.base.specs.declared.refusal.Refusal.TheVariants.{Unfinished, ShortList}
use Rattle.kernel.specs.declared.kernel.Kernel.{Kernel}
use Rattle.kernel.specs.Kernels.{kernel_at}
use Rattle.pieces.specs.Pieces.{stays}
use Rattle.density.specs.declared.convention.Convention.{Convention}
use Rattle.bill.specs.Bill.{bill_steps, bill_floats, bill_of}
use Rattle.layout.specs.Layout.{width}
use Rattle.store.specs.Calls.{open_step}
use Rattle.readings.specs.Readings.{list}
use Rattle.machine.specs.Machine.{open_row}
use Rattle.machine.specs.Holding.{flat}
use Rattle.machine.specs.Calls.{Call, put, clear, reweigh, advance, squeeze, read, finished, page, lines, Store, store}
use Rattle.machine.specs.Events.{leaves, charged_in}
use Rattle.machine.specs.Beginnings.{leaving}

-- ---- the kernels of a list

-- n kernels from i on; all that are billed
abbrev pub kernels_from : List Float → ℕ → ℕ → List Kernel
kernels_from kernels zero i = []
kernels_from kernels (suc n) i = kernel_at kernels i ∷ kernels_from kernels n (suc i)

abbrev pub kernels_in : List Float → List Kernel
kernels_in kernels = kernels_from kernels (length kernels / 6) 0

-- the same kernels in another order
pub data Reordered : List Kernel → List Kernel → Type 0 where
  none : Reordered [] []
  keep : (k : Kernel) {js ks : List Kernel} → Reordered js ks → Reordered (k ∷ js) (k ∷ ks)
  swap : (j k : Kernel) {js ks : List Kernel} → Reordered js ks → Reordered (j ∷ k ∷ js) (k ∷ j ∷ ks)
  then : {js ks ls : List Kernel} → Reordered js ks → Reordered ks ls → Reordered js ls

-- "a kernel that stays or has a NaN exponent"
abbrev pub Exact : Kernel → Type 0
Exact k = (stays k.alpha ≡ true) ⊎ (k.alpha ≡ nan)

-- it holds of each of a list
abbrev pub Every : {A : Type 0} → (A → Type 0) → List A → Type 0
Every P [] = Unit {0}
Every P (x ∷ xs) = P x × Every P xs

-- ---- what a list of calls puts, and where

-- the kernel that a call puts, accepted or not
abbrev pub put_by : Call → List Kernel
put_by (put i k l) = k ∷ []
put_by (clear i) = []
put_by (reweigh i v) = []
put_by (advance n) = []
put_by squeeze = []
put_by (read ls r) = []
put_by (finished ls v) = []
put_by (page bs) = []
put_by (lines bs) = []

abbrev pub put_in : List Call → List Kernel
put_in cs = flat (map put_by cs)

-- the place that a call fills or empties
abbrev pub place_by : Call → List ℕ
place_by (put i k l) = i ∷ []
place_by (clear i) = i ∷ []
place_by (reweigh i v) = []
place_by (advance n) = []
place_by squeeze = []
place_by (read ls r) = []
place_by (finished ls v) = []
place_by (page bs) = []
place_by (lines bs) = []

abbrev pub places_in : List Call → List ℕ
places_in cs = flat (map place_by cs)

-- each is one of the store's 32
abbrev pub InStore : List ℕ → Type 0
InStore is = Every (λ i. i < 32) is

-- the layer that a call puts a kernel in
abbrev pub layer_by : Call → List ℕ
layer_by (put i k l) = l ∷ []
layer_by (clear i) = []
layer_by (reweigh i v) = []
layer_by (advance n) = []
layer_by squeeze = []
layer_by (read ls r) = []
layer_by (finished ls v) = []
layer_by (page bs) = []
layer_by (lines bs) = []

abbrev pub layers_in : List Call → List ℕ
layers_in cs = flat (map layer_by cs)

-- each is one of the sixteen
abbrev pub InSixteen : List ℕ → Type 0
InSixteen ls = Every (λ l. l < 16) ls

-- no two are the same
abbrev pub Apart : List ℕ → Type 0
Apart [] = Unit {0}
Apart (i ∷ is) = Every (λ j. j ≡ i → ⊥) is × Apart is

-- ---- the answer of a list of a set of layers that is read after the calls cs, into a run
abbrev pub list_after : ℕ → Store → List Call → ℕ → Convention → List Float → Answer
list_after q s cs layers v run = (store q (leaves q s cs) (read layers (list v run))).reply

-- ---- what the calls cs charge, and what a list then needs, beside so many steps and floats

-- never more: a run of so many floats is long enough for a list, and a list that is answered has no more; of every set
-- of layers that 16 lets pass
pub record Covered (q : ℕ) (s : Store) (cs : List Call) (steps floats : ℕ) : Type 0 where
  pub charged : charged_in q s cs ≤ steps
  pub room : (layers : ℕ) → layers < 2 ^ 16 → (v : Convention) (run : List Float) → floats ≤ length run
      → (list_after q s cs layers v run ≡ refused Unfinished → ⊥) → (list_after q s cs layers v run).refusal ≡ 0
  pub listed : (layers : ℕ) → layers < 2 ^ 16 → (v : Convention) (run : List Float) (pieces : ℕ)
      → list_after q s cs layers v run ≡ counted (pieces ∷ []) → 6 * pieces ≤ floats

-- just as much; of a list of all sixteen layers, where each place is filled or emptied once at most: a shorter run is
-- too short for it
pub record Met (q : ℕ) (s : Store) (cs : List Call) (steps floats : ℕ) : Type 0 where
  pub charged : charged_in q s cs ≡ steps
  pub room : Apart (places_in cs) → (v : Convention) (run : List Float) → length run < floats
      → (list_after q s cs 65535 v run ≡ refused Unfinished → ⊥) → list_after q s cs 65535 v run ≡ refused ShortList
  pub listed : Apart (places_in cs) → (v : Convention) (run : List Float) (pieces : ℕ)
      → list_after q s cs 65535 v run ≡ counted (pieces ∷ []) → 6 * pieces ≡ floats

-- ---- an accepted bill, of so many steps and floats
pub record Due (q : ℕ) (s : Store) (kernels : List Float) (steps floats : ℕ) : Type 0 where
  -- "never below what puts of the same kernels charge or what a list of them needs": puts of these kernels or of some,
  -- in any order and into any places and layers, the same one twice or none of the store's, and any other calls between
  -- them
  pub never-below : (cs : List Call) (rest : List Kernel) → Reordered (put_in cs ++ rest) (kernels_in kernels)
      → Covered q s cs steps floats
  -- "For a kernel that stays or has a NaN exponent both are exact": each is put into one of the store's places, in one
  -- of the sixteen layers
  pub exact : Every Exact (kernels_in kernels) → (cs : List Call) → Reordered (put_in cs) (kernels_in kernels)
      → InStore (places_in cs) → InSixteen (layers_in cs) → Met q s cs steps floats

-- ---- every list of kernels, on this mesh
pub record BillHolds (q verts faces : ℕ) (s : Store) (kernels : List Float) : Type 0 where
  -- "Any number of kernels up to 32 may be billed": on a mesh that can be opened, 9 and 15 alone refuse
  pub accepted : length kernels % 6 ≡ 0 → length kernels / 6 ≤ 32
      → bill_of kernels verts faces ≡ counted (bill_steps kernels faces ∷ bill_floats kernels ∷ [])
  pub due : (steps floats : ℕ) → bill_of kernels verts faces ≡ counted (steps ∷ floats ∷ [])
      → Due q s kernels steps floats

-- ---- "whatever the radius": r is any float at all. xs and ks are the coordinates and corners of an accepted opening,
-- fs and ws the runs lent to it
abbrev pub BillBefore : Type 0
BillBefore =
    (r : Float) (xs : List Float) (ks : List ℕ) (fs : List Float) (ws : List ℕ)
    → open_row width xs ks (length fs) (length ws) ≡ 0 → (kernels : List Float)
    → BillHolds width (length xs / 3) (length ks / 3) (leaving (open_step width fs ws r xs ks)) kernels
