-- 02, L6: the machine of an old store whose puts were made with today's fit is that of today's calls, its puts in layer
-- 0; and no answer looks at what a carry leaves out. Assumes nothing.
use mathlib.Core.Path.{◌≡◌, refl, sym, ap, ◌∙◌}
use mathlib.Core.Bool.{Bool, true, false, cond}
use mathlib.Core.List.{List, [], ◌∷◌, map}
use Prim.Native.Nat.{ℕ, zero, suc}
use lib.Dec.{ltb, eqb}
use lib.ListN.{get_or, set}
use lib.Ieee.{Float}
use Rattle.base.specs.Answers.{refused}
use Rattle.base.specs.Loops.{iterate}
use Rattle.base.specs.declared.refusal.Refusal.TheVariants.{NoPlace}
use Rattle.pieces.specs.declared.pieces.Pieces.{Pieces}
use Rattle.pieces.specs.Pieces.{decomposed}
use Rattle.pieces.specs.FitEnd.{fit_of}
use Rattle.layout.specs.Layout.{width, place_limit}
use Rattle.machine.specs.Machine.{Mesh, Provenance, own, Place, empty, full, left_place, adv, bump, steps_of, Machine, Turn, turn, put_into, put_turn, clear_turn, weighed, reweigh_turn}
use Rattle.machine.specs.Holding.{place_row, words_of}
use Rattle.machine.specs.Calls.{Call, machine, Store, holding, answers}
use Rattle.machine.specs.Events.{after_all}
use Rattle.machine.specs.OldStore.{Todays, Old, puts, clears, reweighs, advances, squeezes, reads, pages, nowadays, OfPut, OfPuts, old_machine, old_after}
use Rattle.machine.specs.Beginnings.{carried_place, carried_over}
use Rattle.machine.specs.Valid.{Valid}
use Rattle.machine.proofs.Claim.{all_set}
use Rattle.machine.proofs.Carrying.{floats_same}
use Rattle.machine.proofs.Rows.{layered4}
use Rattle.machine.proofs.Unaltered.{remade, heard_by, store-heard}
use Rattle.machine.proofs.Renumber.{Paired, same-told}

-- ---- every kernel is in layer 0
abbrev layer_in : Place → ℕ
layer_in empty = 0
layer_in (full k fit o p l) = l

abbrev pub Low : List Place → Type 0
Low ss = (i : ℕ) → layer_in (get_or ss i empty) ≡ 0

low-set : (ss : List Place) (i : ℕ) (s : Place) → layer_in s ≡ 0 → Low ss → Low (set ss i s)
low-set ss i s e h = all_set (λ t. layer_in t ≡ 0) ss i s e h

low-adv : (u : ℕ) (s : Place) → layer_in (adv u s) ≡ layer_in s
low-adv u empty = refl
low-adv u (full k fit o p l) = refl

low-bump : (m : Mesh) (ss : List Place) → Low ss → Low (bump m ss)
low-bump m [] h = h
low-bump m (s ∷ ss) h = go (eqb (left_place m s) 0) (low-bump m ss (λ i. h (suc i)))
  where
    go : (b : Bool) → Low (bump m ss) → Low (cond b (s ∷ bump m ss) (adv 1 s ∷ ss))
    go true g zero = h zero
    go true g (suc i) = g i
    go false g zero = low-adv 1 s ∙ h zero
    go false g (suc i) = h (suc i)

low_bumps : (m : Mesh) (n : ℕ) (ss : List Place) → Low ss → Low (iterate (bump m) n ss)
low_bumps m zero ss h = h
low_bumps m (suc n) ss h = low-bump m (iterate (bump m) n ss) (low_bumps m n ss h)

module _ (m : Machine) (h : Low m.places) where
  abbrev at : ℕ → Place
  at i = get_or m.places i empty

  low_clear : (i : ℕ) (b : Bool) (s : Place) → Low (cond b (clear_turn m i s) (turn m (refused NoPlace))).next.places
  low_clear i true empty = h
  low_clear i true (full k fit o p l) = low-set m.places i empty refl h
  low_clear i false s = h

  low-reweigh : (i : ℕ) (v : Float) (b : Bool) (s : Place) → at i ≡ s
      → Low (cond b (reweigh_turn m i v s) (turn m (refused NoPlace))).next.places
  low-reweigh i v true empty e = h
  low-reweigh i v true (full k fit o p l) e =
      low-set m.places i (full (weighed k v) fit o p l) (sym (ap layer_in e) ∙ h i) h
  low-reweigh i v false s e = h

  low-next : (o : Provenance) (c : Old) → Low (old_machine o m c).places
  unfolding old_machine machine
  low-next o (puts fitter i k) = go (ltb i place_limit)
    where
      fit : Pieces
      fit = fitter k m.mesh.radius

      go : (b : Bool) → Low (cond b (put_into m i k fit o 0) m).places
      go true = low-set m.places i (full k fit o 0 0) refl h
      go false = h
  low-next o (clears i) = low_clear i (ltb i place_limit) (at i)
  low-next o (reweighs i v) = low-reweigh i v (ltb i place_limit) (at i) refl
  low-next o (advances n) = low_bumps m.mesh (steps_of m n) m.places h
  low-next o squeezes = h
  low-next o (reads r) = h
  low-next o (pages bs) = h

pub low_all : (o : Provenance) (cs : List Old) (m : Machine) → Low m.places → Low (old_after o m cs).places
low_all o [] m h = h
low_all o (c ∷ cs) m h = low_all o cs (old_machine o m c) (low-next m h o c)

-- ---- the machine of an old store that fitted as today is the machine of today's calls
same_next : (m : Machine) (c : Old) → OfPut Todays c → old_machine own m c ≡ (machine m (nowadays c)).next
unfolding old_machine machine
same_next m (puts fitter i k) same = rw (same k m.mesh.radius) (go (ltb i place_limit))
  where
    r : Float
    r = m.mesh.radius

    put : Turn
    put = put_turn m i k (decomposed k r) (fit_of k r) 0

    go : (b : Bool) → cond b put.next m ≡ (cond b put (turn m (refused NoPlace))).next
    go true = refl
    go false = refl
same_next m (clears i) same = refl
same_next m (reweighs i v) same = refl
same_next m (advances n) same = refl
same_next m squeezes same = refl
same_next m (reads r) same = refl
same_next m (pages bs) same = refl

pub same_after : (cs : List Old) → OfPuts Todays cs → (m : Machine)
    → old_after own m cs ≡ after_all m (map nowadays cs)
same_after [] same m = refl
same_after (c ∷ cs) same m =
    ap (λ (n : Machine). old_after own n cs) (same_next m c same.0)
    ∙ same_after cs same.1 (machine m (nowadays c)).next

-- ---- what a carry leaves out: where pieces come from, the sums, and the words that squeezes freed
module _ (m : Mesh) where
  row_same : (s : Place) → layer_in s ≡ 0 → place_row width m (carried_place s) ≡ place_row width m s
  row_same empty e = refl
  row_same (full k fit o p l) e =
      ap (λ (x : ℕ). place_row width m (full k fit o p x)) (sym e)

  rows_same : (ss : List Place) → Low ss → map (place_row width m) (map carried_place ss) ≡ map (place_row width m) ss
  rows_same [] h = refl
  rows_same (s ∷ ss) h = rw (row_same s (h zero), rows_same ss (λ i. h (suc i))) refl

  words_same : (ss : List Place) → Low ss → (ys : List ℕ)
      → words_of width m (map carried_place ss) ys ≡ words_of width m ss ys
  unfolding words_of
  words_same ss h ys = rw (rows_same ss h) refl

module _ (m : Machine) (v : Valid m.mesh m.places) (h : Low m.places) (exF : List Float) (exW : List ℕ) where
  -- nothing is freed in the new runs
  abbrev fresh : Machine
  fresh = remade m m.mesh.coords m.mesh.corners m.mesh.verts 0

  holds-fresh : holding width (carried_over m) exF exW ≡ holding width fresh exF exW
  holds-fresh = rw (floats_same m.mesh m.places exF, words_same m.mesh m.places h exW) refl

  pub carried_told : (ds : List Call)
      → answers width (holding width (carried_over m) exF exW) ds ≡ heard_by (λ c. true) m ds
  carried_told ds =
      let g = v.mesh in
      let p : Paired (λ c. true) m.mesh m.mesh.coords m.mesh.corners m.mesh.verts
      = record {
        alike = record { shape = g; was = g; same = λ f l. refl };
        verts = refl;
        used-same = refl;
        shown = λ bs e. refl;
      } in
      ap (λ (s : Store). answers width s ds) holds-fresh
      ∙ (store-heard width layered4 exF exW (λ c. true) ds fresh v
      ∙ same-told (λ c. true) ds m m.mesh.coords m.mesh.corners m.mesh.verts 0 p)
