-- What puts charge, and how many pieces the places then hold: sums over the kernels put. Assumes nothing.
use mathlib.Core.Path.{◌≡◌, refl, sym, ap, ◌∙◌}
use mathlib.Core.Bool.{Bool, true, false, cond}
use mathlib.Core.List.{List, [], ◌∷◌, ◌++◌}
use Prim.Native.Nat.{ℕ, zero, suc, ◌+◌, ◌*◌, ◌≤◌, ◌<◌}
use native.Mathlib.Nat.{add-mul}
use native.Mathlib.Decide.{dec_lt}
use native.Mathlib.Omega.{arith}
use lib.Dec.{eqb}
use lib.ListN.{length, get_or, set, length-append}
use lib.Seq.{get_or-set_other}
use lib.Ieee.{Float}
use borrow.Author.Tests.{lt-ltb, le-ltb, le-leb, lt-leb}
use Rattle.base.specs.Loops.{iterate}
use Rattle.base.specs.Answers.{refused}
use Rattle.base.specs.declared.refusal.Refusal.{Refusal}
use Rattle.base.specs.declared.refusal.Refusal.TheVariants.{NoPlace, NoLayer, Vacant}
use Rattle.kernel.specs.declared.kernel.Kernel.{Kernel}
use Rattle.pieces.specs.declared.pieces.Pieces.{Pieces}
use Rattle.pieces.specs.Pieces.{decomposed}
use Rattle.pieces.specs.PieceLaws.{same_pieces}
use Rattle.machine.specs.Machine.{Mesh, Provenance, own, carried, Place, empty, full, among, seen_place, seen_places, left_place, adv, bump, steps_of, Machine, Turn, turn, clear_turn, weighed, reweigh_turn, slim}
use Rattle.machine.specs.Fresh.{kernel_of, fit_afresh, work_all, pieces_of, all_pieces}
use Rattle.machine.specs.Calls.{Call, put, clear, reweigh, advance, squeeze, read, finished, page, lines, machine, holding, charged_by}
use Rattle.machine.specs.Events.{after_all, charged_in}
use Rattle.machine.specs.Valid.{Valid}
use Rattle.machine.specs.Bills.{Reordered, none, keep, swap, then, Every, put_by, put_in, place_by, places_in, InStore, layer_by, layers_in, InSixteen, Apart}
use Rattle.machine.proofs.Rows.{Layered}
use Rattle.machine.proofs.Claim.{one_call, kept}
use Rattle.machine.proofs.Listed.{pieces_length}

-- ---- a sum over kernels
abbrev pub sum_of : (Kernel → ℕ) → List Kernel → ℕ
sum_of f [] = 0
sum_of f (k ∷ ks) = f k + sum_of f ks

pub sum_append : (f : Kernel → ℕ) (js ks : List Kernel) → sum_of f (js ++ ks) ≡ sum_of f js + sum_of f ks
sum_append f [] ks = omega arith
sum_append f (k ∷ js) ks = omega (arith, sum_append f js ks)

pub sum_reordered : (f : Kernel → ℕ) {js ks : List Kernel} → Reordered js ks → sum_of f js ≡ sum_of f ks
sum_reordered f none = refl
sum_reordered f (keep k r) = omega (arith, sum_reordered f r)
sum_reordered f (swap j k r) = omega (arith, sum_reordered f r)
sum_reordered f (then r s) = sum_reordered f r ∙ sum_reordered f s

-- ---- the pieces of kernels, and of places
abbrev pub fits : Float → Kernel → ℕ
fits radius k = (decomposed k radius).count

abbrev held_one : Float → Place → ℕ
held_one radius empty = 0
held_one radius (full k fit o p l) = (fit_afresh radius k fit o).count

abbrev pub held_in_lem : Float → List Place → ℕ
held_in_lem radius [] = 0
held_in_lem radius (s ∷ ss) = held_one radius s + held_in_lem radius ss

pub pieces_held : (radius : Float) (ss : List Place) → length (all_pieces (work_all radius ss)) ≡ held_in_lem radius ss
pieces_held radius [] = refl
pieces_held radius (empty ∷ ss) = omega (arith, pieces_held radius ss)
pieces_held radius (full k fit o p l ∷ ss) =
    let f = fit_afresh radius k fit o in
    let n = pieces_length k f f.count in
    length-append (pieces_of (record { kernel = k; fit = f })) (all_pieces (work_all radius ss))
    ∙ omega (arith, n, pieces_held radius ss)

-- another weight gives no other pieces
same_count : (radius : Float) (k : Kernel) (fit : Pieces) (o : Provenance) (w : Float)
    → (fit_afresh radius (weighed k w) fit o).count ≡ (fit_afresh radius k fit o).count
same_count radius k fit own w =
    ap (λ (f : Pieces). f.count) (same_pieces k.c k.c k.sigma w k.w k.alpha radius)
same_count radius k fit carried w = refl

held-set : (radius : Float) (ss : List Place) (i : ℕ) (s : Place) → i < length ss
    → held_in_lem radius (set ss i s) + held_one radius (get_or ss i empty) ≡ held_in_lem radius ss + held_one radius s
held-set radius [] i s h = absurd (omega arith)
held-set radius (x ∷ ss) zero s h = omega arith
held-set radius (x ∷ ss) (suc i) s h = omega (arith, held-set radius ss i s (omega arith))

-- a reading of some layers sees no more pieces
seen_one : (radius : Float) (layers : ℕ) (s : Place) → held_one radius (seen_place layers s) ≤ held_one radius s
seen_one radius layers empty = omega arith
seen_one radius layers (full k fit o p l) = go (among l layers)
  where
    go : (b : Bool) → held_one radius (cond b (full k fit o p l) empty) ≤ (fit_afresh radius k fit o).count
    go true = omega arith
    go false = omega arith

pub seen_within : (radius : Float) (layers : ℕ) (ss : List Place)
    → held_in_lem radius (seen_places layers ss) ≤ held_in_lem radius ss
seen_within radius layers [] = omega arith
seen_within radius layers (s ∷ ss) = omega (arith, seen_one radius layers s, seen_within radius layers ss)

-- ---- a step of work keeps what a place holds, and empty places empty
held-adv : (radius : Float) (u : ℕ) (s : Place) → held_one radius (adv u s) ≡ held_one radius s
held-adv radius u empty = refl
held-adv radius u (full k fit o p l) = refl

held-bump : (radius : Float) (m : Mesh) (ss : List Place) → held_in_lem radius (bump m ss) ≡ held_in_lem radius ss
held-bump radius m [] = refl
held-bump radius m (s ∷ ss) = go (eqb (left_place m s) 0) (held-bump radius m ss)
  where
    go : (b : Bool) → held_in_lem radius (bump m ss) ≡ held_in_lem radius ss
        → held_in_lem radius (cond b (s ∷ bump m ss) (adv 1 s ∷ ss)) ≡ held_in_lem radius (s ∷ ss)
    go true h = omega (arith, h)
    go false h = omega (arith, held-adv radius 1 s)

empty_adv : (u : ℕ) (s : Place) → s ≡ empty → adv u s ≡ empty
empty_adv u s e = rw e refl

empty_bump : (m : Mesh) (ss : List Place) (j : ℕ) → get_or ss j empty ≡ empty → get_or (bump m ss) j empty ≡ empty
empty_bump m [] j e = refl
empty_bump m (s ∷ ss) j e = go (eqb (left_place m s) 0) (λ i. empty_bump m ss i) j e
  where
    go : (b : Bool) → ((i : ℕ) → get_or ss i empty ≡ empty → get_or (bump m ss) i empty ≡ empty)
        → (j : ℕ) → get_or (s ∷ ss) j empty ≡ empty → get_or (cond b (s ∷ bump m ss) (adv 1 s ∷ ss)) j empty ≡ empty
    go true h zero e = e
    go true h (suc j) e = h j e
    go false h zero e = empty_adv 1 s e
    go false h (suc j) e = e

module _ (radius : Float) (m : Mesh) (ss : List Place) where
  held-work : (n : ℕ) → held_in_lem radius (iterate (bump m) n ss) ≡ held_in_lem radius ss
  held-work zero = refl
  held-work (suc n) = held-bump radius m (iterate (bump m) n ss) ∙ held-work n

  empty-work : (n j : ℕ) → get_or ss j empty ≡ empty → get_or (iterate (bump m) n ss) j empty ≡ empty
  empty-work zero j e = e
  empty-work (suc n) j e = empty_bump m (iterate (bump m) n ss) j (empty-work n j e)

-- ---- one call

-- the pieces of kernels, and those of places, on a machine's radius
abbrev pub fits_in : Machine → List Kernel → ℕ
fits_in m ks = sum_of (fits m.mesh.radius) ks

abbrev pub held_by : Machine → List Place → ℕ
held_by m ss = held_in_lem m.mesh.radius ss

abbrev Vacancy : List Place → ℕ → Type 0
Vacancy ss i = get_or ss i empty ≡ empty

record Step (m : Machine) (c : Call) (t : Turn) : Type 0 where
  radius : t.next.mesh.radius ≡ m.mesh.radius
  faces : t.next.mesh.faces ≡ m.mesh.faces
  -- what it charges, and the pieces then held: at most those of the kernel it puts
  charge : charged_by c t.reply ≤ fits_in m (put_by c) * m.mesh.faces
  pieces : held_by m t.next.places ≤ held_by m m.places + fits_in m (put_by c)
  -- just those, where its place is one of the store's and its layer one of the sixteen; the pieces where that is empty
  charge-all : InStore (place_by c) → InSixteen (layer_by c)
      → charged_by c t.reply ≡ fits_in m (put_by c) * m.mesh.faces
  pieces-all : InStore (place_by c) → InSixteen (layer_by c) → Every (Vacancy m.places) (place_by c)
      → held_by m t.next.places ≡ held_by m m.places + fits_in m (put_by c)
  -- other places that are empty stay so
  still : (j : ℕ) → Every (λ i. i ≡ j → ⊥) (place_by c) → Vacancy m.places j → Vacancy t.next.places j

module _ (m : Machine) (hs : length m.places ≡ 32) where
  abbrev R : Float
  R = m.mesh.radius

  -- a refused put: its place is none of the store's, or its layer none of the sixteen
  not-put : (i : ℕ) (k : Kernel) (l : ℕ) (r : Refusal) → (i < 32 → l < 16 → ⊥) → Step m (put i k l) (turn m (refused r))
  not-put i k l r n =
      record {
        radius = refl;
        faces = refl;
        charge = omega arith;
        pieces = omega arith;
        charge-all = λ s b. absurd (n s.0 b.0);
        pieces-all = λ s b v. absurd (n s.0 b.0);
        still = λ j a v. v;
      }

  put_step : (i : ℕ) (k : Kernel) (l : ℕ) → Step m (put i k l) (machine m (put i k l))
  unfolding machine
  put_step i k l = go (dec_lt i 32) (dec_lt l 16)
    where
      go : Dec (i < 32) → Dec (l < 16) → Step m (put i k l) (machine m (put i k l))
      go (yes h) (yes b) =
          let fit = decomposed k R in
          let w = held-set R m.places i (full k fit own 0 l) (rw hs h) in
          let n : fits R k + 0 ≡ fits R k = omega arith in
          let e = ap (λ (a : ℕ). a * m.mesh.faces) n in
          rw (lt-ltb i 32 h, le-leb l 15 (omega arith))
          (record {
            radius = refl;
            faces = refl;
            charge = omega (arith, e);
            pieces = omega (arith, w);
            charge-all = λ s y. sym e;
            pieces-all = λ s y v. omega (arith, w, ap (held_one R) v.0);
            still = λ j a v. get_or-set_other m.places i j (full k fit own 0 l) empty (λ z. a.0 (sym z)) ∙ v;
          })
      go (yes h) (no b) = rw (lt-ltb i 32 h, lt-leb l 15 (omega arith)) (not-put i k l NoLayer (λ x y. b y))
      go (no h) b = rw (le-ltb i 32 (omega arith)) (not-put i k l NoPlace (λ x y. h x))

  -- a call that puts nothing, and after which the places hold as many pieces and are empty where they were
  quiet : (c : Call) → put_by c ≡ [] → (t : Turn) → t.next.mesh.radius ≡ R → t.next.mesh.faces ≡ m.mesh.faces
      → charged_by c t.reply ≡ 0 → held_by m t.next.places ≡ held_by m m.places
      → ((j : ℕ) → Vacancy m.places j → Vacancy t.next.places j) → Step m c t
  quiet c e t r f z h u =
      let a = ap (sum_of (fits R)) e in
      let g = ap (λ (x : ℕ). x * m.mesh.faces) a in
      record {
        radius = r;
        faces = f;
        charge = omega (arith, g, z);
        pieces = omega (arith, h);
        charge-all = λ s y. omega (arith, g, z);
        pieces-all = λ s y v. omega (arith, h, a);
        still = λ j s v. u j v;
      }

  -- a refused clear or reweigh, a reading and a report of what is finished change nothing
  idle : (c : Call) → put_by c ≡ [] → (t : Turn) → t.next ≡ m → charged_by c t.reply ≡ 0 → Step m c t
  idle c e t n z =
      quiet c e t (ap (λ (x : Machine). x.mesh.radius) n) (ap (λ (x : Machine). x.mesh.faces) n) z
      (ap (λ (x : Machine). held_in_lem R x.places) n) (λ j v. ap (λ (x : Machine). get_or x.places j empty) n ∙ v)

  clear_at : (i : ℕ) → i < 32 → (s : Place) → get_or m.places i empty ≡ s → Step m (clear i) (clear_turn m i s)
  clear_at i h empty e = idle (clear i) refl (turn m (refused Vacant)) refl refl
  clear_at i h (full k fit o p l) e =
      let w = held-set R m.places i empty (rw hs h) in
      record {
        radius = refl;
        faces = refl;
        charge = omega arith;
        pieces = omega (arith, w);
        charge-all = λ s y. omega arith;
        pieces-all = λ s y v. omega (arith, w, ap (held_one R) v.0);
        still = λ j a v. get_or-set_other m.places i j empty empty (λ z. a.0 (sym z)) ∙ v;
      }

  reweigh-at : (i : ℕ) (v : Float) → i < 32 → (s : Place) → get_or m.places i empty ≡ s
      → Step m (reweigh i v) (reweigh_turn m i v s)
  reweigh-at i v h empty e = idle (reweigh i v) refl (turn m (refused Vacant)) refl refl
  reweigh-at i v h (full k fit o p l) e =
      let w = held-set R m.places i (full (weighed k v) fit o p l) (rw hs h) in
      let u = ap (held_one R) e in
      let q = same_count R k fit o v in
      quiet (reweigh i v) refl (reweigh_turn m i v (full k fit o p l)) refl refl refl (omega (arith, w, u, q)) other
    where
      moved : Place
      moved = full (weighed k v) fit o p l

      other : (j : ℕ) → Vacancy m.places j → Vacancy (set m.places i moved) j
      other j u = get_or-set_other m.places i j moved empty apart ∙ u
        where
          apart : j ≡ i → ⊥
          apart z =
              let x = sym e ∙ (ap (λ (n : ℕ). get_or m.places n empty) (sym z) ∙ u) in
              let y : ◌≡◌ {A = ℕ} 1 0 = ap (λ (s : Place). length (kernel_of s)) x in
              omega arith

  step : (c : Call) → Step m c (machine m c)
  unfolding machine slim
  step (put i k l) = put_step i k l
  step (clear i) = go (dec_lt i 32)
    where
      go : Dec (i < 32) → Step m (clear i) (machine m (clear i))
      go (yes h) = rw (lt-ltb i 32 h) (clear_at i h (get_or m.places i empty) refl)
      go (no h) = rw (le-ltb i 32 (omega arith)) (idle (clear i) refl (turn m (refused NoPlace)) refl refl)
  step (reweigh i v) = go (dec_lt i 32)
    where
      go : Dec (i < 32) → Step m (reweigh i v) (machine m (reweigh i v))
      go (yes h) = rw (lt-ltb i 32 h) (reweigh-at i v h (get_or m.places i empty) refl)
      go (no h) = rw (le-ltb i 32 (omega arith)) (idle (reweigh i v) refl (turn m (refused NoPlace)) refl refl)
  step (advance n) =
      let u = steps_of m n in
      quiet (advance n) refl (machine m (advance n)) refl refl refl (held-work R m.mesh m.places u)
      (empty-work R m.mesh m.places u)
  step squeeze = quiet squeeze refl (machine m squeeze) refl refl refl refl (λ j v. v)
  step (read ls r) = idle (read ls r) refl (machine m (read ls r)) refl refl
  step (finished ls cv) = idle (finished ls cv) refl (machine m (finished ls cv)) refl refl
  step (page bs) = idle (page bs) refl (machine m (page bs)) refl refl
  step (lines bs) = idle (lines bs) refl (machine m (lines bs)) refl refl

-- ---- places of a list, each of which is apart from the others
every-split : {A : Type 0} (P : A → Type 0) (is js : List A) → Every P (is ++ js) → Every P is × Every P js
every-split P [] js a = (tt {0}, a)
every-split P (i ∷ is) js a = let t = every-split P is js a.1 in ((a.0, t.0), t.1)

one_apart : (i : ℕ) (is : List ℕ) (j : ℕ) (js : List ℕ) → Every (λ x. x ≡ i → ⊥) (is ++ (j ∷ js))
    → (j ≡ i → ⊥) × Every (λ x. x ≡ i → ⊥) (is ++ js)
one_apart i [] j js a = a
one_apart i (x ∷ is) j js a = let t = one_apart i is j js a.1 in (t.0, (a.0, t.1))

apart-each : (is : List ℕ) (j : ℕ) (js : List ℕ) → Apart (is ++ (j ∷ js))
    → Every (λ i. i ≡ j → ⊥) is × Apart (is ++ js)
apart-each [] j js a = (tt {0}, a.1)
apart-each (i ∷ is) j js a =
    let h = one_apart i is j js a.0 in
    let t = apart-each is j js a.1 in
    ((λ e. h.0 (sym e), t.0), (h.1, t.1))

apart-rest : (is js : List ℕ) → Apart (is ++ js) → Apart js
apart-rest [] js a = a
apart-rest (i ∷ is) js a = apart-rest is js a.1

-- ---- a list of calls
module _ (m : Machine) (v : Valid m.mesh m.places) (c : Call) where
  abbrev next : Machine
  next = (machine m c).next

  s : Step m c (machine m c)
  s = step m v.places c

  still-vacant : (js : List ℕ) → Apart (place_by c ++ js) → Every (Vacancy m.places) js
      → Every (Vacancy next.places) js
  still-vacant [] a e = tt {0}
  still-vacant (j ∷ js) a e =
      let t = apart-each (place_by c) j js a in
      (s.still j t.0 e.0, still-vacant js t.1 e.1)

  -- the kernels of a list and those of its rest, in the counts of the machine before the call
  all-fits : (cs : List Call) → fits_in m (put_in (c ∷ cs)) ≡ fits_in m (put_by c) + fits_in next (put_in cs)
  all-fits cs =
      sum_append (fits m.mesh.radius) (put_by c) (put_in cs)
      ∙ ap (λ (r : Float). fits_in m (put_by c) + sum_of (fits r) (put_in cs)) (sym s.radius)

  all-charge : (cs : List Call) → fits_in m (put_in (c ∷ cs)) * m.mesh.faces
      ≡ fits_in m (put_by c) * m.mesh.faces + fits_in next (put_in cs) * next.mesh.faces
  all-charge cs =
      ap (λ (n : ℕ). n * m.mesh.faces) (all-fits cs)
      ∙ (add-mul (fits_in m (put_by c)) (fits_in next (put_in cs)) m.mesh.faces
      ∙ ap (λ (n : ℕ). fits_in m (put_by c) * m.mesh.faces + fits_in next (put_in cs) * n) (sym s.faces))

  -- what places hold is the same by the radius of either machine
  same-held : (ss : List Place) → held_by next ss ≡ held_by m ss
  same-held ss = ap (λ (r : Float). held_in_lem r ss) s.radius

module _ (wd : ℕ) (fm : Layered wd) (exF : List Float) (exW : List ℕ) where
  pub charged_within : (cs : List Call) (m : Machine) → Valid m.mesh m.places
      → charged_in wd (holding wd m exF exW) cs ≤ fits_in m (put_in cs) * m.mesh.faces
  charged_within [] m v = omega arith
  charged_within (c ∷ cs) m v =
      let i = charged_within cs (machine m c).next (kept m v c).valid in
      rw (one_call wd fm m v exF exW c) (omega (arith, i, (s m v c).charge, all-charge m v c cs))

  pub charged_all : (cs : List Call) (m : Machine) → Valid m.mesh m.places
      → InStore (places_in cs) → InSixteen (layers_in cs)
      → charged_in wd (holding wd m exF exW) cs ≡ fits_in m (put_in cs) * m.mesh.faces
  charged_all [] m v p b = omega arith
  charged_all (c ∷ cs) m v p b =
      let t = every-split (λ j. j < 32) (place_by c) (places_in cs) p in
      let y = every-split (λ j. j < 16) (layer_by c) (layers_in cs) b in
      let i = charged_all cs (machine m c).next (kept m v c).valid t.1 y.1 in
      rw (one_call wd fm m v exF exW c) (omega (arith, i, (s m v c).charge-all t.0 y.0, all-charge m v c cs))

pub radius-after : (cs : List Call) (m : Machine) → Valid m.mesh m.places
    → (after_all m cs).mesh.radius ≡ m.mesh.radius
radius-after [] m v = refl
radius-after (c ∷ cs) m v = radius-after cs (machine m c).next (kept m v c).valid ∙ (s m v c).radius

pub held_within : (cs : List Call) (m : Machine) → Valid m.mesh m.places
    → held_by m (after_all m cs).places ≤ held_by m m.places + fits_in m (put_in cs)
held_within [] m v = omega arith
held_within (c ∷ cs) m v =
    let n = (machine m c).next in
    let i = held_within cs n (kept m v c).valid in
    let a = same-held m v c (after_all n cs).places in
    let b = same-held m v c n.places in
    omega (arith, i, a, b, (s m v c).pieces, all-fits m v c cs)

pub held_all : (cs : List Call) (m : Machine) → Valid m.mesh m.places
    → InStore (places_in cs) → InSixteen (layers_in cs) → Apart (places_in cs) → Every (Vacancy m.places) (places_in cs)
    → held_by m (after_all m cs).places ≡ held_by m m.places + fits_in m (put_in cs)
held_all [] m v p x o e = omega arith
held_all (c ∷ cs) m v p x o e =
    let n = (machine m c).next in
    let t = every-split (λ j. j < 32) (place_by c) (places_in cs) p in
    let y = every-split (λ j. j < 16) (layer_by c) (layers_in cs) x in
    let u = every-split (Vacancy m.places) (place_by c) (places_in cs) e in
    let w = still-vacant m v c (places_in cs) o u.1 in
    let i = held_all cs n (kept m v c).valid t.1 y.1 (apart-rest (place_by c) (places_in cs) o) w in
    let a = same-held m v c (after_all n cs).places in
    let b = same-held m v c n.places in
    omega (arith, i, a, b, (s m v c).pieces-all t.0 y.0 u.0, all-fits m v c cs)
