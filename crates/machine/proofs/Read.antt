-- What a store holds is what working afresh gives: all but the volumes at any time, the volumes too where no work is
-- left. Assumes nothing.
use mathlib.Core.Path.{◌≡◌, refl, sym, ap, subst, ◌∙◌}
use mathlib.Core.List.{List, [], ◌∷◌, ◌++◌, map, map-id, map-append, append_assoc, append-nil}
use Prim.Native.Nat.{ℕ, zero, suc, ◌+◌, ◌*◌, ◌-◌, ◌≤◌, ◌<◌, min}
use native.Mathlib.Nat.{zero-mul, suc-mul, le_refl, mul-le-mul}
use native.Mathlib.Omega.{arith}
use lib.ListN.{length, take, get_or}
use lib.Seq.{get_or-append-add, take-suc, take_all}
use lib.Ieee.{Float, nan}
use Rattle.volume.specs.Volume.{volume_to}
use Rattle.kernel.specs.Field.{centre_of}
use Rattle.kernel.specs.declared.kernel.Kernel.{Kernel}
use Rattle.pieces.specs.Pieces.{part_at}
use Rattle.pieces.specs.declared.pieces.Pieces.{Pieces}
use Rattle.readings.specs.Readings.{Part, bare, held_part, held_at, held_all_lem}
use Rattle.machine.specs.Machine.{Mesh, Provenance, own, carried, Place, empty, full, need, left_place, left_sum}
use Rattle.machine.specs.Holding.{triangles, cells, place_row, words_of}
use Rattle.machine.specs.Fresh.{fit_afresh}
use Rattle.machine.proofs.Rows.{Width}
use Rattle.machine.proofs.Sixteen.{laid_out_lem}
use Rattle.machine.proofs.Parts.{fresh_part, fresh_at, fresh_place, fresh_all}
use Rattle.machine.specs.Valid.{FittedBy, Within, Valid}
use Rattle.machine.proofs.Held.{get7, get48, status_held}

-- ---- a place's cells: n pieces from j on, with t steps; u counts from j
module _ (m : Mesh) (k : Kernel) (fit : Pieces) where
  -- sigma and coefficient, whatever is done
  cell-sigma : (n j t u : ℕ) → u < n → get_or (cells m k fit n j t) (3 * u) nan ≡ (part_at fit (j + u)).sigma
  cell-sigma zero j t u h = absurd (omega arith)
  cell-sigma (suc n) j t zero h = let e : j + 0 ≡ j = omega arith in rw e refl
  cell-sigma (suc n) j t (suc u) h =
      let i : 3 * suc u ≡ 3 + 3 * u = omega arith in
      let e : j + suc u ≡ suc j + u = omega arith in
      rw (i, e)
      (get_or-append-add
      ((part_at fit j).sigma ∷ (part_at fit j).coefficient
      ∷ volume_to (triangles m) (centre_of k) (part_at fit j).sigma (min m.faces t) ∷ [])
      (cells m k fit n (suc j) (t - m.faces)) (3 * u) nan
      ∙ cell-sigma n (suc j) (t - m.faces) u (omega arith))

  cell-coefficient : (n j t u : ℕ) → u < n
      → get_or (cells m k fit n j t) (3 * u + 1) nan ≡ (part_at fit (j + u)).coefficient
  cell-coefficient zero j t u h = absurd (omega arith)
  cell-coefficient (suc n) j t zero h = let e : j + 0 ≡ j = omega arith in rw e refl
  cell-coefficient (suc n) j t (suc u) h =
      let i : 3 * suc u + 1 ≡ 3 + (3 * u + 1) = omega arith in
      let e : j + suc u ≡ suc j + u = omega arith in
      rw (i, e)
      (get_or-append-add
      ((part_at fit j).sigma ∷ (part_at fit j).coefficient
      ∷ volume_to (triangles m) (centre_of k) (part_at fit j).sigma (min m.faces t) ∷ [])
      (cells m k fit n (suc j) (t - m.faces)) (3 * u + 1) nan
      ∙ cell-coefficient n (suc j) (t - m.faces) u (omega arith))

  -- the volume over all faces, of a piece that the steps reach past
  cell-volume : (n j t u : ℕ) → u < n → suc u * m.faces ≤ t
      → get_or (cells m k fit n j t) (3 * u + 2) nan
      ≡ volume_to (triangles m) (centre_of k) (part_at fit (j + u)).sigma m.faces
  cell-volume zero j t u h l = absurd (omega arith)
  cell-volume (suc n) j t zero h l =
      let z = rw (suc-mul, zero-mul) at l in
      let e : j + 0 ≡ j = omega arith in
      let a : min m.faces t ≡ m.faces = omega arith in
      rw (e, a) refl
  cell-volume (suc n) j t (suc u) h l =
      let z = rw (suc-mul (suc u) m.faces) at l in
      let i : 3 * suc u + 2 ≡ 3 + (3 * u + 2) = omega arith in
      let e : j + suc u ≡ suc j + u = omega arith in
      rw (i, e)
      (get_or-append-add
      ((part_at fit j).sigma ∷ (part_at fit j).coefficient
      ∷ volume_to (triangles m) (centre_of k) (part_at fit j).sigma (min m.faces t) ∷ [])
      (cells m k fit n (suc j) (t - m.faces)) (3 * u + 2) nan
      ∙ cell-volume n (suc j) (t - m.faces) u (omega arith) (omega arith))

-- the pieces of a valid place are those with which fresh working starts
pub fit_afresh_lem : (radius : Float) (k : Kernel) (fit : Pieces) (o : Provenance) → FittedBy radius k fit o
    → fit ≡ fit_afresh radius k fit o
fit_afresh_lem radius k fit own f = f
fit_afresh_lem radius k fit carried f = refl

-- the filled places of ts are so in ss
abbrev pub There : List Place → List Place → Type 0
There ts ss =
    (i : ℕ) (k : Kernel) (fit : Pieces) (o : Provenance) (p l : ℕ)
    → get_or ts i empty ≡ full k fit o p l → get_or ss i empty ≡ full k fit o p l

-- ---- the floats hold all places ss, the words only the places ts that a reading sees
module _
    (wd : ℕ) (fm : Width wd) (m : Mesh) (ss ts : List Place) (hs : length ss ≡ 32) (v : Valid m ts)
    (there : There ts ss) (xs : List Float) (ys : List ℕ) where
  abbrev FS : List Float
  FS = laid_out_lem m ss xs

  abbrev WS : List ℕ
  WS = words_of wd m ts ys

  module _ (i : ℕ) (h : i < 32) (k : Kernel) (fit : Pieces) (o : Provenance) (p l : ℕ)
      (e : get_or ts i empty ≡ full k fit o p l) where
    few-in : fit.count ≤ 16
    few-in = (subst (Within m) e (v.within i)).few

    seven_at : (j : ℕ) → j < 7
        → get_or FS (1 + (7 * i + j)) nan
        ≡ get_or
        (get_or k.c 0 nan ∷ get_or k.c 1 nan ∷ get_or k.c 2 nan ∷ k.sigma ∷ k.w ∷ k.alpha ∷ fit.error ∷ []) j nan
    seven_at j hj = rw (get7 wd fm m ss hs xs i h j hj, there i k fit o p l e) refl

    pub bare-held : (j : ℕ) → j < fit.count → bare (held_part FS i j) ≡ bare (fresh_part m k fit j)
    bare-held j hj =
        let z : 0 + j ≡ j = omega arith in
        let s0 : get_or FS (225 + 48 * i + 3 * j) nan ≡ (part_at fit j).sigma
        = (let q : 225 + 48 * i + 3 * j ≡ 225 + (48 * i + 3 * j) = omega arith in
        rw (q, get48 wd fm m ss hs xs i h (3 * j) (omega (arith, few-in)), there i k fit o p l e)
        (rw z at (cell-sigma m k fit 16 0 p j (omega (arith, few-in))))) in
        let s1 : get_or FS (225 + 48 * i + 3 * j + 1) nan ≡ (part_at fit j).coefficient
        = (let q : 225 + 48 * i + 3 * j + 1 ≡ 225 + (48 * i + (3 * j + 1)) = omega arith in
        rw (q, get48 wd fm m ss hs xs i h (3 * j + 1) (omega (arith, few-in)), there i k fit o p l e)
        (rw z at (cell-coefficient m k fit 16 0 p j (omega (arith, few-in))))) in
        let c0 : 1 + 7 * i ≡ 1 + (7 * i + 0) = omega arith in
        let c1 : 2 + 7 * i ≡ 1 + (7 * i + 1) = omega arith in
        let c2 : 3 + 7 * i ≡ 1 + (7 * i + 2) = omega arith in
        let a : 5 + 7 * i ≡ 1 + (7 * i + 4) = omega arith in
        let b : 6 + 7 * i ≡ 1 + (7 * i + 5) = omega arith in
        rw (
          s1,
          s0,
          c1,
          c2,
          a,
          b,
          c0,
          seven_at 0 (omega arith),
          seven_at 1 (omega arith),
          seven_at 2 (omega arith),
          seven_at 4 (omega arith),
          seven_at 5 (omega arith),
        ) refl

    pub volume_held : p ≡ need m fit → (j : ℕ) → j < fit.count → (held_part FS i j).volume ≡ (fresh_part m k fit j).volume
    volume_held fin j hj =
        let q : 225 + 48 * i + 3 * j + 2 ≡ 225 + (48 * i + (3 * j + 2)) = omega arith in
        let z : 0 + j ≡ j = omega arith in
        let reach : suc j * m.faces ≤ fit.count * m.faces = mul-le-mul hj (le_refl m.faces) in
        rw (q, get48 wd fm m ss hs xs i h (3 * j + 2) (omega (arith, few-in)), there i k fit o p l e)
        (rw z at (cell-volume m k fit 16 0 p j (omega (arith, few-in)) (omega arith)))

  -- by any function g of a part on which the two agree
  module _ {B : Type 0} (g : Part → B)
      (ag : (i : ℕ) → i < 32 → (k : Kernel) (fit : Pieces) (o : Provenance) (p l : ℕ)
      → get_or ts i empty ≡ full k fit o p l → (j : ℕ) → j < fit.count → g (held_part FS i j) ≡ g (fresh_part m k fit j))
    where
      parts-to : (i : ℕ) → i < 32 → (k : Kernel) (fit : Pieces) (o : Provenance) (p l : ℕ)
          → get_or ts i empty ≡ full k fit o p l → (j : ℕ) → j ≤ fit.count
          → map g (held_at FS i j) ≡ map g (fresh_at m k fit j)
      parts-to i h k fit o p l e zero hj = refl
      parts-to i h k fit o p l e (suc j) hj =
          rw (
            map-append g (held_at FS i j) (held_part FS i j ∷ []),
            parts-to i h k fit o p l e j (omega arith),
            map-append g (fresh_at m k fit j) (fresh_part m k fit j ∷ []),
          )
          (ap (λ (b : B). map g (fresh_at m k fit j) ++ (b ∷ [])) (ag i h k fit o p l e j hj))

      place_held : (i : ℕ) → i < 32 → (s : Place) → get_or ts i empty ≡ s → Within m s
          → map g (held_at FS i (get_or (place_row wd m s) 0 0 - 1)) ≡ map g (fresh_place m s)
      place_held i h empty e w = refl
      place_held i h (full k fit o p l) e w =
          let n : 1 + fit.count - 1 ≡ fit.count = omega arith in
          rw n
          (parts-to i h k fit o p l e fit.count (omega arith)
          ∙ ap (λ (f : Pieces). map g (fresh_at m k f f.count)) (fit_afresh_lem m.radius k fit o w.of_kernel))

      fresh-snoc : (l : List Place) (s : Place) → fresh_all m (l ++ (s ∷ [])) ≡ fresh_all m l ++ fresh_place m s
      fresh-snoc [] s = append-nil (fresh_place m s)
      fresh-snoc (x ∷ l) s =
          ap (λ (t : List Part). fresh_place m x ++ t) (fresh-snoc l s)
          ∙ sym (append_assoc (fresh_place m x) (fresh_all m l) (fresh_place m s))

      held_to : (n : ℕ) → n ≤ 32 → map g (held_all_lem wd FS WS n) ≡ map g (fresh_all m (take n ts))
      unfolding held_all_lem
      held_to zero h = refl
      held_to (suc n) h =
          rw (
            status_held wd fm m ts v.places ys n h,
            map-append g (held_all_lem wd FS WS n) (held_at FS n (get_or (place_row wd m (get_or ts n empty)) 0 0 - 1)),
            held_to n (omega arith),
            place_held n h (get_or ts n empty) refl (v.within n),
            take-suc ts n empty (rw v.places h),
            fresh-snoc (take n ts) (get_or ts n empty),
            map-append g (fresh_all m (take n ts)) (fresh_place m (get_or ts n empty)),
          ) refl

      held_all : map g (held_all_lem wd FS WS 32) ≡ map g (fresh_all m ts)
      held_all =
          held_to 32 (omega arith)
          ∙ ap (λ (l : List Place). map g (fresh_all m l)) (take_all 32 ts (rw v.places (omega arith)))

  -- but for volumes, whatever is left
  pub bare_all : map bare (held_all_lem wd FS WS 32) ≡ map bare (fresh_all m ts)
  bare_all = held_all bare bare-held

  none_left : (l : List Place) (i : ℕ) → left_sum m l ≡ 0 → left_place m (get_or l i empty) ≡ 0
  none_left [] i e = refl
  none_left (s ∷ l) zero e = omega arith
  none_left (s ∷ l) (suc i) e = none_left l i (omega arith)

  -- the volumes too, with nothing left
  module _ (none : left_sum m ts ≡ 0) where
    agree : (i : ℕ) → i < 32 → (k : Kernel) (fit : Pieces) (o : Provenance) (p l : ℕ)
        → get_or ts i empty ≡ full k fit o p l → (j : ℕ) → j < fit.count → held_part FS i j ≡ fresh_part m k fit j
    agree i h k fit o p l e j hj =
        let z : need m fit - p ≡ 0 = subst (λ (s : Place). left_place m s ≡ 0) e (none_left ts i none) in
        let y = (subst (Within m) e (v.within i)).steps in
        ap (λ (b : Kernel). record { kernel = b; volume = (held_part FS i j).volume }) (bare-held i h k fit o p l e j hj)
        ∙ ap (λ (x : Float). record { kernel = (fresh_part m k fit j).kernel; volume = x })
        (volume_held i h k fit o p l e (omega arith) j hj)

    pub complete_all : held_all_lem wd FS WS 32 ≡ fresh_all m ts
    complete_all = sym (map-id (held_all_lem wd FS WS 32)) ∙ (held_all (λ (x : Part). x) agree ∙ map-id (fresh_all m ts))

    -- place by place
    pub complete_place_lem : (i : ℕ) → i < 32 → (s : Place) → get_or ts i empty ≡ s → Within m s
        → held_at FS i (get_or (place_row wd m s) 0 0 - 1) ≡ fresh_place m s
    complete_place_lem i h s e w =
        sym (map-id (held_at FS i (get_or (place_row wd m s) 0 0 - 1)))
        ∙ (place_held (λ (x : Part). x) agree i h s e w ∙ map-id (fresh_place m s))
