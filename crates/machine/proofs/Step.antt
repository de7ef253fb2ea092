-- One step at a place: the store's and the machine's. Assumes nothing.
use mathlib.Core.Path.{◌≡◌, refl, sym, ap, ◌∙◌}
use mathlib.Core.List.{List, [], ◌∷◌, ◌++◌}
use mathlib.Core.Bool.{Bool, true, false, cond}
use Prim.Native.Nat.{ℕ, zero, suc, ◌+◌, ◌*◌, ◌-◌, ◌/◌, ◌%◌, ◌≤◌, ◌<◌, min}
use native.Mathlib.Nat.{add-zero, zero-mul, mul-zero, div-add-mod', mod-lt, div-lt_iff_lt-mul, suc-mul, le_refl, mul-le-mul, div-eq_of_lt, mod-eq_of_lt, div-eq-sub-div, mod-eq-sub-mod, div-eq_of_lt-le, mod-eq-sub-div-mul}
use native.Mathlib.Numerals.{add-one}
use native.Mathlib.Decide.{dec_lt}
use native.Mathlib.Omega.{arith}
use lib.ListN.{length, get_or, set, length-set}
use lib.Seq.{get_or-append-add, set-set, get_or-set_same, set-get_or}
use lib.Dec.{eqb}
use lib.Ieee.{Float, nan}
use borrow.Author.Tests.{lt-ltb, le-ltb, ne_eqb, eqb-true, eqb-false}
use Rattle.base.specs.Loops.{iterate}
use Rattle.volume.specs.Volume.{face_sum, volume_to}
use Rattle.volume.specs.Laws.{volume_suc}
use Rattle.kernel.specs.Field.{centre_of}
use Rattle.kernel.specs.declared.kernel.Kernel.{Kernel}
use Rattle.pieces.specs.Pieces.{part_at}
use Rattle.pieces.specs.declared.pieces.Pieces.{Pieces}
use Rattle.advance.specs.Steps.{Work, work, one_face}
use Rattle.machine.specs.Machine.{Mesh, Provenance, Place, empty, full, need}
use Rattle.machine.specs.Holding.{triangles, pieces_finished, cells}
use Rattle.machine.proofs.Sixteen.{laid_out_lem}
use Rattle.machine.proofs.Rows.{Width, set_append_add}
use Rattle.machine.proofs.Held.{get48, set_piece}

module _ (m : Mesh) (k : Kernel) (fit : Pieces) (hf : 0 < m.faces) where
  abbrev cellsFrom : ℕ → ℕ → ℕ → List Float
  cellsFrom n j t = cells m k fit n j t

  abbrev sum_at : List Float → ℕ → Float
  sum_at row t =
      face_sum (triangles m (t % m.faces)) (centre_of k) (get_or row (3 * (t / m.faces)) nan)
      (get_or row (3 * (t / m.faces) + 2) nan)

  abbrev Stepped : ℕ → ℕ → ℕ → Type 0
  Stepped n j t = set (cellsFrom n j t) (3 * (t / m.faces) + 2) (sum_at (cellsFrom n j t) t) ≡ cellsFrom n j (t + 1)

  here : (n j t : ℕ) → t < m.faces → Stepped (suc n) j t
  here n j t h =
      let s = (part_at fit j).sigma in
      let a : min m.faces t ≡ t = omega arith in
      let b : min m.faces (t + 1) ≡ t + 1 = omega arith in
      let d : t - m.faces ≡ 0 = omega arith in
      let e : t + 1 - m.faces ≡ 0 = omega arith in
      rw (div-eq_of_lt h, mod-eq_of_lt h, a, b, d, e)
      (ap (λ (v : Float). s ∷ (part_at fit j).coefficient ∷ v ∷ cellsFrom n (suc j) 0)
      (rw add-one (sym (volume_suc (triangles m) (centre_of k) s t))))

  beyond : (n j t : ℕ) → m.faces ≤ t
      → set (cellsFrom n (suc j) (t - m.faces)) (3 * ((t - m.faces) / m.faces) + 2)
      (sum_at (cellsFrom n (suc j) (t - m.faces)) (t - m.faces))
      ≡ cellsFrom n (suc j) (t - m.faces + 1)
      → Stepped (suc n) j t
  beyond n j t h ih =
      let f = m.faces in
      let x = (t - f) / f in
      let s = (part_at fit j).sigma in
      let v = volume_to (triangles m) (centre_of k) s f in
      let pre = s ∷ (part_at fit j).coefficient ∷ v ∷ [] in
      let r = cellsFrom n (suc j) (t - f) in
      let a : min f t ≡ f = omega arith in
      let b : min f (t + 1) ≡ f = omega arith in
      let e : t + 1 - f ≡ t - f + 1 = omega arith in
      let i : 3 * (t / f) + 2 ≡ 3 + (3 * x + 2) = rw (div-eq-sub-div hf h) (omega arith) in
      let o : 3 * (t / f) ≡ 3 + 3 * x = rw (div-eq-sub-div hf h) (omega arith) in
      rw (i, o, mod-eq-sub-mod h, a, b, e, get_or-append-add pre r (3 * x) nan, get_or-append-add pre r (3 * x + 2) nan)
      (set_append_add pre r (3 * x + 2) (sum_at r (t - f)) ∙ ap (λ (l : List Float). pre ++ l) ih)

  pub cells_step : (n j t : ℕ) → t < n * m.faces → Stepped n j t
  cells_step zero j t h = absurd (let z = rw zero-mul at h in omega arith)
  cells_step (suc n) j t h =
      go (dec_lt t m.faces)
      (λ (l : m.faces ≤ t). cells_step n (suc j) (t - m.faces) (let z = rw suc-mul at h in omega arith))
    where
      go : Dec (t < m.faces)
          → (m.faces ≤ t
          → set (cells m k fit n (suc j) (t - m.faces)) (3 * ((t - m.faces) / m.faces) + 2)
          (sum_at (cells m k fit n (suc j) (t - m.faces)) (t - m.faces))
          ≡ cells m k fit n (suc j) (t - m.faces + 1))
          → Stepped (suc n) j t
      go (yes y) ih = here n j t y
      go (no y) ih = beyond n j t (omega arith) (ih (omega arith))

-- a number and the next, divided
next : (q f k r : ℕ) → k * f + r ≡ q → r < f → (q / f ≡ k) × (q % f ≡ r)
next q f k r e h =
    let d : q / f ≡ k = div-eq_of_lt-le f (omega arith) (rw (add-one, suc-mul) (omega arith)) in
    (d, mod-eq-sub-div-mul q f ∙ (rw d (omega arith)))

module _ (q f : ℕ) (hf : 0 < f) where
  abbrev Moved : Bool → Type 0
  Moved b = (cond b (q / f + 1) (q / f) ≡ (q + 1) / f) × (cond b 0 (q % f + 1) ≡ (q + 1) % f)

  divided : Moved (eqb (q % f + 1) f)
  divided = go (eqb (q % f + 1) f) refl
    where
      go : (b : Bool) → eqb (q % f + 1) f ≡ b → Moved b
      go true e =
          let w = eqb-true (q % f + 1) f e in
          let n = next (q + 1) f (q / f + 1) 0 (rw (add-one (q / f), suc-mul) (omega (arith, div-add-mod' q f))) hf in
          (sym n.0, sym n.1)
      go false e =
          let w = eqb-false (q % f + 1) f e in
          let l : q % f < f = mod-lt q hf in
          let n = next (q + 1) f (q / f) (q % f + 1) (omega (arith, div-add-mod' q f)) (omega arith) in
          (sym n.0, sym n.1)

module _ (wd : ℕ) (fm : Width wd) where
  module _ (m : Mesh) (ss : List Place) (hs : length ss ≡ 32) (xs : List Float) (i : ℕ) (h : i < 32) (k : Kernel)
      (fit : Pieces) (o : Provenance) (ly : ℕ) (fw : fit.count ≤ 16) where
    abbrev stepAt : Work → Work
    stepAt = one_face (triangles m) (centre_of k) m.faces (225 + 48 * i) fit.count

    pos : (q : ℕ) → q < need m fit → 0 < m.faces
    pos q l = go m.faces refl
      where
        go : (f : ℕ) → m.faces ≡ f → 0 < m.faces
        go zero e = absurd (let z = rw (e, mul-zero) at l in omega arith)
        go (suc f) e = omega arith

    pub one_step : (q n : ℕ) → get_or ss i empty ≡ full k fit o q ly → q < need m fit → 0 < n
        → stepAt (work (laid_out_lem m ss xs) (pieces_finished m fit q) (q % m.faces) n)
        ≡ work (laid_out_lem m (set ss i (full k fit o (q + 1) ly)) xs) (pieces_finished m fit (q + 1)) ((q + 1) % m.faces)
        (n - 1)
    unfolding one_face
    one_step q n e l hn =
        let f = m.faces in
        let hf : 0 < f = pos q l in
        let nz : eqb f 0 ≡ false = ne_eqb f 0 (omega arith) in
        let fin : q / f < fit.count = (div-lt_iff_lt-mul hf).1 l in
        let low : q < 16 * f = let z : fit.count * f ≤ 16 * f = mul-le-mul fw (le_refl f) in omega arith in
        let j = 3 * (q / f) in
        let i1 : 225 + 48 * i + j + 2 ≡ 225 + (48 * i + (j + 2)) = omega arith in
        let i0 : 225 + 48 * i + j ≡ 225 + (48 * i + j) = omega arith in
        let d = divided q f hf in
        rw (
          nz,
          lt-ltb (q / f) fit.count fin,
          lt-ltb 0 n hn,
          i1,
          i0,
          d.0,
          d.1,
          get48 wd fm m ss hs xs i h (j + 2) (omega arith),
          get48 wd fm m ss hs xs i h j (omega arith),
          e,
        )
        (ap (λ (t : List Float). work t ((q + 1) / f) ((q + 1) % f) (n - 1))
        (set_piece wd fm m ss hs xs i h (full k fit o (q + 1) ly) (j + 2) _ (omega arith)
        (rw e (cells_step m k fit hf 16 0 q low)) (rw e refl)))

    finished-all : pieces_finished m fit (need m fit) ≡ fit.count
    finished-all = go (eqb m.faces 0) refl
      where
        go : (b : Bool) → eqb m.faces 0 ≡ b → cond b fit.count (need m fit / m.faces) ≡ fit.count
        go true e = refl
        go false e =
            let z = eqb-false m.faces 0 e in
            (next (need m fit) m.faces fit.count 0 (add-zero (need m fit)) (omega arith)).0

  module _ (m : Mesh) (ss : List Place) (hs : length ss ≡ 32) (xs : List Float) (i : ℕ) (h : i < 32) (k : Kernel)
      (fit : Pieces) (o : Provenance) (p ly : ℕ) (e : get_or ss i empty ≡ full k fit o p ly) (fw : fit.count ≤ 16)
      (hp : p ≤ need m fit) (n : ℕ) where
    abbrev at : ℕ → Work
    at u =
        work (laid_out_lem m (set ss i (full k fit o (p + u) ly)) xs) (pieces_finished m fit (p + u)) ((p + u) % m.faces)
        (n - u)

    at_zero : work (laid_out_lem m ss xs) (pieces_finished m fit p) (p % m.faces) n ≡ at 0
    at_zero =
        let z : set ss i (full k fit o p ly) ≡ ss = ap (set ss i) (sym e) ∙ set-get_or ss i empty in
        let s : n - 0 ≡ n = omega arith in
        rw (add-zero, s, z) refl

    abbrev stepK : Work → Work
    stepK = stepAt m ss hs xs i h k fit o ly fw

    at_suc : (u : ℕ) → p + u < need m fit → u < n → stepK (at u) ≡ at (suc u)
    at_suc u l hu =
        let ss1 = set ss i (full k fit o (p + u) ly) in
        let a : p + u + 1 ≡ p + suc u = omega arith in
        let b : n - u - 1 ≡ n - suc u = omega arith in
        one_step m ss1 (length-set ss i (full k fit o (p + u) ly) ∙ hs) xs i h k fit o ly fw (p + u) (n - u)
        (get_or-set_same ss i (full k fit o (p + u) ly) empty (rw hs h)) l (omega arith)
        ∙ rw (set-set, a, b) refl

    idle-all : stepK (at (need m fit - p)) ≡ at (need m fit - p)
    unfolding one_face
    idle-all =
        let q : p + (need m fit - p) ≡ need m fit = omega arith in
        rw (q, finished-all m ss hs xs i h k fit o ly fw, le-ltb fit.count fit.count (omega arith)) refl

    pub run_steps : (t : ℕ) → t ≤ n
        → iterate stepK t (work (laid_out_lem m ss xs) (pieces_finished m fit p) (p % m.faces) n)
        ≡ at (min t (need m fit - p))
    run_steps zero ht = let z : min 0 (need m fit - p) ≡ 0 = omega arith in rw z at_zero
    run_steps (suc t) ht = ap stepK (run_steps t (omega arith)) ∙ go (dec_lt t (need m fit - p))
      where
        go : Dec (t < need m fit - p) → stepK (at (min t (need m fit - p))) ≡ at (min (suc t) (need m fit - p))
        go (yes y) =
            let a : min t (need m fit - p) ≡ t = omega arith in
            let b : min (suc t) (need m fit - p) ≡ suc t = omega arith in
            rw (a, b) (at_suc t (omega arith) ht)
        go (no y) =
            let a : min t (need m fit - p) ≡ need m fit - p = omega arith in
            let b : min (suc t) (need m fit - p) ≡ need m fit - p = omega arith in
            rw (a, b) idle-all
