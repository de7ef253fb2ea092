-- The page of a store that holds a machine is the machine's, its masses worked afresh. Assumes nothing.
use Rattle.std.specs.Prelude.{Err}
use mathlib.Core.Path.{◌≡◌, refl, sym, ap, ◌∙◌}
use mathlib.Core.List.{List, [], ◌∷◌, ◌++◌, append-nil, append_assoc}
use mathlib.Core.Bool.{Bool, true, false, cond}
use Prim.Native.Nat.{ℕ, zero, suc, ◌+◌, ◌-◌, ◌≤◌, ◌<◌}
use native.Mathlib.Omega.{arith}
use lib.ListN.{length, take, get_or}
use lib.Seq.{take-suc, take_all, length-take-le}
use lib.Dec.{ltb, eqb}
use lib.Ieee.{Float}
use borrow.Author.Tests.{ltb-false, ne_eqb}
use Rattle.base.specs.Answers.{refused, printout, guarded_bytes, passed}
use Rattle.base.specs.declared.refusal.Refusal.TheVariants.{Unfinished}
use Rattle.pieces.specs.declared.pieces.Pieces.{Pieces}
use Rattle.readings.specs.Readings.{raw_mass_lem}
use Rattle.page.specs.Page.{Row, row, page_answer, row_at, held_rows, done_check, page_step}
use Rattle.machine.specs.Machine.{Mesh, Place, empty, full, left_sum}
use Rattle.machine.specs.Holding.{place_row, words_of}
use Rattle.machine.specs.Fresh.{fit_afresh, mass_of, pieces_of, fresh_row, fresh_rows, page_afresh}
use Rattle.machine.specs.Valid.{Within, Valid}
use Rattle.machine.proofs.Rows.{Width}
use Rattle.machine.proofs.Sixteen.{laid_out_lem}
use Rattle.machine.proofs.Held.{faces_held, status_held}
use Rattle.machine.proofs.Sane.{no_fault}
use Rattle.machine.proofs.Sweep.{left-held}
use Rattle.machine.proofs.Read.{fit_afresh_lem, complete_place_lem}
use Rattle.machine.proofs.Afresh.{place_mass}

module _ (wd : ℕ) (fm : Width wd) (m : Mesh) (ss : List Place) (v : Valid m ss) (xs : List Float) (ys : List ℕ) where
  abbrev FS : List Float
  FS = laid_out_lem m ss xs

  abbrev WS : List ℕ
  WS = words_of wd m ss ys

  -- one place more, behind
  rows_snoc : (i : ℕ) (l : List Place) (s : Place)
      → fresh_rows m i (l ++ (s ∷ [])) ≡ fresh_rows m i l ++ fresh_row m (i + length l) s
  rows_snoc i [] s = append-nil (fresh_row m i s) ∙ ap (λ (k : ℕ). fresh_row m k s) (let e : i ≡ i + 0 = omega arith in e)
  rows_snoc i (x ∷ l) s =
      let e : suc i + length l ≡ i + length (x ∷ l) = omega arith in
      ap (λ (t : List Row). fresh_row m i x ++ t)
      (rows_snoc (suc i) l s ∙ ap (λ (k : ℕ). fresh_rows m (suc i) l ++ fresh_row m k s) e)
      ∙ sym (append_assoc (fresh_row m i x) (fresh_rows m (suc i) l) (fresh_row m (i + length (x ∷ l)) s))

  module _ (none : left_sum m ss ≡ 0) where
    row-held : (i : ℕ) → i < 32 → (s : Place) → get_or ss i empty ≡ s → Within m s
        → row_at FS i (get_or (place_row wd m s) 0 0) ≡ fresh_row m i s
    row-held i h empty e w = refl
    row-held i h (full k fit o p l) e w =
        let n : eqb (1 + fit.count) 0 ≡ false = ne_eqb (1 + fit.count) 0 (λ z. omega arith) in
        let c : 1 + fit.count - 1 ≡ fit.count = omega arith in
        let a = ap raw_mass_lem
        (complete_place_lem wd fm m ss ss v.places v (λ j k fit o p l e. e) xs ys none i h (full k fit o p l) e w)
        ∙ place_mass m v.mesh k fit o p l in
        let g = fit_afresh m.radius k fit o in
        rw (n, a, c)
        (ap (λ (f : Pieces). row i f.count (mass_of m (pieces_of (record { kernel = k; fit = g }))) ∷ [])
        (fit_afresh_lem m.radius k fit o w.of_kernel))

    rows-to : (n : ℕ) → n ≤ 32 → held_rows wd FS WS n ≡ fresh_rows m 0 (take n ss)
    unfolding held_rows
    rows-to zero h = refl
    rows-to (suc n) h =
        let l : 0 + length (take n ss) ≡ n = omega (arith, length-take-le n ss (rw v.places (omega arith))) in
        rw (
          status_held wd fm m ss v.places ys n h,
          rows-to n (omega arith),
          row-held n h (get_or ss n empty) refl (v.within n),
          take-suc ss n empty (rw v.places h),
          rows_snoc 0 (take n ss) (get_or ss n empty),
          l,
        ) refl

    rows-held : held_rows wd FS WS 32 ≡ fresh_rows m 0 ss
    rows-held = rows-to 32 (omega arith) ∙ ap (fresh_rows m 0) (take_all 32 ss (rw v.places (omega arith)))

  pub page_held : (bs : List ℕ)
      → page_step wd FS WS bs ≡ cond (ltb 0 (left_sum m ss)) (printout (refused Unfinished) bs) (page_afresh m ss bs)
  unfolding page_step done_check page_afresh
  page_held bs =
      rw (no_fault wd fm m ss v xs ys, faces_held wd m ss ys, left-held wd fm m ss v ys)
      (go (ltb 0 (left_sum m ss)) refl)
    where
      go : (b : Bool) → ltb 0 (left_sum m ss) ≡ b
          → guarded_bytes (cond b (Err Unfinished) passed) bs (page_answer (held_rows wd FS WS 32) bs)
          ≡ cond b (printout (refused Unfinished) bs) (page_answer (fresh_rows m 0 ss) bs)
      go true e = refl
      go false e =
          ap (λ (rs : List Row). page_answer rs bs) (rows-held (let z = ltb-false 0 (left_sum m ss) e in omega arith))
