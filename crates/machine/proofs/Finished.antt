-- 02, L7: the report of what is finished, of a store that holds a machine, is the machine's, worked afresh on the
-- places
-- that have nothing left. Assumes nothing.
use Rattle.std.specs.Prelude.{Err}
use mathlib.Core.Path.{◌≡◌, refl, sym, ap, ◌∙◌}
use mathlib.Core.Bool.{Bool, true, false, cond}
use mathlib.Core.Logic.{◌⊎◌, inl, inr}
use mathlib.Core.List.{List, [], ◌∷◌}
use Prim.Native.Nat.{ℕ, suc, ◌+◌, ◌*◌, ◌-◌, ◌/◌, ◌^◌, ◌≤◌, ◌<◌}
use native.Mathlib.Nat.{mul-zero, suc-mul, div-add-mod', div-lt_iff_lt-mul}
use native.Mathlib.Decide.{dec_lt}
use native.Mathlib.Omega.{arith}
use lib.ListN.{length, get_or, length-append}
use lib.Dec.{ltb, leb, eqb}
use lib.Ieee.{Float}
use borrow.Author.Tests.{lt-ltb, le-ltb, le-leb, lt-leb, eq-eqb, ne_eqb, eqb-true, eqb-false}
use Rattle.base.specs.Answers.{Answer, refused, granted, Outcome, passed}
use Rattle.base.specs.declared.refusal.Refusal.TheVariants.{NoLayer}
use Rattle.density.specs.declared.convention.Convention.{Convention}
use Rattle.layout.specs.Layers.{layers_check}
use Rattle.readings.specs.Readings.{report, answer_of}
use Rattle.readings.specs.Finished.{complete_at, complete_in, passed_over_lem, beside, finished_step}
use Rattle.machine.specs.Machine.{Mesh, Place, empty, full, left_place, left_sum, seen_place, seen_places, is_complete, complete_place, complete_places, passed_places}
use Rattle.machine.specs.Holding.{place_row, words_of}
use Rattle.machine.specs.Fresh.{work_place, work_all, worked_afresh, finished_afresh}
use Rattle.machine.specs.Valid.{Within, Valid}
use Rattle.machine.proofs.Rows.{Width, Layered, formed}
use Rattle.machine.proofs.Sixteen.{laid_out_lem}
use Rattle.machine.proofs.Held.{status_held, finished_held}
use Rattle.machine.proofs.Sane.{no_fault}
use Rattle.machine.proofs.Read.{There}
use Rattle.machine.proofs.Layers.{Emptying, emptied_at, emptied_there, emptied_valid, words_emptied, seen-or-none, layers_held}
use Rattle.machine.proofs.Afresh.{joined}
use Rattle.machine.proofs.Look.{filled_held, complete-seen}

-- ---- of n pieces, f faces and p steps all pieces are finished exactly where no step is left
module _ (n f p : ℕ) (h : p ≤ n * f) where
  all-pieces : 0 < f → n * f - p ≡ 0 → p / f ≡ n
  all-pieces hf z = go (dec_lt (p / f) n)
    where
      go : Dec (p / f < n) → p / f ≡ n
      go (yes l) = absurd (let y : p < n * f = (div-lt_iff_lt-mul hf).0 l in omega arith)
      go (no l) = let y : p / f < suc n = (div-lt_iff_lt-mul hf).1 (rw suc-mul (omega arith)) in omega arith

  steps-complete : eqb (cond (eqb f 0) n (p / f)) (1 + n - 1) ≡ eqb (n * f - p) 0
  steps-complete = let e : 1 + n - 1 ≡ n = omega arith in rw e (go (eqb f 0) refl)
    where
      some : 0 < f → (b : Bool) → eqb (p / f) n ≡ b → b ≡ eqb (n * f - p) 0
      some hf true e =
          let q : p / f ≡ n = eqb-true (p / f) n e in
          let d = div-add-mod' p f in
          sym (eq-eqb (n * f - p) 0 (omega (arith, rw q at d)))
      some hf false e = sym (ne_eqb (n * f - p) 0 (λ z. eqb-false (p / f) n e (all-pieces hf z)))

      go : (b : Bool) → eqb f 0 ≡ b → eqb (cond b n (p / f)) n ≡ eqb (n * f - p) 0
      go true e =
          let q : n * f ≡ 0 = ap (λ (x : ℕ). n * x) (eqb-true f 0 e) ∙ mul-zero n in
          eq-eqb n n refl ∙ sym (eq-eqb (n * f - p) 0 (omega arith))
      go false e = some (let z = eqb-false f 0 e in omega arith) (eqb (p / f) n) refl

-- ---- the places that have nothing left
module _ (m : Mesh) where
  place-complete : (wd : ℕ) (s : Place) → Within m s
      → eqb (get_or (place_row wd m s) 1 0) (get_or (place_row wd m s) 0 0 - 1) ≡ is_complete m s
  place-complete wd empty w = refl
  place-complete wd (full k fit o p l) w = steps-complete fit.count m.faces p w.steps

  pub complete-or-none : Emptying (complete_place m)
  complete-or-none s = go (is_complete m s)
    where
      go : (b : Bool) → (cond b s empty ≡ s) ⊎ (cond b s empty ≡ empty)
      go true = inl refl
      go false = inr refl

  one_left : (s : Place) → left_place m (complete_place m s) ≡ 0
  one_left s = go (is_complete m s) refl
    where
      go : (b : Bool) → is_complete m s ≡ b → left_place m (cond b s empty) ≡ 0
      go true e = eqb-true (left_place m s) 0 e
      go false e = refl

  pub nothing_left : (ss : List Place) → left_sum m (complete_places m ss) ≡ 0
  nothing_left [] = refl
  nothing_left (s ∷ ss) = omega (arith, one_left s, nothing_left ss)

  abbrev R : Float
  R = m.radius

  -- the filled places are these and those that are passed over
  one-passed : (s : Place)
      → length (work_place R s) ≡ length (work_place R (complete_place m s)) + cond (is_complete m s) 0 1
  one-passed empty = refl
  one-passed (full k fit o p l) = go (is_complete m (full k fit o p l))
    where
      go : (b : Bool) → 1 ≡ length (work_place R (cond b (full k fit o p l) empty)) + cond b 0 1
      go true = refl
      go false = refl

  all-passed : (ss : List Place)
      → length (work_all R ss) ≡ length (work_all R (complete_places m ss)) + passed_places m ss
  all-passed [] = refl
  all-passed (s ∷ ss) =
      rw (
        length-append (work_place R s) (work_all R ss),
        length-append (work_place R (complete_place m s)) (work_all R (complete_places m ss)),
      ) (omega (arith, one-passed s, all-passed ss))

  -- with nothing left none is passed over
  all-complete : (ss : List Place) → left_sum m ss ≡ 0 → (complete_places m ss ≡ ss) × (passed_places m ss ≡ 0)
  all-complete [] z = (refl, refl)
  all-complete (s ∷ ss) z =
      let c : is_complete m s ≡ true = eq-eqb (left_place m s) 0 (omega arith) in
      let i = all-complete ss (omega arith) in
      (rw (c, i.0) refl, rw (c, i.1) refl)

  pub complete_afresh : (ss : List Place) (cv : Convention) → left_sum m ss ≡ 0
      → finished_afresh m ss cv ≡ beside 0 (worked_afresh m ss (report cv)).reply
  unfolding finished_afresh
  complete_afresh ss cv z = let c = all-complete ss z in rw (c.0, c.1) refl

-- ---- the report
module _
    (wd : ℕ) (ly : Layered wd) (m : Mesh) (ss : List Place) (v : Valid m ss) (xs : List Float) (ys : List ℕ)
    (layers : ℕ) where
  fm : Width wd
  fm = formed ly

  abbrev FS : List Float
  FS = laid_out_lem m ss xs

  abbrev WS : List ℕ
  WS = words_of wd m ss ys

  abbrev seen : List Place
  seen = seen_places layers ss

  abbrev complete : List Place
  complete = complete_places m seen

  seen-valid : Valid m seen
  seen-valid = emptied_valid (seen_place layers) (seen-or-none layers) m ss v

  seen-there : There seen ss
  seen-there = emptied_there (seen_place layers) (seen-or-none layers) ss

  pub complete_valid : Valid m complete
  complete_valid = emptied_valid (complete_place m) (complete-or-none m) m seen seen-valid

  complete-there : There complete ss
  complete-there i k fit o p l e =
      seen-there i k fit o p l (emptied_there (complete_place m) (complete-or-none m) seen i k fit o p l e)

  -- the words of a place say whether it is complete; one that is not seen is empty either way
  shown_by : (s : Place) → Within m s
      → cond (eqb (get_or (place_row wd m s) 1 0) (get_or (place_row wd m s) 0 0 - 1)) (seen_place layers s) empty
      ≡ complete_place m (seen_place layers s)
  shown_by s w = rw (place-complete m wd s w) (go (seen-or-none layers s))
    where
      both : (b : Bool) → cond b empty empty ≡ empty
      both true = refl
      both false = refl

      go : (seen_place layers s ≡ s) ⊎ (seen_place layers s ≡ empty)
          → cond (is_complete m s) (seen_place layers s) empty ≡ complete_place m (seen_place layers s)
      go (inl e) = ap (λ (t : Place). cond (is_complete m s) t empty) e ∙ ap (complete_place m) (sym e)
      go (inr e) =
          ap (λ (t : Place). cond (is_complete m s) t empty) e
          ∙ (both (is_complete m s) ∙ ap (complete_place m) (sym e))

  shown-at : (i : ℕ) → i < 32
      → cond (complete_at wd WS i) (get_or seen i empty) empty ≡ complete_place m (get_or seen i empty)
  unfolding complete_at
  shown-at i h =
      rw (
        finished_held wd fm m ss v.places ys i h,
        status_held wd fm m ss v.places ys i h,
        emptied_at (seen_place layers) (seen-or-none layers) ss i,
      ) (shown_by (get_or ss i empty) (v.within i))

  complete-held : complete_in wd layers WS ≡ words_of wd m complete ys
  unfolding complete_in
  complete-held =
      rw (layers_held layers wd ly m ss v.places ys)
      (words_emptied (complete_place m) (complete-or-none m) wd fm m seen seen-valid.places ys (complete_at wd WS)
      shown-at)

  passed-held : passed_over_lem wd layers WS ≡ passed_places m seen
  unfolding passed_over_lem
  passed-held =
      rw (
        complete-held,
        layers_held layers wd ly m ss v.places ys,
        filled_held wd fm m ss seen v.places seen-valid seen-there xs ys,
        filled_held wd fm m ss complete v.places complete_valid complete-there xs ys,
      ) (omega (arith, all-passed m seen))

  pub finished_report : (cv : Convention)
      → finished_step wd FS WS layers cv ≡ cond (leb (2 ^ 16) layers) (refused NoLayer) (finished_afresh m seen cv)
  unfolding finished_step layers_check finished_afresh
  finished_report cv =
      let w = complete-seen wd fm m ss complete v.places complete_valid complete-there xs ys (nothing_left m seen) in
      let j = joined m v.mesh complete (report cv) in
      let e = ap (λ (o : Outcome). o.reply) (ap (answer_of (report cv)) w ∙ j) in
      rw (no_fault wd fm m ss v xs ys, passed-held, complete-held) (go (dec_lt layers 65536) e)
    where
      go : {a b : Answer} → Dec (layers < 65536) → a ≡ b
          → granted (cond (ltb layers 65536) passed (Err NoLayer)) (beside (passed_places m seen) a)
          ≡ cond (leb (2 ^ 16) layers) (refused NoLayer) (beside (passed_places m seen) b)
      go (yes h) e = rw (lt-ltb layers 65536 h, lt-leb 65536 layers h) (ap (beside (passed_places m seen)) e)
      go (no h) e = rw (le-ltb layers 65536 (omega arith), le-leb 65536 layers (omega arith)) refl
