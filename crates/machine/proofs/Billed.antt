-- 02, L3: the bill is never below what puts charge and a list needs, and exact where it says so. Assumes nothing.
use Rattle.std.specs.Prelude.{Ok, Err}
use mathlib.Core.Path.{◌≡◌, refl, sym, ap, subst, ◌∙◌}
use mathlib.Core.Bool.{Bool, true, false, ◌&&◌, cond}
use mathlib.Core.Logic.{◌⊎◌, inl, inr}
use mathlib.Core.List.{List, [], ◌∷◌, ◌++◌}
use Prim.Native.Nat.{ℕ, zero, suc, ◌+◌, ◌*◌, ◌/◌, ◌^◌, ◌≤◌, ◌<◌}
use native.Mathlib.Nat.{add-zero, mul-le-mul_right, le_trans}
use native.Mathlib.Omega.{arith}
use lib.Dec.{ltb, leb}
use lib.ListN.{length, get_or, replicate}
use lib.Ieee.{Float}
use borrow.Author.Tests.{le-leb, lt-leb}
use Rattle.base.specs.Answers.{Answer, refused, counted, Outcome, outcome, guarded_run, room_check, granted, Checked, passed}
use Rattle.base.specs.declared.refusal.Refusal.TheVariants.{Unfinished, ShortList}
use Rattle.kernel.specs.declared.kernel.Kernel.{Kernel}
use Rattle.pieces.specs.declared.pieces.Pieces.{Pieces}
use Rattle.pieces.specs.Pieces.{most_pieces, decomposed}
use Rattle.pieces.specs.PieceLaws as pieces
use Rattle.density.specs.declared.convention.Convention.{Convention}
use Rattle.layout.specs.Runs.{write}
use Rattle.bill.specs.Bill.{assumed, bill_steps, bill_floats}
use Rattle.bill.specs.Rows.{refusals, due-is, nan-none}
use Rattle.layout.specs.Layout.{width}
use Rattle.readings.specs.Readings.{list, needs_work, refusing}
use Rattle.machine.specs.Machine.{empty, seen_places, Machine, opened}
use Rattle.machine.specs.Holding.{excess_f, excess_w}
use Rattle.machine.specs.Fresh.{work_all, all_pieces, scaled_list, worked_afresh}
use Rattle.machine.specs.Calls.{Call, read, work_seen, machine, Store, Result, store, holding}
use Rattle.machine.specs.Events.{after_all, charged_in}
use Rattle.machine.specs.Valid.{Valid}
use Rattle.machine.specs.Bills.{kernels_from, kernels_in, Reordered, Exact, Every, put_in, places_in, InStore, layers_in, InSixteen, Apart, list_after, Due, BillBefore}
use Rattle.machine.proofs.Rows.{width4, Layered, layered4}
use Rattle.machine.proofs.Layers.{all_seen}
use Rattle.machine.proofs.Claim.{one_call}
use Rattle.machine.proofs.Adopting.{its_runs, after_calls}
use Rattle.machine.proofs.Opened.{none_at, holds}
use Rattle.machine.proofs.Tally.{sum_of, sum_append, sum_reordered, fits, held_in_lem, pieces_held, seen_within, charged_within, charged_all, radius-after, held_within, held_all}

-- ---- the pieces assumed are at least those of any radius
abbrev most : Kernel → ℕ
most k = most_pieces k.alpha

sum_within : (radius : Float) (ks : List Kernel) → sum_of (fits radius) ks ≤ sum_of most ks
sum_within radius [] = omega arith
sum_within radius (k ∷ ks) = omega (arith, pieces.pieces_within k radius, sum_within radius ks)

one-exact : (radius : Float) (k : Kernel) → Exact k → fits radius k ≡ most k
one-exact radius k (inl h) = ap (λ (p : Pieces). p.count) (pieces.stays-itself k radius h) ∙ sym (rw h refl)
one-exact radius k (inr h) =
    ap (λ (a : Float). (decomposed (record { c = k.c; sigma = k.sigma; w = k.w; alpha = a }) radius).count) h
    ∙ (ap (λ (p : Pieces). p.count) (pieces.nan_alpha k.c k.sigma k.w radius)
    ∙ sym (ap most_pieces h ∙ nan-none))

sum-exact : (radius : Float) (ks : List Kernel) → Every Exact ks → sum_of (fits radius) ks ≡ sum_of most ks
sum-exact radius [] x = refl
sum-exact radius (k ∷ ks) x = omega (arith, one-exact radius k x.0, sum-exact radius ks x.1)

-- ---- the bill's own sum
assumed-from : (kernels : List Float) (n i : ℕ)
    → assumed kernels (i + n) ≡ assumed kernels i + sum_of most (kernels_from kernels n i)
unfolding assumed
assumed-from kernels zero i = rw (add-zero i) (omega arith)
assumed-from kernels (suc n) i =
    let e : i + suc n ≡ suc i + n = omega arith in
    ap (assumed kernels) e ∙ omega (arith, assumed-from kernels n (suc i))

assumed_all : (kernels : List Float) → assumed kernels (length kernels / 6) ≡ sum_of most (kernels_in kernels)
unfolding assumed
assumed_all kernels =
    let n = length kernels / 6 in
    let e : 0 + n ≡ n = omega arith in
    sym (ap (assumed kernels) e) ∙ (assumed-from kernels n 0 ∙ omega arith)

-- ---- what a list answers

-- by row 8, or of n pieces by row 9, into a run of so many floats
abbrev Listing : Answer → ℕ → ℕ → Type 0
Listing a n room = (a ≡ refused Unfinished) ⊎ (a ≡ granted (room_check (6 * n) room) (counted (n ∷ [])))

granted_run : (c : Checked) (a : Answer) (run o : List Float) → (guarded_run c run (outcome a o)).reply ≡ granted c a
granted_run (Ok _) a run o = refl
granted_run (Err r) a run o = refl

module _ (wd : ℕ) (fm : Layered wd) (exF : List Float) (exW : List ℕ) (m : Machine) where
  list-answer : Valid m.mesh m.places → (layers : ℕ) → layers < 2 ^ 16
      → (cv : Convention) (run : List Float) (n : ℕ) → held_in_lem m.mesh.radius (seen_places layers m.places) ≡ n
      → Listing (store wd (holding wd m exF exW) (read layers (list cv run))).reply n (length run)
  unfolding machine worked_afresh
  list-answer v layers few cv run n e =
      let ss = seen_places layers m.places in
      let ks = all_pieces (work_all m.mesh.radius ss) in
      let c = room_check (6 * length ks) (length run) in
      let g = granted_run c (counted (length ks ∷ [])) run (write run 0 (scaled_list cv m.mesh ks)) in
      let p = pieces_held m.mesh.radius ss ∙ e in
      let h = ap (λ (j : ℕ). granted (room_check (6 * j) (length run)) (counted (j ∷ []))) p in
      let a = ap (λ (x : Result). x.reply) (one_call wd fm m v exF exW (read layers (list cv run))) in
      let o = rw (lt-leb (2 ^ 16) layers few) at a in
      go (worked_afresh m.mesh ss (list cv run)) (needs_work (list cv run) && ltb 0 (work_seen m layers)) (g ∙ h) o
    where
      go : {a x : Answer} (o : Outcome) (b : Bool) → o.reply ≡ x
          → a ≡ (cond b (refusing (list cv run) Unfinished) o).reply → (a ≡ refused Unfinished) ⊎ (a ≡ x)
      go o true w e = inl e
      go o false w e = inr (e ∙ w)

module _ (a : Answer) (n room : ℕ) where
  long-enough : Listing a n room → 6 * n ≤ room → (a ≡ refused Unfinished → ⊥) → a.refusal ≡ 0
  long-enough (inl e) l u = absurd (u e)
  long-enough (inr e) l u = ap (λ (x : Answer). x.refusal) e ∙ rw (le-leb (6 * n) room l) refl

  too_short : Listing a n room → room < 6 * n → (a ≡ refused Unfinished → ⊥) → a ≡ refused ShortList
  too_short (inl e) l u = absurd (u e)
  too_short (inr e) l u = e ∙ rw (lt-leb (6 * n) room l) refl

  answers : Listing a n room → (j : ℕ) → a ≡ counted (j ∷ []) → j ≡ n
  answers (inl e) j c = let z : ◌≡◌ {A = ℕ} 8 0 = ap (λ (x : Answer). x.refusal) (sym e ∙ c) in absurd (omega arith)
  answers (inr e) j c = go (leb (6 * n) room) (sym e ∙ c)
    where
      go : (b : Bool) → granted (cond b passed (Err ShortList)) (counted (n ∷ [])) ≡ counted (j ∷ []) → j ≡ n
      go true e = sym (ap (λ (x : Answer). get_or x.counts 0 0) e)
      go false e = let z : ◌≡◌ {A = ℕ} 9 0 = ap (λ (x : Answer). x.refusal) e in absurd (omega arith)

-- ---- from an opening on
no_piece : (radius : Float) (n : ℕ) → held_in_lem radius (replicate n empty) ≡ 0
no_piece radius zero = refl
no_piece radius (suc n) = omega (arith, no_piece radius n)

all_vacant : (n : ℕ) (is : List ℕ) → Every (λ i. get_or (replicate n empty) i empty ≡ empty) is
all_vacant n [] = tt {0}
all_vacant n (i ∷ is) = (none_at n i, all_vacant n is)

module _
    (wd : ℕ) (fm : Layered wd) (r : Float) (xs : List Float) (ks : List ℕ)
    (v : Valid (opened r xs ks).mesh (opened r xs ks).places)
    (exF : List Float) (exW : List ℕ) (kernels : List Float) where
  abbrev M : Machine
  M = opened r xs ks

  abbrev S : Store
  S = holding wd M exF exW

  abbrev F : ℕ
  F = length ks / 3

  abbrev due : ℕ
  due = sum_of most (kernels_in kernels)

  -- the pieces in some layers after the calls, and what a list of them then answers
  abbrev after : List Call → ℕ → ℕ
  after cs layers = held_in_lem r (seen_places layers (after_all M cs).places)

  list-after : (cs : List Call) (layers : ℕ) → layers < 2 ^ 16 → (cv : Convention) (run : List Float)
      → Listing (list_after wd S cs layers cv run) (after cs layers) (length run)
  list-after cs layers few cv run =
      let i = after_calls wd fm exF exW cs (its_runs wd fm exF exW M v) in
      let e = ap (λ (x : Float). held_in_lem x (seen_places layers (after_all M cs).places)) (radius-after cs M v) in
      subst (λ (s : Store). Listing (store wd s (read layers (list cv run))).reply (after cs layers) (length run))
      (sym i.runs)
      (list-answer wd fm exF exW (after_all M cs) i.valid layers few cv run (after cs layers) e)

  -- never below
  module _ (cs : List Call) (rest : List Kernel) (o : Reordered (put_in cs ++ rest) (kernels_in kernels)) where
    fits-due : sum_of (fits r) (put_in cs) ≤ due
    fits-due = omega (arith, sum_within r (put_in cs), sum_append most (put_in cs) rest, sum_reordered most o)

    steps-due : charged_in wd S cs ≤ due * F
    steps-due = le_trans (charged_within wd fm exF exW cs M v) (mul-le-mul_right F fits-due)

    pieces-due : (layers : ℕ) → after cs layers ≤ due
    pieces-due layers =
        omega (arith, seen_within r layers (after_all M cs).places, held_within cs M v, no_piece r 32, fits-due)

  -- exactly
  module _
      (x : Every Exact (kernels_in kernels)) (cs : List Call)
      (o : Reordered (put_in cs) (kernels_in kernels)) (p : InStore (places_in cs)) (b : InSixteen (layers_in cs)) where
    fits-exact : sum_of (fits r) (put_in cs) ≡ due
    fits-exact = sum_reordered (fits r) o ∙ sum-exact r (kernels_in kernels) x

    steps-exact : charged_in wd S cs ≡ due * F
    steps-exact = charged_all wd fm exF exW cs M v p b ∙ ap (λ (n : ℕ). n * F) fits-exact

    pieces_exact : Apart (places_in cs) → after cs 65535 ≡ due
    pieces_exact a =
        let w = (after_calls wd fm exF exW cs (its_runs wd fm exF exW M v)).valid.within in
        ap (held_in_lem r) (all_seen (after_all M cs).mesh (after_all M cs).places w)
        ∙ (held_all cs M v p b a (all_vacant 32 (places_in cs)) ∙ omega (arith, no_piece r 32, fits-exact))

  holds-due : (steps floats : ℕ) → steps ≡ due * F → floats ≡ 6 * due → Due wd S kernels steps floats
  holds-due steps floats hs hf =
      record {
        never-below = λ cs rest o.
            let n = pieces-due cs rest o in
            record {
              charged = omega (arith, steps-due cs rest o, hs);
              room = λ ls b cv run l.
                  long-enough _ (after cs ls) (length run) (list-after cs ls b cv run) (omega (arith, n ls));
              listed = λ ls b cv run j e.
                  omega (arith, n ls, answers _ (after cs ls) (length run) (list-after cs ls b cv run) j e);
            };
        exact = λ x cs o p b.
            let n = pieces_exact x cs o p b in
            let all = list-after cs 65535 (omega arith) in
            record {
              charged = steps-exact x cs o p b ∙ sym hs;
              room = λ a cv run l. too_short _ (after cs 65535) (length run) (all cv run) (omega (arith, n a));
              listed = λ a cv run j e. omega (arith, n a, answers _ (after cs 65535) (length run) (all cv run) j e);
            };
      }

pub bill_before : BillBefore
unfolding bill_steps bill_floats
bill_before r xs ks fs ws h kernels =
    let o = holds width width4 r xs ks fs ws h in
    let v = o.valid in
    let g = assumed_all kernels in
    record {
      accepted =
          (refusals kernels (length xs / 3) (length ks / 3)).due
          (record { few_verts = v.mesh.verts; few_faces = v.mesh.faces });
      due = λ steps floats e.
          let d = due-is kernels (length xs / 3) (length ks / 3) steps floats e in
          subst (λ (s : Store). Due width s kernels steps floats) (sym o.runs)
          (holds-due width layered4 r xs ks v (excess_f xs fs) (excess_w width ks ws) kernels steps floats
          (d.0 ∙ ap (λ (n : ℕ). n * (length ks / 3)) g) (d.1 ∙ ap (λ (n : ℕ). 6 * n) g));
    }
