-- An accepted opening leaves the runs of the opened machine, with the excess untouched. Assumes nothing.
use mathlib.Core.Path.{◌≡◌, refl, sym, ap, subst, ◌∙◌}
use mathlib.Core.List.{List, [], ◌∷◌, ◌++◌, map, append_assoc}
use Prim.Native.Nat.{ℕ, zero, suc, ◌+◌, ◌*◌, ◌/◌, ◌<◌}
use native.Mathlib.Nat.{mul-suc, mul-zero, div-add-mod'}
use native.Mathlib.Omega.{arith}
use lib.ListN.{length, drop, get_or, replicate, length-append, length-replicate, replicate-append-replicate}
use lib.Ieee.{Float}
use Rattle.base.specs.Answers.{counted, passed}
use Rattle.base.specs.Floats.{+0}
use Rattle.layout.specs.Runs.{write}
use Rattle.layout.specs.Layout.{coords_from, corners_from}
use Rattle.layout.specs.After.{after}
use Rattle.store.specs.Calls.{open_check, open_floats, open_words, open_step}
use Rattle.store.specs.OpenLaws.{open_passes}
use Rattle.machine.specs.Machine.{Mesh, Place, empty, mesh_of, opened, open_row}
use Rattle.machine.specs.Holding.{flat, place_row, floats7, floats48, floats_of, words_of, excess_f, excess_w}
use Rattle.machine.specs.Demands.{refused_by}
use Rattle.machine.specs.Beginnings.{leaving}
use Rattle.machine.specs.Valid.{Within, Valid}
use Rattle.machine.proofs.Rows.{Width}
use Rattle.machine.proofs.Held.{zeros-row}
use Rattle.machine.proofs.Refused.{row}
use Rattle.machine.proofs.Adopting.{Holds}

-- ---- zeros
flat-same : {A : Type 0} (g : Place → List A) (k : ℕ) (z : A) → g empty ≡ replicate k z → (n : ℕ)
    → flat (map g (replicate n empty)) ≡ replicate (k * n) z
flat-same g k z e zero = rw mul-zero refl
flat-same g k z e (suc n) =
    let q : k + k * n ≡ k * suc n = rw mul-suc (omega arith) in
    ap (λ (l : List _). l ++ flat (map g (replicate n empty))) e
    ∙ (ap (λ (l : List _). replicate k z ++ l) (flat-same g k z e n)
    ∙ (replicate-append-replicate k (k * n) z ∙ ap (λ (j : ℕ). replicate j z) q))

two-zeros : {A : Type 0} (z : A) (a b : ℕ) (xs ex : List A)
    → (replicate (a + b) z ++ xs) ++ ex ≡ replicate a z ++ (replicate b z ++ (xs ++ ex))
two-zeros z a b xs ex =
    append_assoc (replicate (a + b) z) xs ex
    ∙
    (ap (λ (l : List _). l ++ (xs ++ ex)) (sym (replicate-append-replicate a b z))
    ∙ append_assoc (replicate a z) (replicate b z) (xs ++ ex))

pub write-front : {A : Type 0} (l vs : List A) (n : ℕ) → length vs ≡ n → write l 0 vs ≡ vs ++ drop n l
unfolding write
write-front l vs n e = rw e refl

pub none_at : (n i : ℕ) → get_or (replicate n empty) i empty ≡ empty
none_at zero i = refl
none_at (suc n) zero = refl
none_at (suc n) (suc i) = none_at n i

module _ (wd : ℕ) (fm : Width wd) (r : Float) (xs : List Float) (ks : List ℕ) where
  abbrev M : Mesh
  M = mesh_of r xs ks

  floats-opened : (fs : List Float) → write fs 0 (open_floats r xs) ≡ floats_of M (replicate 32 empty) (excess_f xs fs)
  unfolding floats_of
  floats-opened fs =
      let n : length (open_floats r xs) ≡ coords_from + length xs
      = ap suc (length-append (replicate 1760 +0) xs ∙ ap (λ (j : ℕ). j + length xs) (length-replicate 1760 +0))
      ∙ (omega arith) in
      write-front fs (open_floats r xs) (coords_from + length xs) n
      ∙ (ap (λ (l : List Float). r ∷ l) (two-zeros +0 (7 * 32) (48 * 32) xs (excess_f xs fs))
      ∙
      (ap (λ (l : List Float). r ∷ (l ++ (replicate (48 * 32) +0 ++ (xs ++ excess_f xs fs))))
      (sym (flat-same floats7 7 +0 refl 32))
      ∙ ap (λ (l : List Float). r ∷ (flat (map floats7 (replicate 32 empty)) ++ (l ++ (xs ++ excess_f xs fs))))
      (sym (flat-same (floats48 M) 48 +0 refl 32))))

  words_opened : (ws : List ℕ)
      → write ws 0 (open_words wd (length xs / 3) (length ks / 3) ks)
      ≡ words_of wd M (replicate 32 empty) (excess_w wd ks ws)
  unfolding words_of
  words_opened ws =
      let z : List ℕ = replicate (wd * 32) 0 in
      let n : length (open_words wd (length xs / 3) (length ks / 3) ks) ≡ corners_from wd + length ks
      = rw (length-append z ks, length-replicate {A = ℕ} (wd * 32) 0) (omega arith) in
      write-front ws (open_words wd (length xs / 3) (length ks / 3) ks) (corners_from wd + length ks) n
      ∙ (ap (λ (l : List ℕ). length xs / 3 ∷ length ks / 3 ∷ l) (append_assoc z ks (excess_w wd ks ws))
      ∙ ap (λ (l : List ℕ). length xs / 3 ∷ length ks / 3 ∷ (l ++ (ks ++ excess_w wd ks ws)))
      (sym (flat-same (place_row wd M) wd 0 (sym (zeros-row wd fm M)) 32)))

  pub opens : (fs : List Float) (ws : List ℕ) → open_check wd (length xs) ks (length fs) (length ws) ≡ passed
      → open_step wd fs ws r xs ks
      ≡ after (counted (length xs / 3 ∷ length ks / 3 ∷ [])) (floats_of M (replicate 32 empty) (excess_f xs fs))
      (words_of wd M (replicate 32 empty) (excess_w wd ks ws))
  unfolding open_step
  opens fs ws h =
      let a = counted (length xs / 3 ∷ length ks / 3 ∷ []) in
      rw h
      (ap (λ (f : List Float). after a f (write ws 0 (open_words wd (length xs / 3) (length ks / 3) ks)))
      (floats-opened fs)
      ∙ ap (after a (floats_of M (replicate 32 empty) (excess_f xs fs))) (words_opened ws))

  pub opened_valid : (a b : ℕ) → open_check wd (length xs) ks a b ≡ passed → Valid M (replicate 32 empty)
  opened_valid a b h =
      let g = (open_passes wd (length xs) ks a b h).mesh in
      let x = div-add-mod' (length xs) 3 in
      let y = div-add-mod' (length ks) 3 in
      record {
        mesh =
            record {
              coords = omega (arith, g.coords, x);
              corners = omega (arith, g.corners, y);
              verts = g.verts;
              faces = g.faces;
              below = g.below;
            };
        places = length-replicate 32 empty;
        within = λ i. subst (Within M) (sym (none_at 32 i)) (tt {0});
      }

-- ---- by the row that the table gives, on the runs fs and ws
module _ (wd : ℕ) (fm : Width wd) (r : Float) (xs : List Float) (ks : List ℕ) (fs : List Float) (ws : List ℕ) where
  abbrev n : ℕ
  n = open_row wd xs ks (length fs) (length ws)

  pub unrefused : n ≡ 0 → open_check wd (length xs) ks (length fs) (length ws) ≡ passed
  unrefused = (row wd xs ks (length fs) (length ws)).none

  pub refuses : 0 < n → open_step wd fs ws r xs ks ≡ after (refused_by n) fs ws
  unfolding open_step
  refuses h = (row wd xs ks (length fs) (length ws)).some h fs ws _

  -- an accepted opening leaves the runs of the opened machine
  pub holds : n ≡ 0
      → Holds wd (opened r xs ks) (leaving (open_step wd fs ws r xs ks)) (excess_f xs fs) (excess_w wd ks ws)
  holds h =
      let c = unrefused h in
      record {
        runs = ap leaving (opens wd fm r xs ks fs ws c);
        valid = opened_valid wd fm r xs ks (length fs) (length ws) c;
      }
