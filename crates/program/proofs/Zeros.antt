-- "Before an opening the store is all zeros, which is sound": it is what an opening of no vertices and faces with
-- radius +0 leaves. Assumes nothing.
use mathlib.Core.Path.{◌≡◌, refl, sym, ap, ◌∙◌}
use mathlib.Core.List.{List, [], ◌∷◌, ◌++◌, append-nil}
use mathlib.Core.Bool.{Bool, true, false, cond}
use Prim.Native.Nat.{ℕ, zero, suc, ◌+◌, ◌-◌, ◌*◌, ◌≤◌}
use native.Mathlib.Omega.{arith}
use lib.Dec.{ltb, lit≤}
use lib.ListN.{get_or, replicate, length-replicate, replicate-append-replicate}
use lib.Seq.{drop-append_seam}
use borrow.Author.Tests.{le-leb}
use Rattle.base.specs.Floats.{+0}
use Rattle.base.specs.LoopLaws.{every_all}
use Rattle.base.specs.Answers.{counted, passed}
use Rattle.layout.specs.Runs.{write}
use Rattle.mesh.specs.Checks.{mesh_check, all_below}
use Rattle.layout.specs.Layout.{place_limit, width, coords_from, corners_from, layer_of}
use Rattle.layout.specs.Soundness.{long_enough, place_sound, layer_sound, place_sound_at, sound, store_check}
use Rattle.layout.specs.After.{after}
use Rattle.store.specs.Calls.{open_check, open_floats, open_words, open_step}
use Rattle.program.specs.Bench.{at_first}

write_same : {A : Type 0} (z : A) (n a : ℕ) → n ≤ a → write (replicate a z) 0 (replicate n z) ≡ replicate a z
unfolding write
write_same {A} z n a h =
    let e : n + (a - n) ≡ a = omega arith in
    let r : replicate a z ≡ replicate n z ++ replicate (a - n) z
    = ap (λ (k : ℕ). replicate k z) (sym e) ∙ sym (replicate-append-replicate n (a - n) z) in
    rw r (ap (λ (t : List A). replicate n z ++ t) (drop-append_seam (replicate n z) (replicate (a - n) z)))

word_zero : (b i : ℕ) → ◌≡◌ {A = ℕ} (get_or (replicate b 0) i 0) 0
word_zero zero i = refl
word_zero (suc b) zero = refl
word_zero (suc b) (suc i) = word_zero b i

layer_zero : (q b i : ℕ) → layer_of q (replicate b 0) i ≡ 0
layer_zero q b i = go (ltb 3 q)
  where
    go : (t : Bool) → ◌≡◌ {A = ℕ} (cond t (get_or (replicate b 0) (5 + q * i) 0) 0) 0
    go true = word_zero b (5 + q * i)
    go false = refl

-- runs of a floats and b words, q of these to a place
module _ (q a b : ℕ) (long : coords_from ≤ a) (wide : corners_from q ≤ b) where
  pub zeros-opened : open_step q (replicate a +0) (replicate b 0) +0 [] []
      ≡ after (counted (0 ∷ 0 ∷ [])) (replicate a +0) (replicate b 0)
  unfolding open_step open_check mesh_check all_below
  zeros-opened =
      let n = coords_from - 1 in
      let m = q * place_limit in
      let f : write (replicate a +0) 0 (open_floats +0 []) ≡ replicate a +0 =
      ap (λ l. write (replicate a +0) 0 (+0 ∷ l)) (append-nil (replicate n +0))
      ∙ write_same +0 (suc n) a (omega arith) in
      let w : write (replicate b 0) 0 (open_words q 0 0 []) ≡ replicate b 0 =
      ap (λ (l : List ℕ). write (replicate b 0) 0 (0 ∷ 0 ∷ l)) (append-nil (replicate m 0))
      ∙ write_same 0 (suc (suc m)) b (omega arith) in
      rw (
        length-replicate a +0,
        length-replicate {A = ℕ} b 0,
        le-leb coords_from a long,
        le-leb (corners_from q + 0) b (omega arith),
      )
      (λ i. after (counted (0 ∷ 0 ∷ [])) (f i) (w i))

  pub zeros-sound : store_check q (replicate a +0) (replicate b 0) ≡ passed
  unfolding store_check long_enough sound place_sound_at place_sound layer_sound all_below
  zeros-sound =
      let s : (i : ℕ) → place_sound_at q (replicate b 0) i ≡ true =
      λ i. rw (word_zero b (2 + q * i), word_zero b (3 + q * i), word_zero b (4 + q * i), layer_zero q b i) in
      rw (
        every_all (place_sound_at q (replicate b 0)) place_limit (λ k l. s k),
        word_zero b 0,
        word_zero b 1,
        length-replicate a +0,
        length-replicate {A = ℕ} b 0,
        le-leb coords_from a long,
        le-leb (corners_from q + 0) b (omega arith),
      )

-- ---- the program's first store
pub first_opened : open_step width at_first.floats at_first.words +0 [] []
    ≡ after (counted (0 ∷ 0 ∷ [])) at_first.floats at_first.words
first_opened = zeros-opened width 3261 3130 (lit≤ tt) (lit≤ tt)

pub first_sound : store_check width at_first.floats at_first.words ≡ passed
first_sound = zeros-sound width 3261 3130 (lit≤ tt) (lit≤ tt)
