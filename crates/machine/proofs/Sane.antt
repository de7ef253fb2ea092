-- A store that holds a machine passes the check of a store. Assumes nothing.
use Rattle.base.specs.Answers.{passed}
use mathlib.Core.Path.{◌≡◌, refl}
use mathlib.Core.Bool.{Bool, true, false, ◌&&◌, cond}
use mathlib.Core.List.{List}
use Prim.Native.Nat.{ℕ, zero, suc, ◌+◌, ◌*◌, ◌-◌, ◌/◌, ◌%◌, ◌≤◌, ◌<◌}
use native.Mathlib.Nat.{mul-zero, div-add-mod', mod-lt, div-lt_iff_lt-mul, suc-mul}
use native.Mathlib.Omega.{arith}
use lib.ListN.{length, get_or}
use lib.Dec.{ltb, leb, eqb}
use lib.Ieee.{Float}
use borrow.Author.Tests.{lt-ltb, le-leb, eq-eqb, ne_eqb, eqb-true, eqb-false}
use Rattle.base.specs.Loops.{every}
use Rattle.mesh.specs.Checks.{vertex_limit, face_limit}
use Rattle.layout.specs.Layout.{coords_from, corners_from}
use Rattle.layout.specs.Soundness.{long_enough, place_sound, layer_sound, place_sound_at, sound, store_check}
use Rattle.machine.specs.Machine.{Mesh, Place, empty, full}
use Rattle.machine.specs.Holding.{place_row, words_of}
use Rattle.machine.specs.Valid.{Within, Valid}
use Rattle.machine.proofs.Rows.{Width, width3, width4}
use Rattle.machine.proofs.Sixteen.{laid_out_lem}
use Rattle.machine.proofs.Held.{faces_held, status_held, finished_held, done_held, layer_held, words_long, floats_long, corners_held}

-- the words of n pieces, f faces and p steps are sound
steps_sound : (n f p : ℕ) → n ≤ 16 → p ≤ n * f → place_sound (1 + n) (cond (eqb f 0) n (p / f)) (p % f) f ≡ true
unfolding place_sound
steps_sound n f p hn hp = go (eqb f 0) refl
  where
    e1 : 1 + n - 1 ≡ n
    e1 = omega arith

    e0 : eqb (1 + n) 0 ≡ false
    e0 = ne_eqb (1 + n) 0 (λ e. omega arith)

    some : 0 < f → (b : Bool) → eqb (p / f) n ≡ b → leb (p / f) n && cond b (eqb (p % f) 0) (ltb (p % f) f) ≡ true
    some hf true e =
        let d = div-add-mod' p f in
        let q : p / f ≡ n = eqb-true (p / f) n e in
        let z : p % f ≡ 0 = omega (arith, rw q at d) in
        rw (le-leb (p / f) n (omega arith), eq-eqb (p % f) 0 z) refl
    some hf false e =
        let l : p / f < suc n = (div-lt_iff_lt-mul hf).1 (rw suc-mul (omega arith)) in
        rw (le-leb (p / f) n (omega arith), lt-ltb (p % f) f (mod-lt p hf)) refl

    go : (b : Bool) → eqb f 0 ≡ b
        → leb (1 + n) 17
        && cond (eqb (1 + n) 0) (eqb (cond b n (p / f)) 0 && eqb (p % f) 0)
        (leb (cond b n (p / f)) (1 + n - 1)
        && cond (eqb (cond b n (p / f)) (1 + n - 1)) (eqb (p % f) 0) (ltb (p % f) f))
        ≡ true
    go true e =
        let q : f ≡ 0 = eqb-true f 0 e in
        let z : p ≡ 0 = omega (arith, rw (q, mul-zero) at hp) in
        rw (e1, e0, le-leb (1 + n) 17 (omega arith), le-leb n n (omega arith), eq-eqb n n refl, q, z) refl
    go false e =
        let q : 0 < f = omega (arith, eqb-false f 0 e) in
        rw (e1, e0, le-leb (1 + n) 17 (omega arith)) (some q (eqb (p / f) n) refl)

place_sound_lem : (wd : ℕ) (m : Mesh) (s : Place) → Within m s
    → place_sound (get_or (place_row wd m s) 0 0) (get_or (place_row wd m s) 1 0) (get_or (place_row wd m s) 2 0) m.faces
    ≡ true
unfolding place_sound
place_sound_lem wd m empty h = refl
place_sound_lem wd m (full k fit o p l) h = steps_sound fit.count m.faces p h.few h.steps

layer_sound_lem : {wd : ℕ} → Width wd → (m : Mesh) (s : Place) → Within m s
    → layer_sound (get_or (place_row wd m s) 0 0) (get_or (place_row wd m s) 3 0) ≡ true
unfolding layer_sound
layer_sound_lem width3 m empty h = refl
layer_sound_lem width3 m (full k fit o p l) h = rw (ne_eqb (1 + fit.count) 0 (λ e. omega arith)) refl
layer_sound_lem width4 m empty h = refl
layer_sound_lem width4 m (full k fit o p l) h =
    rw (ne_eqb (1 + fit.count) 0 (λ e. omega arith), lt-ltb l 16 h.layer) refl

module _ (wd : ℕ) (fm : Width wd) (m : Mesh) (ss : List Place) (v : Valid m ss) (xs : List Float) (ys : List ℕ) where
  places-sound : (n : ℕ) → n ≤ 32 → every (place_sound_at wd (words_of wd m ss ys)) n ≡ true
  unfolding every place_sound_at
  places-sound zero h = refl
  places-sound (suc n) h =
      rw (
        places-sound n (omega arith),
        status_held wd fm m ss v.places ys n h,
        finished_held wd fm m ss v.places ys n h,
        done_held wd fm m ss v.places ys n h,
        layer_held wd fm m ss v.places ys n h,
        faces_held wd m ss ys,
        place_sound_lem wd m (get_or ss n empty) (v.within n),
        layer_sound_lem fm m (get_or ss n empty) (v.within n),
      ) refl

  pub long-enough : long_enough wd (laid_out_lem m ss xs) (words_of wd m ss ys) ≡ true
  unfolding long_enough words_of
  long-enough =
      rw (
        le-leb (corners_from wd + 3 * m.faces) (length (words_of wd m ss ys))
            (words_long wd fm m ss v.places ys v.mesh.corners),
        le-leb (coords_from + 3 * m.verts) (length (laid_out_lem m ss xs))
            (floats_long wd fm m ss v.places xs v.mesh.coords),
      ) refl

  pub is-sound : sound wd (words_of wd m ss ys) ≡ true
  unfolding sound words_of
  is-sound =
      rw (
        le-leb m.verts vertex_limit v.mesh.verts,
        le-leb m.faces face_limit v.mesh.faces,
        places-sound 32 (omega arith),
        corners_held wd fm m ss v.places ys v.mesh.corners,
        v.mesh.below,
      ) refl

  pub no_fault : store_check wd (laid_out_lem m ss xs) (words_of wd m ss ys) ≡ passed
  unfolding store_check
  no_fault = rw (long-enough, is-sound) refl
