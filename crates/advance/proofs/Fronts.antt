-- The work on the places alone is that on the whole store: what stands behind them is carried along. Assumes nothing.
use mathlib.Core.Path.{◌≡◌, refl, sym, ap, ◌∙◌}
use mathlib.Core.Bool.{Bool, true, false, ◌&&◌, cond}
use mathlib.Core.List.{List, ◌++◌}
use Prim.Native.Nat.{ℕ, zero, suc, ◌+◌, ◌*◌, ◌-◌, ◌/◌, ◌≤◌, ◌<◌}
use native.Mathlib.Omega.{arith}
use lib.Dec.{ltb, eqb}
use lib.Ieee.{Float, nan}
use lib.ListN.{length, get_or, set, take, drop, length-set, length-drop, get_or-append}
use lib.Seq.{set-append_left, get_or-set_other, length-take-le}
use borrow.Author.Tests.{ltb-true}
use Rattle.base.specs.Loops.{iterate}
use Rattle.mesh.specs.declared.vectors.V3.{V3}
use Rattle.mesh.specs.declared.triangles.Triangle.{Triangle}
use Rattle.volume.specs.Volume.{face_sum}
use Rattle.mesh.specs.Triangles.{triangle_at, face_count}
use Rattle.layout.specs.Layout.{centre_at, width, coords_from, corners_from, status_of, finished_of, done_of}
use Rattle.layout.specs.Layout.{verts_of, faces_of}
use Rattle.layout.specs.SoundLaws.{Fine}
use Rattle.layout.specs.Left.{held}
use Rattle.advance.specs.Steps.{Work, work, one_face, Standing, standing, place_work, places_run, spent_all}

module _ (t : ℕ → Triangle) (m : ℕ) (x : List Float) (y : List ℕ) where
  -- with the mesh's floats behind, and its words
  abbrev pub long_work : Work → Work
  long_work r = work (r.floats ++ x) r.finished r.done r.budget

  abbrev pub long_standing : Standing → Standing
  long_standing s = standing (s.floats ++ x) (s.words ++ y) s.budget

  -- ---- one place
  record Same (r r' : Work) (n : ℕ) : Type 0 where
    pub same : r' ≡ long_work r
    pub long : length r.floats ≡ n

  module _ (c : V3) (i p : ℕ) (hi : i < 32) (hp : p ≤ 16) where
    abbrev step : Work → Work
    step = one_face t c m (225 + 48 * i) p

    step-same : (r : Work) → coords_from ≤ length r.floats → Same (step r) (step (long_work r)) (length r.floats)
    unfolding one_face
    step-same r h = go (ltb r.finished p) (ltb 0 r.budget) refl
      where
        at : ℕ
        at = 225 + 48 * i + 3 * r.finished

        turned : List Float → Work
        turned fs =
            work (set fs (at + 2) (face_sum (t r.done) c (get_or fs at nan) (get_or fs (at + 2) nan)))
            (cond (eqb (r.done + 1) m) (r.finished + 1) r.finished) (cond (eqb (r.done + 1) m) 0 (r.done + 1))
            (r.budget - 1)

        go : (a b : Bool) → ltb r.finished p ≡ a
            → Same (cond (a && b) (turned r.floats) r) (cond (a && b) (turned (r.floats ++ x)) (long_work r))
            (length r.floats)
        go true true e =
            let l = ltb-true r.finished p e in
            let k : 225 + 48 * i + 3 * r.finished + 2 < length r.floats = omega arith in
            let j : 225 + 48 * i + 3 * r.finished < length r.floats = omega arith in
            record {
              same = rw (
                get_or-append r.floats x nan (225 + 48 * i + 3 * r.finished) j,
                get_or-append r.floats x nan (225 + 48 * i + 3 * r.finished + 2) k,
                set-append_left r.floats x (225 + 48 * i + 3 * r.finished + 2) _ k,
              ) refl;
              long = simp length-set refl;
            }
        go true false e = record { same = refl; long = refl }
        go false b e = record { same = refl; long = refl }

    steps-same : (k : ℕ) (r : Work) → coords_from ≤ length r.floats
        → Same (iterate step k r) (iterate step k (long_work r)) (length r.floats)
    steps-same zero r h = record { same = refl; long = refl }
    steps-same (suc k) r h =
        let q = steps-same k r h in
        let u = step-same (iterate step k r) (rw q.long h) in
        record { same = ap step q.same ∙ u.same; long = u.long ∙ q.long }

  -- ---- one place after another: what the loop over them has of the store that it began with
  pub record Front (s₀ s s' : Standing) : Type 0 where
    pub same : s' ≡ long_standing s
    pub floats : length s.floats ≡ length s₀.floats
    pub words : length s.words ≡ length s₀.words
    pub status : (j : ℕ) → status_of width s.words j ≡ status_of width s₀.words j

  place-same : (i : ℕ) (s : Standing) → i < 32 → coords_from ≤ length s.floats → corners_from width ≤ length s.words
      → status_of width s.words i - 1 ≤ 16
      → Same (place_work width t m i s) (place_work width t m i (long_standing s)) (length s.floats)
  unfolding place_work
  place-same i s h f w p =
      let a : 1 + 7 * i < length s.floats = omega arith in
      let b : 2 + 7 * i < length s.floats = omega arith in
      let d : 3 + 7 * i < length s.floats = omega arith in
      let k : 2 + 4 * i < length s.words = omega arith in
      let l : 3 + 4 * i < length s.words = omega arith in
      let n : 4 + 4 * i < length s.words = omega arith in
      rw (
        get_or-append s.floats x nan (1 + 7 * i) a,
        get_or-append s.floats x nan (2 + 7 * i) b,
        get_or-append s.floats x nan (3 + 7 * i) d,
        get_or-append s.words y 0 (2 + 4 * i) k,
        get_or-append s.words y 0 (3 + 4 * i) l,
        get_or-append s.words y 0 (4 + 4 * i) n,
      )
      (steps-same (centre_at s.floats i) i (status_of width s.words i - 1) h p s.budget
      (work s.floats (finished_of width s.words i) (done_of width s.words i) s.budget) f)

  pub places-same : (k : ℕ) (s₀ : Standing) → k ≤ 32 → coords_from ≤ length s₀.floats
      → corners_from width ≤ length s₀.words
      → ((j : ℕ) → j < 32 → status_of width s₀.words j - 1 ≤ 16)
      → Front s₀ (places_run width t m k s₀) (places_run width t m k (long_standing s₀))
  unfolding places_run
  places-same zero s₀ h f w p = record { same = refl; floats = refl; words = refl; status = λ j. refl }
  places-same (suc i) s₀ h f w p =
      let q = places-same i s₀ (omega arith) f w p in
      let s = places_run width t m i s₀ in
      let r = place_work width t m i s in
      let u = place-same i s (omega arith) (rw q.floats f) (rw q.words w)
      (rw q.status (p i (omega arith))) in
      let k : 3 + 4 * i < length s.words = omega (arith, q.words) in
      let l : 4 + 4 * i < length (set s.words (3 + 4 * i) r.finished) = simp length-set (omega (arith, q.words)) in
      record {
        same = rw (
          q.same,
          u.same,
          set-append_left s.words y (3 + 4 * i) r.finished k,
          set-append_left (set s.words (3 + 4 * i) r.finished) y (4 + 4 * i) r.done l,
        ) refl;
        floats = u.long ∙ q.floats;
        words = simp length-set q.words;
        status = λ j. get_or-set_other (set s.words (3 + 4 * i) r.finished) (4 + 4 * i) (2 + 4 * j) r.done 0
            (omega arith)
            ∙ get_or-set_other s.words (3 + 4 * i) (2 + 4 * j) r.finished 0 (omega arith)
            ∙ q.status j;
      }

-- ---- a store with no fault, cut before its mesh
module _ (fs : List Float) (ws : List ℕ) (h : Fine width fs ws) (X : List Float) (Y : List ℕ)
    (ex : X ≡ drop coords_from fs) (ey : Y ≡ drop (corners_from width) ws) where
  pub whole : (P nf : List Float) (S nw : List ℕ) (n r a b : ℕ) → fs ≡ P ++ X → length P ≡ coords_from → ws ≡ S ++ Y
      → length S ≡ corners_from width → a ≡ verts_of ws → b ≡ faces_of ws
      → standing nf nw r
      ≡ places_run width (triangle_at (take (3 * a) X) (take (3 * b) Y)) (face_count (take (3 * b) Y)) 32
      (standing P S n)
      → standing (nf ++ X) (nw ++ Y) r ≡ spent_all width fs ws n
  whole P nf S nw n r a b ef lp ew ls ea eb e =
      let t = triangle_at (take (3 * a) X) (take (3 * b) Y) in
      let m = face_count (take (3 * b) Y) in
      let c : m ≡ faces_of ws = rw (ey, eb) count in
      let d : t ≡ held width fs ws (verts_of ws) (faces_of ws) = rw (ex, ey, ea, eb) refl in
      let q = places-same t m X Y 32 (standing P S n) (omega arith) (omega arith) (omega arith)
      (λ j l. rw (← status P S ew ls j l) (omega (arith, h.places.place j l))) in
      ap (long_standing t m X Y) e ∙ sym q.same ∙ rw (c, d, ef, ew) refl
    where
      count : length (take (3 * faces_of ws) (drop (corners_from width) ws)) / 3 ≡ faces_of ws
      count = let l = h.mesh.words in rw (length-take-le (3 * faces_of ws) (drop (corners_from width) ws) (simp length-drop (omega arith))) (omega arith)

      status : (P : List Float) (S : List ℕ) → ws ≡ S ++ Y → length S ≡ corners_from width → (j : ℕ) → j < 32
          → status_of width ws j ≡ status_of width S j
      status P S ew ls j l =
          let k : 2 + 4 * j < length S = omega arith in
          rw ew (get_or-append S Y 0 (2 + 4 * j) k)
