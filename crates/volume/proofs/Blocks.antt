-- A block's values stand where they were written, and its 28 shares are the four faces' fluxes. Assumes nothing.
use mathlib.Core.Path.{◌≡◌, refl, ◌∙◌, subst⁻¹}
use mathlib.Core.List.{List}
use mathlib.Core.Logic.{inl, inr}
use Prim.Native.Nat.{ℕ, zero, suc, ◌+◌, ◌*◌, ◌-◌, ◌≤◌, ◌<◌}
use native.Mathlib.Nat.{zero-add, add-zero, eq-or-lt_of_le, not-suc-le-zero, le_of_suc-le-suc}
use native.Mathlib.Numerals.{add-one, add-two, add-three}
use native.Mathlib.Omega.{arith}
use lib.Ieee.{Float, nan}
use lib.ListN.{length, get_or, set, length-set}
use lib.Seq.{get_or-set_same, get_or-set_other}
use Rattle.base.specs.Loops.{times}
use Rattle.base.specs.LoopLaws.{same_from, times-suc}
use Rattle.mesh.specs.declared.vectors.V3.{V3}
use Rattle.mesh.specs.declared.triangles.Triangle.{Triangle}
use Rattle.mesh.specs.Vectors.{norm}
use Rattle.lanes.specs.Factors.{Each, factor}
use Rattle.mesh.specs.declared.dunavant.Node.{Node}
use Rattle.mesh.specs.Dunavant.{node}
use Rattle.volume.specs.Volume.{flux, flux_step, face_sum, volume_from}
use Rattle.volume.specs.Laws.{volume_more}
use Rattle.volume.specs.Block.{square_of, height_of, set_at, seven_set, squares_of, heights_of, Points, share_step}
use Rattle.volume.specs.Block.{seven_shares, all_shares}

-- ---- a face's elements, stored one after another

module _ (v : Node → Float) (at : ℕ) (xs : List Float) where
  -- the list once n of them are stored
  abbrev stored : ℕ → List Float
  stored n = times (set_at v at) n 0 xs

  one_more : (n : ℕ) → stored (suc n) ≡ set (stored n) (at + n) (v (node n))
  one_more n = rw zero-add at (times-suc (set_at v at) n 0 xs)

  stored-length : (n : ℕ) → length (stored n) ≡ length xs
  unfolding times
  stored-length zero = refl
  stored-length (suc n) = rw (one_more n, length-set) (stored-length n)

  -- an element before them stays
  stored-before : (n j : ℕ) → j < at → get_or (stored n) j nan ≡ get_or xs j nan
  unfolding times
  stored-before zero j h = refl
  stored-before (suc n) j h =
      rw (one_more n)
      (get_or-set_other (stored n) (at + n) j (v (node n)) nan (λ e. omega (arith, e)) ∙ stored-before n j h)

  -- an element among them is the one stored
  stored-among : (n k : ℕ) → at + n ≤ length xs → k < n → get_or (stored n) (at + k) nan ≡ v (node k)
  stored-among zero k h m = absurd (not-suc-le-zero m)
  stored-among (suc n) k h m = rw (one_more n) (elim (eq-or-lt_of_le (le_of_suc-le-suc m)) [
    | inl e ↦ rw e (get_or-set_same (stored n) (at + n) (v (node n)) nan (rw (stored-length n) (omega arith)))
    | inr l ↦
        get_or-set_other (stored n) (at + n) (at + k) (v (node n)) nan (λ e. omega (arith, e, l))
        ∙ stored-among n k (omega arith) l
  ])

module _ {v : ℕ → Node → Float} where
  pub no_points : {xs : List Float} → length xs ≡ 28 → Points v 0 xs
  no_points e = record { long = e; at = λ j k h m. absurd (omega arith) }

  pub more_points : {n : ℕ} {xs ys : List Float} → Points v n xs → n < 4 → ys ≡ seven_set (v n) (7 * n) xs
      → Points v (n + 1) ys
  unfolding seven_set
  more_points {n} {xs} p h e =
      subst⁻¹ (Points v (n + 1)) e
      (record { long = stored-length (v n) (7 * n) xs 7 ∙ p.long; at = λ j k l m. here j k (omega arith) m })
    where
      here : (j k : ℕ) → j ≤ n → k < 7 → get_or (stored (v n) (7 * n) xs 7) (7 * j + k) nan ≡ v j (node k)
      here j k l m = elim (eq-or-lt_of_le l) [
        | inl e ↦ rw e (stored-among (v n) (7 * n) xs 7 k (omega (arith, p.long)) m)
        | inr g ↦ stored-before (v n) (7 * n) xs 7 (7 * j + k) (omega arith) ∙ p.at j k g m
      ]

-- ---- the shares

-- a face's shares are what `face_sum` adds
module _ (t : ℕ → Triangle) (c : V3) (sigma : Float) (f : ℕ) {x g heights : List Float}
    (square : Points (squares_of t c f) 4 x) (factors : Each (factor sigma) x g)
    (height : Points (heights_of t c f) 4 heights) where
  one-share : (j : ℕ) → j < 4 → (k : ℕ) (s : Float) → k < 7
      → share_step g heights (7 * j) k s ≡ flux_step (t (f + j)) c sigma k s
  unfolding flux square_of height_of norm
  one-share j h k s m = rw (factors.at (7 * j + k) (omega arith), square.at j k h m, height.at j k h m) refl

  one-face : (j : ℕ) (s : Float) → j < 4 → seven_shares g heights (7 * j) s ≡ face_sum (t (f + j)) c sigma s
  unfolding seven_shares face_sum
  one-face j s h = same_from (one-share j h) 7 0 s (omega arith)

  pub four_faces : (sum : Float) → all_shares g heights sum ≡ volume_from t c sigma f (f + 4) sum
  unfolding all_shares volume_from times
  four_faces sum =
      let e : f + 4 - f ≡ 4 = omega arith in
      rw (
        e,
        one-face 0 _ (omega arith),
        one-face 1 _ (omega arith),
        one-face 2 _ (omega arith),
        one-face 3 _ (omega arith),
        add-zero,
        add-one,
        add-two,
        add-three,
      ) refl

-- ---- more blocks

module _ (t : ℕ → Triangle) (c : V3) (sigma : Float) where
  pub no_block : (from : ℕ) (sum : Float) → volume_from t c sigma from (from + 4 * 0) sum ≡ sum
  unfolding volume_from times
  no_block from sum =
      let e : from + 4 * 0 - from ≡ 0 = omega arith in
      rw e refl

  pub one_block : (from i : ℕ) (sum : Float) {s r : Float} → s ≡ volume_from t c sigma from (from + 4 * i) sum
      → r ≡ volume_from t c sigma (from + 4 * i) (from + 4 * i + 4) s
      → r ≡ volume_from t c sigma from (from + 4 * (i + 1)) sum
  one_block from i sum e f =
      let m : from + 4 * (i + 1) ≡ from + 4 * i + 4 = omega arith in
      rw (m, f, e) (volume_more t c sigma from (from + 4 * i) (from + 4 * i + 4) sum (omega arith) (omega arith))
