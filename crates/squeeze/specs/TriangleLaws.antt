-- A squeezed mesh has the triangles of the mesh, and is sound as it was. Assumes nothing.
use Rattle.std.specs.Prelude.{◌≡◌, cond, eqb, get_or, Float}
use Rattle.std.proofs.Math.Path.{refl}
use Rattle.std.proofs.Common.{sym, ◌∙◌, add-zero, arith, get_or-append-add, eq-eqb, lt-ltb}
use Rattle.std.proofs.Math.Bool.{true, or-true}
use mathlib.Core.List.{List, [], ◌∷◌, ◌++◌, map}
use Prim.Native.Nat.{ℕ, zero, suc, ◌+◌, ◌*◌, ◌<◌}
use Rattle.std.proofs.Math.Decide.{dec_lt}
use Rattle.std.proofs.Math.ListN.{length, get_or-append, get_or-map}
use Rattle.std.specs.Float.{nan}
use Rattle.mesh.specs.Triangles.{vertex, triangle_at}
use Rattle.mesh.specs.TriangleLaws.{same-named}
use Rattle.mesh.specs.Checks.{all_below}
use Rattle.mesh.specs.Corners.{Below}
use Rattle.squeeze.specs.Squeeze.{used, rank, renumbered, point_of, kept_to}
use Rattle.squeeze.specs.SqueezeLaws.{kept-length}

-- a vertex that a corner names is used
pub corner_used : (ks : List ℕ) (j : ℕ) → j < length ks → used ks (get_or ks j 0) ≡ true
unfolding used
corner_used [] j h = absurd (omega arith)
corner_used (k ∷ ks) zero h = rw (eq-eqb k k refl) refl
corner_used (k ∷ ks) (suc j) h = rw (corner_used ks j (omega arith)) (or-true (eqb k (get_or ks j 0)))

-- a used vertex is counted past itself
pub rank_lt : (ks : List ℕ) (i n : ℕ) → used ks i ≡ true → i < n → rank ks i < rank ks n
unfolding rank
rank_lt ks i zero u h = absurd (omega arith)
rank_lt ks i (suc n) u h = go (λ (l : i < n). rank_lt ks i n u l) (dec_lt i n)
  where
    go : (i < n → rank ks i < rank ks n) → Dec (i < n) → rank ks i < rank ks n + cond (used ks n) 1 0
    go ih (yes l) = omega (arith, ih l)
    go ih (no l) = let e : i ≡ n = omega arith in rw (← e, u) (omega arith)

-- "A used vertex is kept": it stands at its new number
pub kept_at : (ks : List ℕ) (xs : List Float) (i n j : ℕ) → used ks i ≡ true → i < n → j < 3
    → get_or (kept_to ks xs n) (3 * rank ks i + j) nan ≡ get_or (point_of xs i) j nan
unfolding kept_to
kept_at ks xs i zero j u h hj = absurd (omega arith)
kept_at ks xs i (suc n) j u h hj = go (λ (l : i < n). kept_at ks xs i n j u l hj) (dec_lt i n)
  where
    go : (i < n → get_or (kept_to ks xs n) (3 * rank ks i + j) nan ≡ get_or (point_of xs i) j nan) → Dec (i < n)
        → get_or (kept_to ks xs n ++ cond (used ks n) (point_of xs n) []) (3 * rank ks i + j) nan
        ≡ get_or (point_of xs i) j nan
    go ih (yes l) =
        let e = kept-length ks xs n in
        get_or-append (kept_to ks xs n) (cond (used ks n) (point_of xs n) []) nan (3 * rank ks i + j)
        (omega (arith, rank_lt ks i n u l)) ∙ ih l
    go ih (no l) =
        let e : n ≡ i = omega arith in
        let k : 3 * rank ks i ≡ length (kept_to ks xs i) = sym (kept-length ks xs i) in
        rw (e, u, k) (get_or-append-add (kept_to ks xs i) (point_of xs i) j nan)

pub same-vertex : (ks : List ℕ) (xs : List Float) (i n : ℕ) → used ks i ≡ true → i < n
    → vertex (kept_to ks xs n) (rank ks i) ≡ vertex xs i
unfolding vertex
same-vertex ks xs i n u h =
    let z : 3 * rank ks i + 0 ≡ 3 * rank ks i = add-zero (3 * rank ks i) in
    let a : get_or (kept_to ks xs n) (3 * rank ks i) nan ≡ get_or xs (3 * i) nan = rw z at
    (kept_at ks xs i n 0 u h (omega arith)) in
    rw (a, kept_at ks xs i n 1 u h (omega arith), kept_at ks xs i n 2 u h (omega arith)) refl

pub corner_at : (ks : List ℕ) (j : ℕ) → get_or (renumbered ks) j 0 ≡ rank ks (get_or ks j 0)
unfolding rank
corner_at ks j = get_or-map (rank ks) ks j 0

module _ (ks : List ℕ) (xs : List Float) (n : ℕ) (b : Below n ks) where
  same-corner : (j : ℕ) → j < length ks
      → vertex (kept_to ks xs n) (get_or (renumbered ks) j 0) ≡ vertex xs (get_or ks j 0)
  same-corner j h = rw (corner_at ks j) (same-vertex ks xs (get_or ks j 0) n (corner_used ks j h) (b.corner j h))

  pub same_triangle : (f : ℕ) → 3 * f + 2 < length ks
      → triangle_at (kept_to ks xs n) (renumbered ks) f ≡ triangle_at xs ks f
  same_triangle f h = same-named xs (kept_to ks xs n) ks (renumbered ks) same-corner f h

  -- corners are in range again
  pub rank_below : (j : ℕ) → j < length ks → rank ks (get_or ks j 0) < rank ks n
  rank_below j h = rank_lt ks (get_or ks j 0) n (corner_used ks j h) (b.corner j h)

  pub still_below : all_below (rank ks n) (renumbered ks) ≡ true
  unfolding all_below
  still_below = go ks rank_below
    where
      go : (ls : List ℕ) → ((j : ℕ) → j < length ls → rank ks (get_or ls j 0) < rank ks n)
          → all_below (rank ks n) (map (rank ks) ls) ≡ true
      go [] h = refl
      go (l ∷ ls) h =
          rw (lt-ltb (rank ks l) (rank ks n) (h zero (omega arith)), go ls (λ j z. h (suc j) (omega arith))) refl
