-- A triangle goes by the coordinates of the vertices that its corners name, and not by their numbers. Assumes nothing.
use Rattle.std.specs.Prelude.{◌≡◌, List, ℕ, ◌+◌, ◌*◌, ◌<◌, length, Float}
use Rattle.std.proofs.Math.Path.{refl}
use Rattle.std.proofs.Math.Nat.{add-zero}
use Rattle.std.proofs.Common.{arith}
use Rattle.std.proofs.Math.ListN.{get_or}
use Rattle.std.specs.Float.Ieee.{nan}
use Rattle.mesh.specs.Triangles.{vertex, triangle_at}

module _ (xs ys : List Float) where
  -- two vertices of equal coordinates
  pub same-vertex : (i k : ℕ) → ((j : ℕ) → j < 3 → get_or ys (3 * k + j) nan ≡ get_or xs (3 * i + j) nan)
      → vertex ys k ≡ vertex xs i
  unfolding vertex
  same-vertex i k same =
      let first : get_or ys (3 * k) nan ≡ get_or xs (3 * i) nan
      = rw (add-zero (3 * k), add-zero (3 * i)) at (same 0 (omega arith)) in
      rw (first, same 1 (omega arith), same 2 (omega arith)) refl

  -- two meshes whose corners name equal vertices
  pub same-named : (ks ls : List ℕ) → ((j : ℕ) → j < length ks → vertex ys (get_or ls j 0) ≡ vertex xs (get_or ks j 0))
      → (f : ℕ) → 3 * f + 2 < length ks → triangle_at ys ls f ≡ triangle_at xs ks f
  unfolding triangle_at
  same-named ks ls same f h = rw (same (3 * f) (omega arith), same (3 * f + 1) (omega arith), same (3 * f + 2) h) refl
