-- Laws of the volume: a fold over the faces, which sees a mesh by its triangles alone. Assumes nothing.
use Rattle.std.specs.Prelude.{◌≡◌, ℕ, suc, ◌+◌, ◌-◌, ◌≤◌, ◌<◌, Float}
use Rattle.std.proofs.Common.{sym}
use Rattle.std.proofs.Math.Path.{ap, refl}
use Rattle.std.proofs.Math.Nat.{zero-add, sub-zero}
use native.Mathlib.Omega.{arith}
use Rattle.base.specs.Floats.{+0}
use Rattle.base.specs.Loops.{times}
use Rattle.base.specs.LoopLaws.{times-same, times-suc, times_more}
use Rattle.mesh.specs.declared.vectors.V3.{V3}
use Rattle.mesh.specs.declared.triangles.Triangle.{Triangle}
use Rattle.volume.specs.Volume.{face_sum, face_step, volume_to, volume_from, kernel_volume}

-- ---- one face more

module _ (t : ℕ → Triangle) (c : V3) (sigma : Float) where
  pub volume_suc : (k : ℕ) → volume_to t c sigma (suc k) ≡ face_sum (t k) c sigma (volume_to t c sigma k)
  unfolding volume_to
  volume_suc k = rw zero-add at (times-suc (face_step t c sigma) k 0 +0)

  -- the faces up to `mid`, then the rest
  pub volume_more : (from mid to : ℕ) (sum : Float) → from ≤ mid → mid ≤ to
      → volume_from t c sigma mid to (volume_from t c sigma from mid sum) ≡ volume_from t c sigma from to sum
  unfolding volume_from
  volume_more from mid to sum h k =
      let e : to - from ≡ (mid - from) + (to - mid) = omega arith in
      let m : from + (mid - from) ≡ mid = omega arith in
      rw e (sym (rw m at (times_more (face_step t c sigma) (mid - from) (to - mid) from sum)))

  -- no face, and one face more
  pub from_none : (from : ℕ) (sum : Float) → volume_from t c sigma from from sum ≡ sum
  unfolding volume_from times
  from_none from sum =
      let e : from - from ≡ 0 = omega arith in
      rw e refl

  pub from_next : (from to : ℕ) (sum : Float) → from ≤ to
      → volume_from t c sigma from (to + 1) sum ≡ face_sum (t to) c sigma (volume_from t c sigma from to sum)
  unfolding volume_from
  from_next from to sum h =
      let e : to + 1 - from ≡ suc (to - from) = omega arith in
      let m : from + (to - from) ≡ to = omega arith in
      rw e (rw m at (times-suc (face_step t c sigma) (to - from) from sum))

  -- all faces, from the first on
  pub from_start : (n : ℕ) → volume_from t c sigma 0 n +0 ≡ kernel_volume t n c sigma
  unfolding volume_from volume_to
  from_start n = rw sub-zero refl

-- ---- the same triangles

module _ {t u : ℕ → Triangle} {n : ℕ} (same : (f : ℕ) → f < n → t f ≡ u f) where
  pub same_volume : (c : V3) (sigma : Float) → kernel_volume t n c sigma ≡ kernel_volume u n c sigma
  unfolding volume_to
  same_volume c sigma = times-same (λ f s h. ap (λ (x : Triangle). face_sum x c sigma s) (same f h)) +0
