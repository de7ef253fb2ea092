-- The source volumes depend on a mesh only through its triangles: equal triangles, equal results. Assumes nothing.
use Rattle.std.specs.Prelude.{◌≡◌, ℕ, ◌<◌, Float}
use Rattle.std.proofs.Math.Path.{ap}
use Rattle.base.specs.Floats.{◌⊕◌, +0, abs}
use Rattle.base.specs.LoopLaws.{times-same}
use Rattle.mesh.specs.declared.vectors.V3.{V3}
use Rattle.mesh.specs.declared.triangles.Triangle.{Triangle}
use Rattle.source.specs.Volumes.{face_sum, kernel_volume, pyramid, signed_volume, enclosed_volume}

module _ {t u : ℕ → Triangle} {n : ℕ} (same : (f : ℕ) → f < n → t f ≡ u f) where
  pub same_volume : (c : V3) (sigma : Float) → kernel_volume t n c sigma ≡ kernel_volume u n c sigma
  unfolding kernel_volume
  same_volume c sigma = times-same (λ f s h. ap (λ (x : Triangle). face_sum x c sigma s) (same f h)) +0

  same-signed : signed_volume t n ≡ signed_volume u n
  unfolding signed_volume
  same-signed = times-same (λ f s h. ap (λ (x : Triangle). s ⊕ pyramid x) (same f h)) +0

  pub same_enclosed : enclosed_volume t n ≡ enclosed_volume u n
  same_enclosed = ap abs same-signed
