-- Laws of the centroid and the mass: they see a mesh by its triangles alone. Assumes nothing.
use Rattle.std.specs.Prelude.{◌≡◌, ℕ, ◌<◌, List, Float}
use Rattle.std.proofs.Math.Path.{ap}
use Rattle.base.specs.Floats.{◌⊕◌, ◌⊗◌, +0}
use Rattle.base.specs.LoopLaws.{times-same}
use Rattle.kernel.specs.Kernels.{kernel_at}
use Rattle.mesh.specs.declared.triangles.Triangle.{Triangle}
use Rattle.kernel.specs.Field.{centre_of}
use Rattle.volume.specs.Volume.{origin_point}
use Rattle.volume.specs.Laws.{same_volume}
use Rattle.mass.specs.Centroid.{face_moment, moment_to, volume_centroid}
use Rattle.mass.specs.Total.{field_mass}

-- the same triangles
module _ {t u : ℕ → Triangle} {n : ℕ} (same : (f : ℕ) → f < n → t f ≡ u f) where
  pub same-moment : moment_to t n ≡ moment_to u n
  unfolding moment_to
  same-moment = times-same (λ f s h. ap (λ (x : Triangle). face_moment x s) (same f h)) origin_point

  pub same_centroid : volume_centroid t n ≡ volume_centroid u n
  unfolding volume_centroid
  same_centroid = rw (same-moment, same_volume same origin_point +0)

  pub same_mass : (kernels : List Float) → field_mass t n kernels ≡ field_mass u n kernels
  unfolding field_mass
  same_mass kernels =
      times-same (λ i s h. let k = kernel_at kernels i in ap (λ (v : Float). s ⊕ k.w ⊗ v)
      (same_volume same (centre_of k) k.sigma)) +0
