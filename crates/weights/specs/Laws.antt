-- The weights depend on a mesh only through its triangles: equal triangles, equal results. Assumes nothing.
use Rattle.std.specs.Prelude.{◌≡◌, List, ℕ, ◌<◌, Float, Option}
use Rattle.std.proofs.Math.Path.{ap}
use Rattle.base.specs.Floats.{◌⊕◌, +0}
use Rattle.base.specs.LoopLaws.{times-same}
use Rattle.kernel.specs.declared.kernel.Kernel.{Kernel}
use Rattle.mesh.specs.declared.triangles.Triangle.{Triangle}
use Rattle.kernel.specs.Field.{centre_of}
use Rattle.source.specs.Laws.{same_volume, same_enclosed}
use Rattle.weights.specs.Weights.{kernel_mass, raw_mass_lem, normalized_run}
use Rattle.weights.specs.Calibration.{farther_face, reach_of, calibrated_run}

module _ {t u : ℕ → Triangle} {n : ℕ} (same : (f : ℕ) → f < n → t f ≡ u f) where
  pub same-reach : reach_of t n ≡ reach_of u n
  unfolding reach_of
  same-reach = times-same (λ f s h. ap (λ (x : Triangle). farther_face s x) (same f h)) +0

  same_kernel_lem : (k : Kernel) → kernel_mass t n k ≡ kernel_mass u n k
  unfolding kernel_mass
  same_kernel_lem k = rw (same_volume same (centre_of k) k.sigma)

  pub same_mass : (k : ℕ → Kernel) (m : ℕ) → raw_mass_lem t n k m ≡ raw_mass_lem u n k m
  unfolding raw_mass_lem
  same_mass k m = times-same (λ i s h. ap (λ (v : Float). s ⊕ v) (same_kernel_lem (k i))) +0

  pub same-normalized : (k : ℕ → Kernel) (m : ℕ) (target : Float) (run : List Float)
      → normalized_run t n k m target run ≡ normalized_run u n k m target run
  unfolding normalized_run
  same-normalized k m target run = rw (same_mass k m)

  pub same-calibrated : (ks : List Float) (mean : Option Float) (total : Float) (run : List Float)
      → calibrated_run t n ks mean total run ≡ calibrated_run u n ks mean total run
  unfolding calibrated_run
  same-calibrated ks mean total run = rw (same-reach, same_enclosed same, same-normalized _ _ _ _)
