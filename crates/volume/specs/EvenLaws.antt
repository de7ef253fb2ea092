-- 02, L14: "sigma and its negative give .. the same volume", for every mesh, centre and sigma, after every face. A
-- factor of -t is that of t but for the sign of a zero (radial's EvenLaws); each product of a point keeps this, and the
-- running sum, which is never -0, does not see it (base's ZeroLaws). Assumes nothing.
use Rattle.std.specs.Prelude.{◌≡◌, ℕ, ◌-◌, T, Float}
use Rattle.std.proofs.Common.{ap, ◌∙◌, inl, inr}
use Rattle.std.specs.Float.Ieee.{binary64, neg, fits}
use Rattle.std.specs.Float.Ieee.Fits.{mul-fits}
use Rattle.base.specs.Floats.{◌⊗◌, +0, abs}
use Rattle.base.specs.Constants.{half}
use Rattle.base.specs.SignLaws.{mul-neg-left, abs-either}
use Rattle.base.specs.ZeroLaws.{Near, near-left, near-right, near_added, Running, running_zero, running_more}
use Rattle.base.specs.LoopLaws.{times_keeps, times-alike}
use Rattle.base.specs.Loops.{times}
use Rattle.mesh.specs.declared.vectors.V3.{V3}
use Rattle.mesh.specs.declared.triangles.Triangle.{Triangle}
use Rattle.mesh.specs.Vectors.{vsub, dot, norm}
use Rattle.mesh.specs.Triangles.{normal_of}
use Rattle.mesh.specs.declared.dunavant.Node.{Node}
use Rattle.mesh.specs.Dunavant.{node, point_of}
use Rattle.radial.specs.Radial.{radial_g}
use Rattle.radial.specs.EvenLaws.{even-near}
use Rattle.volume.specs.Volume.{flux, flux_step, face_sum, face_step, volume_to, volume_from, kernel_volume}

module _ (t : Triangle) (c : V3) (sigma : Float) where
  -- what a point adds
  flux-near : (n : V3) (k : Node) → Near (flux t n c (neg sigma) k) (flux t n c sigma k)
  unfolding flux
  flux-near n k =
      let d = vsub (point_of t k) c in
      let g : Near (radial_g (neg sigma ⊗ norm d)) (radial_g (sigma ⊗ norm d)) =
      rw (mul-neg-left sigma (norm d)) (even-near (sigma ⊗ norm d)) in
      near-left (near-left (near-right g k.w) (dot d n)) half

  flux-fits : (n : V3) (k : Node) → T (fits binary64 (flux t n c sigma k))
  unfolding flux
  flux-fits n k = let d = vsub (point_of t k) c in mul-fits binary64 (k.w ⊗ radial_g (sigma ⊗ norm d) ⊗ dot d n) half

  point-same : (i : ℕ) (s : Float) → Running s → flux_step t c (neg sigma) i s ≡ flux_step t c sigma i s
  point-same i s r =
      let n = normal_of t in
      near_added s (flux t n c (neg sigma) (node i)) (flux t n c sigma (node i)) r.plus (flux-near n (node i))

  point-running : (i : ℕ) (s : Float) → Running s → Running (flux_step t c sigma i s)
  point-running i s r = running_more s (flux t (normal_of t) c sigma (node i)) (flux-fits (normal_of t) (node i)) r

  -- a face
  face-even : (s : Float) → Running s → face_sum t c (neg sigma) s ≡ face_sum t c sigma s
  unfolding face_sum
  face-even s r =
      times-alike Running (flux_step t c (neg sigma)) (flux_step t c sigma) point-same point-running 7 0 s r

  face-running : (s : Float) → Running s → Running (face_sum t c sigma s)
  unfolding face_sum
  face-running s r =
      times_keeps Running (flux_step t c (neg sigma)) (flux_step t c sigma) point-same point-running 7 0 s r

module _ (t : ℕ → Triangle) (c : V3) (sigma : Float) where
  -- k faces from f on, on a sum that is not -0
  faces-even : (k f : ℕ) (s : Float) → Running s
      → times (face_step t c (neg sigma)) k f s ≡ times (face_step t c sigma) k f s
  faces-even k f s r =
      times-alike Running (face_step t c (neg sigma)) (face_step t c sigma)
      (λ i x h. face-even (t i) c sigma x h) (λ i x h. face-running (t i) c sigma x h) k f s r

  faces-abs : (k f : ℕ) (s : Float) → Running s
      → times (face_step t c (abs sigma)) k f s ≡ times (face_step t c sigma) k f s
  faces-abs k f s r = elim (abs-either sigma) [
    | inl e ↦ ap (λ (x : Float). times (face_step t c x) k f s) e
    | inr e ↦ ap (λ (x : Float). times (face_step t c x) k f s) e ∙ faces-even k f s r
  ]

  -- ---- the first n faces
  pub volume_even : (n : ℕ) → volume_to t c (neg sigma) n ≡ volume_to t c sigma n
  unfolding volume_to
  volume_even n = faces-even n 0 +0 running_zero

  pub volume_abs : (n : ℕ) → volume_to t c (abs sigma) n ≡ volume_to t c sigma n
  unfolding volume_to
  volume_abs n = faces-abs n 0 +0 running_zero

  -- ---- all n of them: `kernel_volume`
  pub kernel_volume_even : (n : ℕ) → kernel_volume t n c (neg sigma) ≡ kernel_volume t n c sigma
  kernel_volume_even n = volume_even n

  -- ---- the faces from `from` up to `to`, for code that works them by the absolute value
  pub from-abs : (from to : ℕ) (s : Float) → Running s
      → volume_from t c (abs sigma) from to s ≡ volume_from t c sigma from to s
  unfolding volume_from
  from-abs from to s r = faces-abs (to - from) from s r
