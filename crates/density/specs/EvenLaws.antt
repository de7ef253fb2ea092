-- 02, L14: "sigma and its negative give the same density at each point". Assumes nothing.
use Rattle.std.specs.Prelude.{◌≡◌, refl, List, Float}
use Rattle.std.proofs.Common.{ap, ◌∙◌, inl, inr}
use Rattle.base.specs.Floats.{abs}
use Rattle.base.specs.SignLaws.{mul-neg-both, abs-either}
use Rattle.kernel.specs.declared.kernel.Kernel.{Kernel}
use Rattle.kernel.specs.Kernels.{turned}
use Rattle.density.specs.Densitize.{base_at, density_of}

-- whatever its exponent: the density takes sigma · sigma alone
pub density_even : (k : Kernel) (x : List Float) → density_of (turned k) x ≡ density_of k x
unfolding density_of base_at
density_even k x = rw (mul-neg-both k.sigma k.sigma) refl

abbrev with_sigma : Kernel → Float → Kernel
with_sigma k s = record { c = k.c; sigma = s; w = k.w; alpha = k.alpha }

pub density_abs : (k : Kernel) (x : List Float) → density_of (with_sigma k (abs k.sigma)) x ≡ density_of k x
density_abs k x = elim (abs-either k.sigma) [
  | inl e ↦ ap (λ (s : Float). density_of (with_sigma k s) x) e
  | inr e ↦ ap (λ (s : Float). density_of (with_sigma k s) x) e ∙ density_even k x
]
