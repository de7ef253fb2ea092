-- Theorems of the definitions: 01's bench row of the density, and what 01 says of masses and targets that are no
-- numbers. Assumes nothing.
use Rattle.std.specs.Prelude.{◌≡◌, refl, Bool, true, List, [], ◌∷◌, ℕ, Float}
use Rattle.std.proofs.Math.Bool.{and-false}
use Rattle.std.specs.Float.{nan, inf}
use Rattle.std.specs.Float.Ieee.{add, sub, mul, div, of_bits, lt}
use Rattle.base.specs.Floats.{bits, +0, abs}
use Rattle.base.specs.FloatLaws.{Below, lower-inf, finite, is_below}
use Rattle.base.specs.Constants.{one, two}
use Rattle.base.specs.Loops.{times}
use Rattle.base.specs.Answers.{accepted}
use Rattle.kernel.specs.Kernels.{kernel_at, list_check}
use Rattle.density.specs.declared.convention.Convention.TheVariants.{Mass}
use Rattle.density.specs.Densitize.{base_at, density_of, densitize_of, densitized}
use Rattle.density.specs.Conventions.{target_of, mass_scale, applied_scale_lem}
use Rattle.density.specs.Conventions as conventions

-- ---- the density

-- opens the definitions on the way of a row; the power stays shut, since an exponent of 1 does not take it
unfoldable rows : ℕ
unfolding times add sub mul div of_bits lt abs kernel_at list_check base_at density_of densitize_of densitized
rows = 0

-- "w 2, sigma 1 at the origin, alpha 1: density 1 at (1,0,0)"
pub density_row : densitized (+0 ∷ +0 ∷ +0 ∷ one ∷ two ∷ one ∷ []) (one ∷ +0 ∷ +0 ∷ []) ≡ accepted (one ∷ [])
unfolding rows
density_row = refl

-- no kernel makes no density
pub no_kernels : (x : List Float) → densitized [] x ≡ accepted (+0 ∷ [])
unfolding densitized list_check densitize_of times
no_kernels x = refl

-- ---- "Infinite raw mass with a finite target: .. native falls back", to rho0's scale; a NaN does so too

pub infinite_mass : (s : Bool) (target bulk scale : Float) → applied_scale_lem (Mass target bulk) (inf s) scale ≡ scale
unfolding applied_scale_lem mass_scale conventions.finite
infinite_mass s target bulk scale = rw and-false

pub nan_mass : (target bulk scale : Float) → applied_scale_lem (Mass target bulk) nan scale ≡ scale
unfolding applied_scale_lem mass_scale conventions.finite
nan_mass target bulk scale = rw and-false

-- ---- "a target not above 0 (or NaN, or -0) is +0"

not-above : {t : Float} (bulk : Float) → Below t → target_of (Mass t bulk) ≡ +0
unfolding target_of lt of_bits
not-above bulk lower-inf = refl
not-above bulk (finite m e) = refl

pub target_below-zero : (t bulk : Float) → lt t +0 ≡ true → target_of (Mass t bulk) ≡ +0
target_below-zero t bulk h = not-above bulk (is_below t h)

pub target_nan : (bulk : Float) → target_of (Mass nan bulk) ≡ +0
unfolding target_of lt of_bits
target_nan bulk = refl

pub target_minus-zero : (bulk : Float) → target_of (Mass (bits 0x8000_0000_0000_0000) bulk) ≡ +0
unfolding target_of lt of_bits
target_minus-zero bulk = refl
