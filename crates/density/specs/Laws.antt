-- Laws of finite values and of the scale by mass. Assumes nothing.
use Rattle.std.specs.Prelude.{◌≡◌, refl, true, false, Float}
use Rattle.std.specs.Float.{nan, inf, fin, float_is_finite}
use Rattle.std.specs.Float.Ieee.{lt}
use Rattle.base.specs.Floats.{◌⊘◌, abs}
use Rattle.density.specs.declared.convention.Convention.TheVariants.{Mass}
use Rattle.density.specs.Conventions.{target_of, finite, scalable, mass_scale, applied_scale_lem}

-- what is finite is what std calls so
pub finite_is : (x : Float) → float_is_finite x ≡ finite x
unfolding float_is_finite finite
finite_is nan = refl
finite_is (inf s) = refl
finite_is (fin s m e) = refl

-- what is finite is what is below the infinity in size
pub below_infinity : (x : Float) → lt (abs x) (inf false) ≡ finite x
unfolding lt abs finite
below_infinity nan = refl
below_infinity (inf s) = refl
below_infinity (fin s m e) = refl

-- where there is a mass to scale, rho0's scale does not matter
pub scaled_mass : (target bulk raw scale : Float) → scalable (target_of (Mass target bulk)) raw ≡ true
    → applied_scale_lem (Mass target bulk) raw scale ≡ target_of (Mass target bulk) ⊘ raw
unfolding applied_scale_lem mass_scale
scaled_mass target bulk raw scale h = rw h refl

-- where there is none, the raw mass does not matter
pub unscaled_mass : (target bulk raw scale : Float) → scalable (target_of (Mass target bulk)) raw ≡ false
    → applied_scale_lem (Mass target bulk) raw scale ≡ scale
unfolding applied_scale_lem mass_scale
unscaled_mass target bulk raw scale h = rw h refl
