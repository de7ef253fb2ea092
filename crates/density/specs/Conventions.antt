-- 01, "Volume, mass, weights": the conventions, native density.rs's `from_toml_impl`. Definitions only.
use Rattle.std.specs.Prelude.{Bool, true, false, cond, ◌&&◌, Float}
use Rattle.std.specs.Float.{nan, inf, fin}
use Rattle.std.specs.Float.Ieee.{lt}
use Rattle.base.specs.Floats.{◌⊘◌, +0, abs}
use Rattle.base.specs.Constants.{one, default_bulk, scale_limit}
use Rattle.density.specs.declared.convention.Convention.{Convention}
use Rattle.density.specs.declared.convention.Convention.TheVariants.{Raw, Rho0, Mass}

-- x where it is above 0, else d
abbrev pub above_zero_or : Float → Float → Float
above_zero_or x d = cond (lt +0 x) x d

-- "Raw reports with bulk 1190", "Bulk not above 0 (or NaN) is 1190"
unfoldable pub bulk_of : Convention → Float
bulk_of Raw = default_bulk
bulk_of (Rho0 bulk) = above_zero_or bulk default_bulk
bulk_of (Mass target bulk) = above_zero_or bulk default_bulk

-- "raw and rho0 report target 0", "a target not above 0 (or NaN, or -0) is +0"
unfoldable pub target_of : Convention → Float
target_of Raw = +0
target_of (Rho0 bulk) = +0
target_of (Mass target bulk) = above_zero_or target +0

-- neither NaN nor an infinity
unfoldable pub finite : Float → Bool
finite nan = false
finite (inf s) = false
finite (fin s m e) = true

-- rho0's scale, where the density at the origin is above 1e-30 in size
unfoldable pub rho0_scale_lem : Float → Float → Float
rho0_scale_lem bulk rho0 = cond (lt scale_limit (abs rho0)) (bulk ⊘ rho0) one

-- there is a target, and a raw mass that is finite and not tiny; tiny is up to 1e-30
abbrev pub scalable : Float → Float → Bool
scalable target raw = lt +0 target && finite raw && lt scale_limit (abs raw)

-- "a non-finite or tiny raw mass, or no target, falls back to rho0"
unfoldable pub mass_scale : Float → Float → Float → Float
mass_scale target raw scale = cond (scalable target raw) (target ⊘ raw) scale

-- the scale on every weight, from the raw mass and rho0's scale
unfoldable pub applied_scale_lem : Convention → Float → Float → Float
applied_scale_lem Raw raw scale = one
applied_scale_lem (Rho0 bulk) raw scale = scale
applied_scale_lem (Mass target bulk) raw scale = mass_scale (target_of (Mass target bulk)) raw scale
