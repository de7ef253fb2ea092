-- A reading's sums over the pieces of a store, place by place and piece by piece. Definitions only.
use Rattle.std.specs.Prelude.{List, [], ◌∷◌, Float}
use Rattle.base.specs.Floats.{◌⊕◌, ◌⊗◌}
use Rattle.density.specs.Densitize.{density_of}
use Rattle.readings.specs.Readings.{Part, bare, rescaled, origin}

-- f at each part in order
abbrev pub fold : {S : Type 0} → (Part → S → S) → List Part → S → S
fold f [] a = a
fold f (p ∷ ps) a = fold f ps (f p a)

-- what a piece adds to the density at x, by a scale
abbrev pub scaled_step : Float → List Float → Part → Float → Float
scaled_step s x p rho = rho ⊕ density_of (rescaled s (bare p)) x

-- what it adds to the density at the origin, as it is
abbrev pub origin_step : Part → Float → Float
origin_step p rho = rho ⊕ density_of (bare p) origin

-- what it adds to the mass
abbrev pub mass_step : Part → Float → Float
mass_step p total = total ⊕ p.kernel.w ⊗ p.volume
