-- The radial factors of 28 points at once, element by element. Definitions only.
use Rattle.std.specs.Prelude.{ℕ, ◌<◌, List, get_or, Float}
use Rattle.std.specs.Float.{nan, binary64}
use Rattle.base.specs.Floats.{◌⊗◌}
use Rattle.root.specs.Root.{square_root}
use Rattle.radial.specs.Radial.{radial_g}
use Rattle.arcs.specs.Lists.{Of}

-- the radial factor at a point, x being the square of its distance
abbrev pub factor : Float → Float → Float
factor sigma x = radial_g (sigma ⊗ square_root binary64 x)

-- p of each of the 28 elements of ys, with its place
pub record All (p : ℕ → Float → Type 0) (ys : List Float) : Type 0 where
  pub at : (i : ℕ) → i < 28 → p i (get_or ys i nan)

-- each of the 28 elements of ys is f of the element of xs at its place
abbrev pub Each : (Float → Float) → List Float → List Float → Type 0
Each f xs ys = All (Of f xs) ys
