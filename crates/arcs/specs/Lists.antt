-- The first elements of a list of floats, one by one. Definitions only.
use Rattle.std.specs.Prelude.{ℕ, ◌<◌, ◌≡◌, List, get_or, Float}
use Rattle.std.specs.Float.{nan}

-- p of each of the first n elements of ys, with its place
pub record First (n : ℕ) (p : ℕ → Float → Type 0) (ys : List Float) : Type 0 where
  pub at : (i : ℕ) → i < n → p i (get_or ys i nan)

-- y is f of the element of xs at place i
abbrev pub Of : (Float → Float) → List Float → ℕ → Float → Type 0
Of f xs i y = y ≡ f (get_or xs i nan)

-- each of the first n elements of ys is f of the element of xs at its place
abbrev pub Each : ℕ → (Float → Float) → List Float → List Float → Type 0
Each n f xs ys = First n (Of f xs) ys
