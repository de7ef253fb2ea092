-- What a step computes of up to 64 points at once, for the functions' contracts. Definitions only.
use Rattle.std.specs.Prelude.{◌≡◌, List, [], ◌∷◌, ℕ, ◌+◌, ◌*◌, ◌<◌, length, get_or, Float}
use Rattle.std.specs.Float.{nan}
use Rattle.base.specs.Floats.{◌⊕◌, ◌⊖◌, ◌⊗◌, ◌⊘◌, +0}
use Rattle.base.specs.Constants.{one}
use Rattle.kernel.specs.declared.kernel.Kernel.{Kernel}
use Rattle.density.specs.Densitize.{density_of}
use Rattle.along.specs.declared.along.UnitKernel.{UnitKernel}

-- a kernel without its exponent
abbrev pub unit_of : Kernel → UnitKernel
unit_of k =
    record { x = get_or k.c 0 nan; y = get_or k.c 1 nan; z = get_or k.c 2 nan; sigma = k.sigma; w = k.w }

-- what a kernel of exponent 1 adds
unfoldable pub unit_term : Float → Float → Float → Float → Float → Float → Float → Float → Float
unit_term cx cy cz sigma w x y z =
    w ⊘ (one ⊕ sigma ⊗ sigma ⊗ ((x ⊖ cx) ⊗ (x ⊖ cx) ⊕ (y ⊖ cy) ⊗ (y ⊖ cy) ⊕ (z ⊖ cz) ⊗ (z ⊖ cz)))

abbrev pub unit_at : UnitKernel → Float → Float → Float → Float
unit_at u x y z = unit_term u.x u.y u.z u.sigma u.w x y z

-- p of each of the first n elements of 64, with its place
pub record Lanes (n : ℕ) (p : ℕ → Float → Type 0) (ys : List Float) : Type 0 where
  pub long : length ys ≡ 64
  pub at : (i : ℕ) → i < n → p i (get_or ys i nan)

-- the point of which xs, ys and zs have the coordinates at i
abbrev pub lane : List Float → List Float → List Float → ℕ → List Float
lane xs ys zs i = get_or xs i nan ∷ get_or ys i nan ∷ get_or zs i nan ∷ []

abbrev pub Thirds : ℕ → List Float → ℕ → List Float → Type 0
Thirds n ps from xs = Lanes n (λ i x. x ≡ get_or ps (from + 3 * i) nan) xs

abbrev pub Zeros : ℕ → List Float → Type 0
Zeros n rs = Lanes n (λ i r. r ≡ +0) rs

-- what a kernel adds is added to each
abbrev pub Added : ℕ → Kernel → List Float → List Float → List Float → List Float → List Float → Type 0
Added n k xs ys zs before after = Lanes n (λ i r. r ≡ get_or before i nan ⊕ density_of k (lane xs ys zs i)) after

-- what two kernels add, one after the other
abbrev pub BothAdded : ℕ → Kernel → Kernel → List Float → List Float → List Float → List Float → List Float → Type 0
BothAdded n k l xs ys zs before after =
    Lanes n (λ i r. r ≡ get_or before i nan ⊕ density_of k (lane xs ys zs i) ⊕ density_of l (lane xs ys zs i)) after

abbrev pub Summed : ℕ → (List Float → Float) → List Float → List Float → List Float → List Float → Type 0
Summed n f xs ys zs rs = Lanes n (λ i r. r ≡ f (lane xs ys zs i)) rs
