-- 02, L6: whose fits an old store may hold. Assumes nothing.
use mathlib.Core.List.{List}
use lib.Ieee.{Float}
use Rattle.kernel.specs.declared.kernel.Kernel.{Kernel}
use Rattle.pieces.specs.Pieces.{decomposed}
use Rattle.pieces.specs.PieceLaws.{fitted_with, at_most_16, with_at_most_16, clean, with_clean}
use Rattle.machine.specs.OldStore.{Fitting}

-- 01's steps with any scales, coefficients and error: those of 01's own powers, whatever they were, are among them
pub any_powers : (scales coefs : Kernel → Float → List Float) (error : Kernel → Float → Float)
    → Fitting (λ k radius. fitted_with k (scales k radius) (coefs k radius) (error k radius))
any_powers scales coefs error =
    record {
      few = λ k radius. with_at_most_16 k (scales k radius) (coefs k radius) (error k radius);
      clean = λ k radius. with_clean k (scales k radius) (coefs k radius) (error k radius);
    }

-- and today's decomposition is one
pub today : Fitting decomposed
today = record { few = at_most_16; clean = clean }
