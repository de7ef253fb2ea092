-- 02, L4, "How a fit ended": what a decomposition passes on of the solver, and how an answer carries it. Definitions
-- only.
use Rattle.std.specs.Prelude.{ℕ, cond, Float}
use Rattle.std.specs.Float.Ieee.{ne}
use Rattle.base.specs.Floats.{+0}
use Rattle.solve.specs.Elimination.{Ended, reduced, flat}
use Rattle.kernel.specs.declared.kernel.Kernel.{Kernel}
use Rattle.pieces.specs.declared.fit.Fit.{Fit}
use Rattle.pieces.specs.declared.fit.Fit.TheVariants.{Kept, Fitted, Fallback, NoExponent}
use Rattle.pieces.specs.Pieces.{delta, stays, size_of, curve_of, solved_by}

-- ---- how it ended

-- "fitted with that pivot, fallback with that column"
unfoldable pub ended_fit : Ended → Fit
ended_fit (reduced s m) = Fitted s
ended_fit (flat c) = Fallback c

-- "one of kept, fitted with that pivot, fallback with that column, or no exponent": the last where alpha is a NaN
unfoldable pub fit_of : Kernel → Float → Fit
fit_of k radius =
    cond (stays k.alpha) Kept
    (cond (ne k.alpha k.alpha) NoExponent
    (ended_fit (solved_by (size_of (delta k.alpha)).terms (curve_of k radius))))

-- ---- in an answer: which of the four, 0 to 3 in their order, then column and pivot, 0 where it has none
abbrev pub kind_of : Fit → ℕ
kind_of Kept = 0
kind_of (Fitted s) = 1
kind_of (Fallback c) = 2
kind_of NoExponent = 3

abbrev pub column_of : Fit → ℕ
column_of Kept = 0
column_of (Fitted s) = 0
column_of (Fallback c) = c
column_of NoExponent = 0

abbrev pub pivot_told : Fit → Float
pivot_told Kept = +0
pivot_told (Fitted s) = s
pivot_told (Fallback c) = +0
pivot_told NoExponent = +0
