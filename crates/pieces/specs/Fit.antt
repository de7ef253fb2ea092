-- 01, "Pieces (`adaptive_cauchy_decompose`)": the fit of a kernel by kernels of exponent 1, in the Rust's order of
-- operations. Definitions only.
use Rattle.std.specs.Prelude.{ℕ, ◌-◌, ◌/◌, cond, List, [], eqb, get_or, set, replicate, Float}
use Rattle.std.specs.Float.{nan}
use Rattle.std.specs.Float.Ieee.{neg}
use Rattle.base.specs.Floats.{◌⊕◌, ◌⊖◌, ◌⊗◌, ◌⊘◌, whole, +0, abs, greater}
use Rattle.base.specs.Constants.{one, two, four, ridge}
use Rattle.base.specs.Loops.{times, table}
use Rattle.powers.specs.Power.{power, ten_to}
use Rattle.solve.specs.Elimination.{Matrix, cell, Ended, reduced, flat}
use Rattle.solve.specs.Solve.{answers}
use Rattle.pieces.specs.declared.points.Curve.{Curve}

-- 16 zeros, which the arrays of a fit are made of
abbrev pub zeros : List Float
zeros = replicate 16 +0

-- ---- the scales of the terms

-- 10 to the power -1 + 2·t, t = i / (terms - 1)
unfoldable pub term_scale : ℕ → ℕ → Float
term_scale terms i = ten_to (neg one ⊕ two ⊗ (whole i ⊘ whole (terms - 1)))

unfoldable pub scales_of : ℕ → List Float → List Float
scales_of terms xs = table (term_scale terms) terms xs

-- ---- the samples

-- u: +0 for j = 0, else 10 to the power -4 + (log10(umax) + 4)·t, t = j / (samples - 1)
unfoldable pub sample_of : Curve → ℕ → Float
sample_of curve j = cond (eqb j 0) +0 (ten_to (neg four ⊕ (curve.reach ⊕ four) ⊗ (whole j ⊘ whole (curve.samples - 1))))

-- the kernel's own value at u
unfoldable pub target_of : Float → Float → Float
target_of alpha u = power (one ⊕ u ⊗ u) (neg alpha)

-- ---- the normal equations

-- a term's value at u
abbrev pub term_of : Float → Float → Float
term_of scale u = one ⊘ (one ⊕ scale ⊗ u ⊗ (scale ⊗ u))

abbrev pub term_at : List Float → Float → ℕ → Float
term_at scales u i = term_of (get_or scales i nan) u

unfoldable pub basis_of : ℕ → List Float → Float → List Float → List Float
basis_of terms scales u xs = table (term_at scales u) terms xs

-- row a with one sample more: basis[a]·basis[b] in each column b, then basis[a]·target on the right side
abbrev pub cross_at : List Float → Float → ℕ → List Float → List Float
cross_at basis wa b row = set row b (get_or row b nan ⊕ wa ⊗ get_or basis b nan)

unfoldable pub crossed : ℕ → List Float → Float → List Float → List Float
crossed terms basis wa row = times (cross_at basis wa) terms 0 row

abbrev pub target_at : ℕ → Float → Float → List Float → List Float
target_at terms wa target row = set row terms (get_or row terms nan ⊕ wa ⊗ target)

abbrev pub crossed_row_at : ℕ → List Float → Float → ℕ → Matrix → Matrix
crossed_row_at terms basis target a m =
    set m a (target_at terms (get_or basis a nan) target (crossed terms basis (get_or basis a nan) (get_or m a [])))

-- every row with one sample more
unfoldable pub sampled : ℕ → List Float → Float → Matrix → Matrix
sampled terms basis target m = times (crossed_row_at terms basis target) terms 0 m

unfoldable pub sample_at : ℕ → List Float → Curve → ℕ → Matrix → Matrix
sample_at terms scales curve j m =
    sampled terms (basis_of terms scales (sample_of curve j) zeros) (target_of curve.alpha (sample_of curve j)) m

-- all samples in order
unfoldable pub equations : ℕ → List Float → Curve → Matrix → Matrix
equations terms scales curve m = times (sample_at terms scales curve) curve.samples 0 m

-- 1e-12 on the diagonal, after all samples
abbrev pub ridge_at : ℕ → Matrix → Matrix
ridge_at i m = set m i (set (get_or m i []) i (cell m i i ⊕ ridge))

unfoldable pub ridged : ℕ → Matrix → Matrix
ridged terms m = times ridge_at terms 0 m

-- ---- the coefficients

-- the solution, laid over xs; "Fallback when solve fails: coefficient 1 at terms/2"
unfoldable pub coefficients_of : ℕ → List Float → Ended → List Float
coefficients_of terms xs (reduced s m) = answers terms m xs
coefficients_of terms xs (flat c) = set xs (terms / 2) one

-- ---- the peak error

-- the fit's value at u: a sum from +0, each coefficient divided
abbrev pub approx_at : List Float → List Float → Float → ℕ → Float → Float
approx_at scales coefs u i s = s ⊕ get_or coefs i nan ⊘ (one ⊕ get_or scales i nan ⊗ u ⊗ (get_or scales i nan ⊗ u))

unfoldable pub approx : ℕ → List Float → List Float → Float → Float
approx terms scales coefs u = times (approx_at scales coefs u) terms 0 +0

-- the greatest deviation over the samples, from +0; the division by the peak, which is 1, changes nothing
unfoldable pub error_at : ℕ → List Float → List Float → Curve → ℕ → Float → Float
error_at terms scales coefs curve j e =
    greater e (abs (approx terms scales coefs (sample_of curve j) ⊖ target_of curve.alpha (sample_of curve j)))

unfoldable pub peak_error : ℕ → List Float → List Float → Curve → Float
peak_error terms scales coefs curve = times (error_at terms scales coefs curve) curve.samples 0 +0
