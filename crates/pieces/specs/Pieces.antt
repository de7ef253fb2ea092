-- 01, "Pieces (`adaptive_cauchy_decompose`)": a kernel's pieces. Definitions only.
use Rattle.std.specs.Prelude.{ℕ, ◌+◌, Bool, cond, List, get_or, set, replicate, Float}
use Rattle.std.specs.Float.{nan}
use Rattle.std.specs.Float.Ieee.{lt, le}
use Rattle.base.specs.Floats.{◌⊖◌, ◌⊗◌, +0, abs, greater}
use Rattle.base.specs.Constants.{one, stay_limit, keep_limit}
use Rattle.base.specs.Loops.{times}
use Rattle.powers.specs.Power.{log10}
use Rattle.solve.specs.Elimination.{Ended, eliminated}
use Rattle.solve.specs.Solve.{blank}
use Rattle.pieces.specs.Fit.{zeros, scales_of, equations, ridged, coefficients_of, peak_error}
use Rattle.kernel.specs.declared.kernel.Kernel.{Kernel}
use Rattle.pieces.specs.declared.points.Curve.{Curve}
use Rattle.pieces.specs.declared.pieces.Size.{Size}
use Rattle.pieces.specs.declared.pieces.Piece.{Piece}
use Rattle.pieces.specs.declared.pieces.Pieces.{Pieces}

-- ---- what an exponent asks for

-- "delta = |alpha - 1|"
abbrev pub delta : Float → Float
delta alpha = abs (alpha ⊖ one)

-- "At most 1e-9: the kernel stays"
abbrev pub stays : Float → Bool
stays alpha = le (delta alpha) stay_limit

-- "terms = 13 for delta ≤ 1, 16 above, 0 for NaN; samples = 39, 48, 24"
unfoldable pub size_of : Float → Size
size_of d =
    cond (le d one) (record { terms = 13; samples = 39 })
    (cond (lt one d) (record { terms = 16; samples = 48 }) (record { terms = 0; samples = 24 }))

-- the most pieces that a kernel of this exponent can have, whatever its sigma and the radius
abbrev pub most_pieces : Float → ℕ
most_pieces alpha = cond (stays alpha) 1 (size_of (delta alpha)).terms

-- what is fitted: radius' = max(radius, 1), umax = max(sigma·radius', 1)
abbrev pub curve_of : Kernel → Float → Curve
curve_of k radius =
    record {
      alpha = k.alpha;
      samples = (size_of (delta k.alpha)).samples;
      reach = log10 (greater one (k.sigma ⊗ greater one radius));
    }

-- ---- the pieces

-- what stands in the array of pieces where there is none, and past its end
abbrev pub blank_piece : Piece
blank_piece = record { sigma = +0; coefficient = +0 }

abbrev pub past_pieces : Piece
past_pieces = record { sigma = nan; coefficient = nan }

-- piece i
abbrev pub part_at : Pieces → ℕ → Piece
part_at p i = get_or p.list i past_pieces

abbrev pub blanks : List Piece
blanks = replicate 16 blank_piece

-- no piece, and a fit's peak error
abbrev pub none : Float → Pieces
none e = record { count = 0; list = blanks; error = e }

-- "the kernel stays, alpha untouched, coefficient 1"
abbrev pub itself : Kernel → Pieces
itself k = record { count = 1; list = set blanks 0 (record { sigma = k.sigma; coefficient = one }); error = +0 }

-- "A coefficient is kept only if its absolute value exceeds 1e-12"
unfoldable pub keep : Pieces → Float → Float → Pieces
keep p sigma coefficient =
    cond (lt keep_limit (abs coefficient))
    (record {
      count = p.count + 1;
      list = set p.list p.count (record { sigma = sigma; coefficient = coefficient });
      error = p.error;
    })
    p

-- every term in order, of sigma times its scale
abbrev pub keep_at : Float → List Float → List Float → ℕ → Pieces → Pieces
keep_at sigma scales coefs i p = keep p (sigma ⊗ get_or scales i nan) (get_or coefs i nan)

unfoldable pub kept : ℕ → Float → List Float → List Float → Pieces → Pieces
kept terms sigma scales coefs p = times (keep_at sigma scales coefs) terms 0 p

-- the normal equations of a curve and this many terms, and how their elimination ended
abbrev pub solved_by : ℕ → Curve → Ended
solved_by terms curve = eliminated terms (ridged terms (equations terms (scales_of terms zeros) curve blank))

-- the fit of a curve by this many terms, and the pieces kept of it
unfoldable pub fitted : ℕ → Curve → Float → Pieces
fitted terms curve sigma =
    let scales = scales_of terms zeros in
    let coefs = coefficients_of terms zeros (solved_by terms curve) in
    kept terms sigma scales coefs (none (peak_error terms scales coefs curve))

-- a kernel's pieces on a body of this radius
unfoldable pub decomposed : Kernel → Float → Pieces
decomposed k radius =
    cond (stays k.alpha) (itself k) (fitted (size_of (delta k.alpha)).terms (curve_of k radius) k.sigma)

-- the exponent of each piece: "alpha untouched" of a kernel that stays, else "alpha exactly 1"
unfoldable pub piece_alpha : Float → Float
piece_alpha alpha = cond (stays alpha) alpha one
