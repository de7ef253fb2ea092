-- 01, "Pieces" and "The store": pieces written as kernels, "six floats each". Definitions only.
use Rattle.std.specs.Prelude.{ℕ, ◌+◌, ◌*◌, List, [], ◌∷◌, length, Float, Result}
use Rattle.base.specs.Floats.{◌⊗◌}
use Rattle.base.specs.Loops.{times}
use Rattle.base.specs.Answers.{Answer, answer_by, Outcome, outcome, guarded_run, room_check}
use Rattle.base.specs.declared.refusal.Refusal.{Refusal}
use Rattle.kernel.specs.declared.kernel.Kernel.{Kernel}
use Rattle.kernel.specs.Kernels.{kernel_set}
use Rattle.pieces.specs.declared.fit.Fit.{Fit}
use Rattle.pieces.specs.declared.pieces.Piece.{Piece}
use Rattle.pieces.specs.declared.pieces.Pieces.{Pieces}
use Rattle.pieces.specs.declared.kernels.Decomposed.{Decomposed}
use Rattle.pieces.specs.Pieces.{part_at, decomposed, piece_alpha}
use Rattle.pieces.specs.FitEnd.{fit_of, kind_of, column_of, pivot_told}

-- a piece of a kernel: its centre, the piece's sigma, "its weight is w times the coefficient"
abbrev pub as_kernel : Kernel → Piece → Kernel
as_kernel k p = record { c = k.c; sigma = p.sigma; w = k.w ⊗ p.coefficient; alpha = piece_alpha k.alpha }

-- piece i of a kernel
unfoldable pub piece_at : Kernel → Pieces → ℕ → Kernel
piece_at k p i = as_kernel k (part_at p i)

-- the pieces laid over a run in order, behind its first n kernels
abbrev pub lay_at : ℕ → Kernel → Pieces → ℕ → List Float → List Float
lay_at n k p i xs = kernel_set xs (n + i) (piece_at k p i)

unfoldable pub laid : ℕ → Kernel → Pieces → List Float → List Float
laid n k p xs = times (lay_at n k p) p.count 0 xs

-- the count of pieces and the peak error, with how the fit ended
abbrev pub fitted_one : ℕ → Float → Fit → Answer
fitted_one n e fit = record { refusal = 0; counts = n ∷ kind_of fit ∷ column_of fit ∷ []; floats = e ∷ pivot_told fit ∷ [] }

-- row 9: "run to be written under 6 floats per piece"; 02, L4: "Decomposition passes this on"
unfoldable pub decomposition : Kernel → Float → List Float → Outcome
decomposition k radius xs =
    guarded_run (room_check (6 * (decomposed k radius).count) (length xs)) xs
    (outcome (fitted_one (decomposed k radius).count (decomposed k radius).error (fit_of k radius))
    (laid 0 k (decomposed k radius) xs))

-- 01's number and values for each case of the code's answer
abbrev pub decomposed_as : Result Decomposed Refusal → Answer
decomposed_as = answer_by (λ d. fitted_one d.pieces d.error d.fit)
