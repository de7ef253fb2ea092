-- 01, "Pieces (`adaptive_cauchy_decompose`)": the pieces of a list of kernels, "six floats each". Definitions only.
use Rattle.std.specs.Result.{result_and}
use Rattle.std.specs.Prelude.{ℕ, zero, suc, ◌+◌, ◌*◌, ◌/◌, List, [], ◌∷◌, length, Float, Result}
use Rattle.base.specs.Floats.{+0, greater}
use Rattle.base.specs.Answers.{Answer, answer_by, Outcome, outcome, guarded_run, room_check}
use Rattle.base.specs.declared.refusal.Refusal.{Refusal}
use Rattle.kernel.specs.Kernels.{kernel_at, list_check}
use Rattle.pieces.specs.declared.pieces.Pieces.{Pieces}
use Rattle.pieces.specs.declared.lists.DecomposedList.{DecomposedList}
use Rattle.pieces.specs.Pieces.{decomposed}
use Rattle.pieces.specs.Kernels.{laid}

-- ---- the kernels in list order

-- the pieces of kernel i
abbrev pub pieces_at : List Float → Float → ℕ → Pieces
pieces_at ks radius i = decomposed (kernel_at ks i) radius

-- how many pieces the first n kernels have
unfoldable pub piece_count : List Float → Float → ℕ → ℕ
piece_count ks radius zero = 0
piece_count ks radius (suc n) = piece_count ks radius n + (pieces_at ks radius n).count

-- the Rust's `max_error`, from +0; of a kernel that stays the error is +0, which is greater than none
unfoldable pub greatest_error : List Float → Float → ℕ → Float
greatest_error ks radius zero = +0
greatest_error ks radius (suc n) = greater (greatest_error ks radius n) (pieces_at ks radius n).error

-- each kernel's pieces behind those of the kernels before it; words past them as they were
unfoldable pub spread : List Float → Float → ℕ → List Float → List Float
spread ks radius zero xs = xs
spread ks radius (suc n) xs =
    laid (piece_count ks radius n) (kernel_at ks n) (pieces_at ks radius n) (spread ks radius n xs)

-- ---- the answer

-- the counts of kernels and pieces, and the greatest error
abbrev pub fitted_all : ℕ → ℕ → Float → Answer
fitted_all n m e = record { refusal = 0; counts = n ∷ m ∷ []; floats = e ∷ [] }

-- of a list that is of sixes and a run that has room
unfoldable pub list_decomposition : List Float → Float → List Float → Outcome
list_decomposition ks radius xs =
    let n = length ks / 6 in
    guarded_run (result_and (list_check ks) (room_check (6 * piece_count ks radius n) (length xs))) xs
    (outcome (fitted_all n (piece_count ks radius n) (greatest_error ks radius n)) (spread ks radius n xs))

-- 01's number and values for each case of the code's answer
abbrev pub listed_as : Result DecomposedList Refusal → Answer
listed_as = answer_by (λ d. fitted_all d.kernels d.pieces d.error)
