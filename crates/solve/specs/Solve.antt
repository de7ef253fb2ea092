-- 01, "Solve (`solve_linear_system`)": the runs, the refusals and the answer, with the pivot and the column of 02's L4.
-- Definitions only.
use Rattle.std.specs.Prelude.{ℕ, ◌+◌, ◌*◌, Bool, cond, not, ◌||◌, List, [], ◌∷◌, eqb, ltb, get_or, set, length, replicate, Float, Result, Ok, Err}
use Rattle.std.specs.Float.{nan}
use Rattle.base.specs.Floats.{+0}
use Rattle.base.specs.Loops.{times, table}
use Rattle.base.specs.Answers.{Answer, accepted, refused, Outcome, outcome}
use Rattle.base.specs.Refusals.{number}
use Rattle.base.specs.declared.refusal.Refusal.TheVariants.{BadMatrix, FlatPivot}
use Rattle.solve.specs.Elimination.{Matrix, cell, Ended, reduced, flat, eliminated}
use Rattle.solve.specs.declared.Unsolved.{Unsolved}
use Rattle.solve.specs.declared.Unsolved.TheVariants.{Flat, Refused}

-- ---- the runs

-- n + 1 floats of a run, from a place on, laid over the start of a row
abbrev pub word_from : List Float → ℕ → ℕ → Float
word_from xs from j = get_or xs (from + j) nan

unfoldable pub row_of : ℕ → List Float → ℕ → List Float → List Float
row_of n xs from row = table (word_from xs from) (n + 1) row

-- "n rows of n+1 floats", laid over the start of a matrix
abbrev pub loaded_at : ℕ → List Float → ℕ → Matrix → Matrix
loaded_at n xs row m = set m row (row_of n xs (row * (n + 1)) (get_or m row []))

unfoldable pub loaded : ℕ → List Float → Matrix → Matrix
loaded n xs m = times (loaded_at n xs) n 0 m

-- "the matrix a 16 by 17 array", of zeros
abbrev pub blank : Matrix
blank = replicate 16 (replicate 17 +0)

-- column n of a matrix, laid over the first n words of the answer: "Words of the answer past n are untouched"
abbrev pub answer_at : ℕ → Matrix → ℕ → Float
answer_at n m row = cell m row n

unfoldable pub answers : ℕ → Matrix → List Float → List Float
answers n m xs = table (answer_at n m) n xs

-- ---- the answer

-- row 10: "n > 16, length not n(n+1), or answer shorter than n"
abbrev pub bad_matrix : ℕ → List Float → List Float → Bool
bad_matrix n cells xs = ltb 16 n || not (eqb (length cells) (n * (n + 1))) || ltb (length xs) n

-- row 11: "solve fails", answered "with the column of the flat pivot, counted from 0, beside its refusal"
abbrev pub flat_at : ℕ → Answer
flat_at c = record { refusal = number FlatPivot; counts = c ∷ []; floats = [] }

-- "with its smallest accepted pivot, in absolute value, beside the coefficients"
unfoldable pub concluded : ℕ → List Float → Ended → Outcome
concluded n xs (reduced s m) = outcome (accepted (s ∷ [])) (answers n m xs)
concluded n xs (flat c) = outcome (flat_at c) xs

-- n rows in a run, and the words of the answer before
unfoldable pub solution : ℕ → List Float → List Float → Outcome
solution n cells xs =
    cond (bad_matrix n cells xs) (outcome (refused BadMatrix) xs) (concluded n xs (eliminated n (loaded n cells blank)))

-- 01's number for each case of the code's answer
abbrev pub solved_as : Result Float Unsolved → Answer
solved_as (Ok s) = accepted (s ∷ [])
solved_as (Err (Flat p)) = flat_at p.column
solved_as (Err (Refused r)) = refused r
