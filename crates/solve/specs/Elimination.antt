-- 01, "Solve": the choice of pivot and the elimination, on a matrix that is a list of rows; 02, L4: what it tells of
-- its pivots. Definitions only.
use Rattle.std.specs.Prelude.{ℕ, ◌+◌, ◌-◌, false, cond, ◌||◌, List, [], eqb, get_or, set, Float, Result, Ok, Err}
use Rattle.std.specs.Float.{nan, inf}
use Rattle.std.specs.Float.Ieee.{lt, le, ne}
use Rattle.base.specs.Floats.{◌⊖◌, ◌⊗◌, ◌⊘◌, abs}
use Rattle.base.specs.Constants.{flat_limit, skip_limit}
use Rattle.base.specs.Loops.{times}
use Rattle.solve.specs.declared.eliminate.Pivot.{Pivot}
use Rattle.solve.specs.declared.eliminate.FlatPivot.{FlatPivot}

abbrev pub Matrix : Type 0
Matrix = List (List Float)

abbrev pub cell : Matrix → ℕ → ℕ → Float
cell m row col = get_or (get_or m row []) col nan

-- ---- the pivot

-- "replaced unless it is strictly greater": a tie takes the later row, and so does every comparison with a NaN
unfoldable pub better : Pivot → ℕ → Float → Pivot
better p row v = cond (lt v p.value) p (record { row = row; value = v })

abbrev pub candidate : Matrix → ℕ → ℕ → Pivot → Pivot
candidate m col row p = better p row (abs (cell m row col))

-- the pivot of a column: from row col itself through row n - 1
unfoldable pub pivot_of : ℕ → ℕ → Matrix → Pivot
pivot_of n col m = times (candidate m col) (n - (col + 1)) (col + 1) (record { row = col; value = abs (cell m col col) })

-- ---- one column

-- rows a and b exchanged
abbrev pub exchanged : ℕ → ℕ → Matrix → Matrix
exchanged a b m = set (set m a (get_or m b [])) b (get_or m a [])

-- a row divided by d, from column col through column n
abbrev pub over_at : Float → ℕ → List Float → List Float
over_at d j row = set row j (get_or row j nan ⊘ d)

unfoldable pub over : ℕ → ℕ → Float → List Float → List Float
over n col d row = times (over_at d) (n + 1 - col) col row

-- row col divided by its pivot, as it was before the first division
abbrev pub scaled : ℕ → ℕ → Matrix → Matrix
scaled n col m = set m col (over n col (cell m col col) (get_or m col []))

-- a row less k times the row p, from column col through column n
abbrev pub less_at : List Float → Float → ℕ → List Float → List Float
less_at p k j row = set row j (get_or row j nan ⊖ k ⊗ get_or p j nan)

unfoldable pub less : ℕ → ℕ → List Float → Float → List Float → List Float
less n col p k row = times (less_at p k) (n + 1 - col) col row

-- a row with its column col cleared by the pivot's row p: "Factors of absolute value ≤ 1e-30 are skipped"
unfoldable pub cleared : ℕ → ℕ → List Float → List Float → List Float
cleared n col p row = cond (le (abs (get_or row col nan)) skip_limit) row (less n col p (get_or row col nan) row)

-- every row so cleared, but row col
abbrev pub clear_at_lem : ℕ → ℕ → List Float → ℕ → Matrix → Matrix
clear_at_lem n col p row m = cond (eqb row col) m (set m row (cleared n col p (get_or m row [])))

unfoldable pub swept : ℕ → ℕ → Matrix → Matrix
swept n col m = times (clear_at_lem n col (get_or m col [])) n 0 m

-- a column whose pivot is in row p: brought to row col, divided by, and the column cleared in all other rows
abbrev pub column : ℕ → ℕ → ℕ → Matrix → Matrix
column n col p m = swept n col (scaled n col (exchanged col p m))

-- ---- all columns

-- how an elimination ended: with its smallest accepted pivot and a reduced matrix, or at the column of a flat pivot,
-- "counted from 0"
pub data Ended : Type 0 where
  reduced : Float → Matrix → Ended
  flat : ℕ → Ended

-- the smallest pivot s with one more, v: "A NaN pivot makes the reported one NaN", and no later one is below a NaN
unfoldable pub smaller : Float → Float → Float
smaller s v = cond (lt v s || ne v v) v s

-- "leaves all its loops when a pivot's absolute value is at most 1e-18"; any other is accepted, a NaN too, and divided
-- by
unfoldable pub column_at : ℕ → ℕ → Ended → Ended
column_at n col (flat c) = flat c
column_at n col (reduced s m) =
    let p = pivot_of n col m in
    cond (le p.value flat_limit) (flat col) (reduced (smaller s p.value) (column n col p.row m))

-- "For n = 0 the smallest pivot is +inf"
abbrev pub no_pivot : Float
no_pivot = inf false

unfoldable pub eliminated : ℕ → Matrix → Ended
eliminated n m = times (column_at n) n 0 (reduced no_pivot m)

-- what the answer of `eliminate` says, with the matrix beside it
abbrev pub ended_as : Result Float FlatPivot → Matrix → Ended
ended_as (Ok s) m = reduced s m
ended_as (Err p) m = flat p.column
