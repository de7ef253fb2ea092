-- Theorems of the solver's definitions: 01's bench rows, n = 0, the words past n, and which row a tie and a NaN take.
-- Assumes nothing.
use Rattle.std.specs.Prelude.{◌≡◌, refl, ℕ, ◌≤◌, true, List, [], ◌∷◌, length, get_or, Float}
use Rattle.std.proofs.Common.{zero-le, le-ltb}
use Rattle.std.specs.Float.{nan}
use Rattle.std.specs.Float.Ieee.{of_bits, lt, le, eq, ne, sub, mul, div}
use Rattle.base.specs.Answers.{accepted, Outcome, outcome}
use Rattle.base.specs.Floats.{+0, bits, abs}
use Rattle.base.specs.Constants.{one, two, three, four, flat_limit}
use Rattle.base.specs.Loops.{times, table}
use Rattle.base.specs.TableLaws.{table-past}
use Rattle.base.specs.ChoiceLaws.{cond_of}
use Rattle.base.specs.OrderLaws.{lt-nan, eq_not_lt}
use Rattle.solve.specs.declared.eliminate.Pivot.{Pivot}
use Rattle.solve.specs.Elimination.{Ended, reduced, flat, better, pivot_of, over, less, cleared, swept, smaller, column_at, no_pivot, eliminated}
use Rattle.solve.specs.Solve.{bad_matrix, flat_at, answer_at, row_of, loaded, answers, concluded, solution}

-- opens every definition on the way of a computed row
unfoldable rows : ℕ
unfolding solution times abs better pivot_of over less cleared swept smaller column_at eliminated row_of loaded table
    answers concluded of_bits lt le ne eq sub mul div
rows = 0

abbrev five : Float
five = bits 0x4014_0000_0000_0000

-- ---- 01's rows

-- "[2|4] solves to 2", with the pivot 2
pub one-row : solution 1 (two ∷ four ∷ []) (+0 ∷ []) ≡ outcome (accepted (two ∷ [])) (two ∷ [])
unfolding rows
one-row = refl

-- "[1e-18|1] is 11", in column 0
pub flat-row : solution 1 (flat_limit ∷ one ∷ []) (+0 ∷ []) ≡ outcome (flat_at 0) (+0 ∷ [])
unfolding rows
flat-row = refl

-- "[1 1|3],[1 2|5] gives 1, 2", with pivots of 1 both; a word past them stays
pub two-rows : solution 2 (one ∷ one ∷ three ∷ one ∷ two ∷ five ∷ []) (+0 ∷ +0 ∷ four ∷ [])
    ≡ outcome (accepted (one ∷ [])) (one ∷ two ∷ four ∷ [])
unfolding rows
two-rows = refl

-- "n = 0 succeeds, writing nothing"; "For n = 0 the smallest pivot is +inf"
pub no_rows : (xs : List Float) → solution 0 [] xs ≡ outcome (accepted (no_pivot ∷ [])) xs
unfolding rows
no_rows xs = simp (le-ltb (length xs) 0 zero-le)

-- ---- the words of the answer

concluded-past : (n : ℕ) (xs : List Float) (e : Ended) (i : ℕ) → n ≤ i
    → get_or (concluded n xs e).out i nan ≡ get_or xs i nan
unfolding concluded answers
concluded-past n xs (reduced s m) i h = table-past (answer_at n m) nan n i xs h
concluded-past n xs (flat c) i h = refl

-- "Words of the answer past n are untouched"
pub words_past : (n : ℕ) (cells xs : List Float) (i : ℕ) → n ≤ i → get_or (solution n cells xs).out i nan ≡ get_or xs i nan
unfolding solution
words_past n cells xs i h = cond_of (λ (s : Outcome). get_or s.out i nan ≡ get_or xs i nan) (bad_matrix n cells xs) refl
    (concluded-past n xs _ i h)

-- ---- the later row

-- "ties and NaN take the later row"
pub a_tie : (p : Pivot) (row : ℕ) (v : Float) → eq v p.value ≡ true
    → better p row v ≡ record { row = row; value = v }
unfolding better
a_tie p row v e = simp (eq_not_lt v p.value e)

pub a_nan : (p : Pivot) (row : ℕ) → better p row nan ≡ record { row = row; value = nan }
unfolding better lt
a_nan p row = refl

pub after-nan : (r row : ℕ) (v : Float) → better (record { row = r; value = nan }) row v
    ≡ record { row = row; value = v }
unfolding better
after-nan r row v = simp (lt-nan v)
