-- Laws of the elimination: the pivot's row, and a flat pivot that ends it. Assumes nothing.
use mathlib.Core.Path.{◌≡◌, refl, sym, ◌∙◌}
use Prim.Native.Nat.{ℕ, zero, suc, ◌+◌, ◌-◌, ◌<◌}
use mathlib.Core.Bool.{true}
use lib.Ieee.{Float, lt, le}
use Rattle.base.specs.ChoiceLaws.{cond_of}
use Rattle.base.specs.Constants.{flat_limit}
use Rattle.base.specs.Loops.{times}
use Rattle.base.specs.LoopLaws.{Left, turn, begins, goes, ended}
use Rattle.solve.specs.declared.eliminate.Pivot.{Pivot}
use Rattle.solve.specs.Elimination.{Matrix, better, pivot_of, Ended, reduced, flat, column_at}

-- the better of two candidates has one of the two rows
pub better-below : (p : Pivot) (row : ℕ) (v : Float) {n : ℕ} → p.row < n → row < n → (better p row v).row < n
unfolding better
better-below p row v {n} h k = cond_of (λ (q : Pivot). q.row < n) (lt v p.value) h k

-- what is flat stays so
stays : (n k i c : ℕ) → times (column_at n) k i (flat c) ≡ flat c
unfolding times column_at
stays n zero i c = refl
stays n (suc k) i c = stays n k (suc i) c

-- a flat pivot ends the elimination
pub stops : {n col c : ℕ} {e w : Ended} → Left (column_at n) n col e w → col < n → flat c ≡ column_at n col e → flat c ≡ w
stops {n} {col} {c} {e} {w} l h f = sym (stays n (n - (col + 1)) (col + 1) c) ∙ (rw (← f) at (turn l h).same)

-- the same where the flat pivot is the best of a column's candidates
pub flat_ends : {n col : ℕ} {s : Float} {m : Matrix} {w : Ended} {p : Pivot} → Left (column_at n) n col (reduced s m) w
    → col < n → p ≡ pivot_of n col m → le p.value flat_limit ≡ true → flat col ≡ w
unfolding column_at
flat_ends l h b e = stops l h (simp (sym b, e))

-- for `search`
pub ruleset pivots = (begins, goes, ended, better-below, flat_ends)
