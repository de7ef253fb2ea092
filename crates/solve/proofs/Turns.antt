-- The laws of counting loops, for `search`, and a row that is copied whole. Assumes nothing.
use mathlib.Core.Path.{◌≡◌, refl, sym, ◌∙◌}
use Prim.Native.Nat.{ℕ, zero, suc, ◌+◌, ◌≤◌, ◌<◌}
use native.Mathlib.Omega.{arith}
use Rattle.std.specs.Prelude.{List, length, get_or, take, drop, ◌++◌, Float}
use Rattle.std.specs.Float.{nan}
use Rattle.std.proofs.lemmas.List.{ext_get_or}
use Rattle.std.proofs.lemmas.Grind.{common_steps}
use Rattle.std.proofs.Math.Decide.{dec_lt}
use lib.ListN.{length-set}
use Rattle.base.specs.Loops.{times, table_at, table}
use Rattle.base.specs.LoopLaws.{start, begins, from_zero, goes, ended, set_to}
use Rattle.base.specs.TableLaws.{tabled, table-past}
use Rattle.solve.specs.Solve.{row_of, word_from}

pub ruleset turns = (start, begins, from_zero, goes, ended, set_to, length-set)

long : (f : ℕ → Float) (k i : ℕ) (row : List Float) → length (times (table_at f) k i row) ≡ length row
unfolding times
long f zero i row = refl
long f (suc k) i row = long f k (suc i) (table_at f i row) ∙ length-set row i (f i)

pub row_copied : (n from k : ℕ) (xs row ys : List Float) → from + (n + 1) ≤ length xs → n + 1 ≤ length row → k ≡ n + 1
    → ys ≡ take k (drop from xs)
    → ys ++ drop (length ys) row ≡ row_of n xs from row
unfolding row_of table
row_copied n from k xs row ys h r e q =
    ext_get_or nan _ _ (sum ∙ sym (long (word_from xs from) (n + 1) 0 row)) (λ i l. at i (dec_lt i (n + 1)))
  where
    size : length ys ≡ n + 1
    size = grind (arith, common_steps)

    sum : length (ys ++ drop (length ys) row) ≡ length row
    sum = grind (arith, common_steps)

    at : (i : ℕ) → Dec (i < n + 1)
        → get_or (ys ++ drop (length ys) row) i nan ≡ get_or (times (table_at (word_from xs from)) (n + 1) 0 row) i nan
    at i (yes l) = let t = tabled (word_from xs from) nan (n + 1) i row l r in grind (arith, common_steps, t)
    at i (no l) = let t = table-past (word_from xs from) nan (n + 1) i row (omega arith) in grind (arith, common_steps, t)
