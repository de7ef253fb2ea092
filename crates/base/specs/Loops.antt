-- What a counting loop computes. Definitions only.
use Rattle.std.specs.Prelude.{Bool, true, ◌&&◌, List, ℕ, zero, suc, set}

-- `f` at i, then at i + 1, and so on, k times in all
unfoldable pub times : {S : Type 0} → (ℕ → S → S) → ℕ → ℕ → S → S
times f zero i s = s
times f (suc k) i s = times f k (suc i) (f i s)

-- f at 0, at 1, and so on below n, laid over xs
abbrev pub table_at : {A : Type 0} → (ℕ → A) → ℕ → List A → List A
table_at f i xs = set xs i (f i)

unfoldable pub table : {A : Type 0} → (ℕ → A) → ℕ → List A → List A
table f n xs = times (table_at f) n 0 xs

-- f, n times over
abbrev pub iterate : {S : Type 0} → (S → S) → ℕ → S → S
iterate f zero s = s
iterate f (suc n) s = f (iterate f n s)

-- `f` at k - 1, then at k - 2, and so on down to 0
unfoldable pub down : {S : Type 0} → (ℕ → S → S) → ℕ → S → S
down f zero s = s
down f (suc k) s = down f k (f k s)

-- each number below n passes
unfoldable pub every : (ℕ → Bool) → ℕ → Bool
every test zero = true
every test (suc n) = every test n && test n
