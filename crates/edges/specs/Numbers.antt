-- The number of a directed edge, and the numbers of a face put into words. What the internal contracts speak of;
-- definitions only.
use Rattle.std.specs.Prelude.{◌≡◌, ℕ, ◌+◌, ◌*◌, ◌<◌, ◌≤◌, cond, ◌&&◌, List, length, nat_le, nat_lt, slice_set}
use Rattle.sort.specs.Order.{is, copies, Within}

-- the number of a directed edge: 2k where it goes to the greater corner, 2k + 1 where to the lesser, k of both corners
unfoldable pub code : ℕ → ℕ → ℕ
code a b = cond (nat_lt a b) (2 * (a * 1048576 + b)) (2 * (b * 1048576 + a) + 1)

-- 1 where x is one of low .. end - 1
abbrev pub taken : ℕ → ℕ → ℕ → ℕ
taken low end x = cond (nat_le low x && nat_lt x end) 1 0

-- word m of xs becomes x, and counts where x is one of low .. end - 1
pub record Put (low end x : ℕ) (xs : List ℕ) (m : ℕ) (ys : List ℕ) (n : ℕ) : Type 0 where
  pub count : n ≡ m + taken low end x
  pub words : ys ≡ slice_set xs m x

-- the first n of the words ys hold what the first m of xs do, and the numbers of a face x, y, z that are among
-- low .. end - 1
pub record Faced (low end x y z : ℕ) (xs : List ℕ) (m : ℕ) (ys : List ℕ) (n : ℕ) : Type 0 where
  pub more : n ≤ m + 3
  pub long : length ys ≡ length xs
  pub same : (c : ℕ) → low ≤ c → c < end
      → copies c ys n ≡ copies c xs m + (is (code x y) c + is (code y z) c + is (code z x) c)
  pub within : Within low end xs m → Within low end ys n
