-- 01, "Roots and powers": root. IEEE 754's square_root under roundTiesToEven, in the manner of `lib.Ieee`: the root is
-- worked out exactly, as far as rounding looks, and handed to `round`. `Nearest.antt` proves that the result is the one
-- value of the format that is nearest to the real root. Definitions only.
use Rattle.std.specs.Prelude.{◌≡◌, ℕ, zero, suc, ◌+◌, ◌*◌, ◌/◌, ◌^◌, ◌<◌, ◌≤◌, true, false, cond, ◌==◌, nat_le, Float}
use Rattle.std.specs.Float.{nan, inf, fin, Format}
use Rattle.std.specs.Float.Ieee.{low, up, down, size, round}

-- The whole part of the square root of an n below 4 ^ d. That of n / 4 has all its binary digits but the last.
unfoldable pub root_in : ℕ → ℕ → ℕ
root_in zero n = 0
root_in (suc d) n = let r = 2 * root_in d (n / 4) in cond (nat_le ((r + 1) * (r + 1)) n) (r + 1) r

unfoldable pub floor_root : ℕ → ℕ
unfolding root_in size
floor_root n = root_in (size n) n

-- The square root of n units. It is √(n * 2 ^ low) units, whose whole part is q. Where it is q itself, q is rounded.
-- Else it lies between q and q + 1, and q + 1/2 is rounded in its place: so much smaller are the units than the digits
-- that the format keeps of a root, that every value of the format, and every middle of two, is on the same side of the
-- root as of q + 1/2.
unfoldable pub root_units : Format → ℕ → Float
unfolding floor_root round
root_units f n =
    let q = floor_root (n * 2 ^ low f) in
    round f false (2 * q + cond (q * q == n * 2 ^ low f) 0 1) (2 * 2 ^ low f)

unfoldable pub square_root : Format → Float → Float
unfolding root_units
square_root f nan = nan
square_root f (inf true) = nan
square_root f (inf false) = inf false
square_root f (fin s zero e) = fin s zero e
square_root f (fin true (suc m) e) = nan
square_root f (fin false (suc m) e) = root_units f (suc m * up e * 2 ^ low f / down e)

-- ---- for the functions' contracts

-- q is the whole part of the square root of n, and r is what is left
pub record Floor (n q r : ℕ) : Type 0 where
  pub sum : q * q + r ≡ n
  pub small : r ≤ 2 * q

-- a is the whole number nearest to the square root of d * 2 ^ 52: that lies above a - 1/2 and below a + 1/2
pub record Rounded (d a : ℕ) : Type 0 where
  pub above : a * a < d * 2 ^ 52 + a
  pub below : d * 2 ^ 52 ≤ a * a + a
