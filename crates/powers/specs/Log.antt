-- 01, "Roots and powers": log, L(b), to base 2. Definitions only.
use Rattle.std.specs.Prelude.{ℕ, ◌+◌, ◌-◌, ◌*◌, ◌^◌, true, false, cond, ◌||◌, is_nan, Float}
use Rattle.std.specs.Float.{nan, inf, binary64}
use Rattle.std.specs.Float.Ieee.{size, round, of_int, minus, lt, eq}
use Rattle.base.specs.Loops.{down}
use Rattle.base.specs.Floats.{◌⊕◌, ◌⊖◌, ◌⊗◌, ◌⊘◌, bits, whole, units_in}
use Rattle.base.specs.Constants.{half, one, two, twenty_one, root_two, log2e}

-- "b = m·2^e, 1 ≤ m < 2": e is place - 1074, since b is a whole number of units of 2^-1074, the highest digit of which
-- stands at this place
unfoldable pub place_of : Float → ℕ
place_of b = size (units_in binary64 b) - 1

-- m, which is exact
unfoldable pub mantissa : Float → Float
mantissa b = round binary64 false (units_in binary64 b) (2 ^ place_of b)

-- "a = 1/(2k+1) + q·a"
abbrev pub log_term : Float → ℕ → Float → Float
log_term q k a = one ⊘ whole (2 * k + 1) ⊕ q ⊗ a

-- "a = 1/21; for k = 9 down to 0" the step above
unfoldable pub log_sum : Float → Float
log_sum q = down (log_term q) 10 (one ⊘ twenty_one)

-- "q = s·s" and "2·(s·a)"
unfoldable pub log_core : Float → Float
log_core s = two ⊗ (s ⊗ log_sum (s ⊗ s))

-- "s = (m-1)/(m+1)" and "L = e + (2·(s·a))·1.4426950408889634", for e = place - 1074
unfoldable pub log_at : Float → ℕ → Float
log_at m place = of_int binary64 (minus place 1074) ⊕ log_core ((m ⊖ one) ⊘ (m ⊕ one)) ⊗ log2e

-- "if m > 1.4142135623730951, halve m, raise e by 1"
unfoldable pub log_positive : Float → Float
log_positive b =
    cond (lt root_two (mantissa b)) (log_at (mantissa b ⊗ half) (place_of b + 1)) (log_at (mantissa b) (place_of b))

-- "NaN or b < 0 gives NaN, zero -inf, +inf itself"
unfoldable pub log : Float → Float
log b = cond (is_nan b || lt b (bits 0)) nan
    (cond (eq b (bits 0)) (inf true) (cond (eq b (inf false)) (inf false) (log_positive b)))
