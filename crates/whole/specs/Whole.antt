-- 02, L8: a float's exact value as a whole number, "nearest, ties to even, with a minus sign where negative and plain 0
-- for zero". Definitions only.
use Rattle.std.specs.Prelude.{ℕ, ◌+◌, ◌*◌, ◌/◌, ◌%◌, Bool, true, false, cond, ltb, ℤ, pos, neg_ℤ, Float}
use Rattle.std.specs.Float.{nan, inf, fin}
use Rattle.std.specs.Float.Ieee.{up, down, le}
use Rattle.base.specs.Floats.{bits, sign, abs}

-- the whole number nearest to n / d; of two that are equally near the even one
unfoldable pub nearest : ℕ → ℕ → ℕ
nearest n d = cond (ltb (2 * (n % d)) d) (n / d) (cond (ltb d (2 * (n % d))) (n / d + 1) (n / d + n / d % 2))

-- the magnitude of a finite value, rounded
unfoldable pub magnitude : Float → ℕ
magnitude nan = 0
magnitude (inf s) = 0
magnitude (fin s m e) = nearest (m * up e) (down e)

-- a whole number by its sign and magnitude; zero has no sign
abbrev pub signed_whole : Bool → ℕ → ℤ
signed_whole false n = pos n
signed_whole true n = neg_ℤ (pos n)

-- a finite value rounded
unfoldable pub rounded : Float → ℤ
rounded x = signed_whole (sign x) (magnitude x)

-- 10^15, which is a float
abbrev pub mass_limit : Float
mass_limit = bits 0x430c_6bf5_2634_0000

-- no NaN, and not above 10^15 in magnitude
unfoldable pub printable : Float → Bool
printable x = le (abs x) mass_limit
