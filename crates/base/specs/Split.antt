-- A float taken apart into significand and exponent. 01, "Roots and powers": "split into exponent and significand by
-- shifts and masks; a subnormal is brought up by its count of leading zeros". Definitions only.
use Rattle.std.specs.Prelude.{ℕ, ◌+◌, ◌-◌, ◌*◌, ◌/◌, ◌%◌, ◌^◌, ◌≤◌, ◌<◌, ◌≡◌, cond, eqb}

-- the units (of 2 ^ -1074) of binary64's pattern b, one with the sign clear that is below the infinity's
unfoldable pub units_at : ℕ → ℕ
units_at b = cond (eqb (b / 2 ^ 52) 0) (b % 2 ^ 52) ((2 ^ 52 + b % 2 ^ 52) * 2 ^ (b / 2 ^ 52 - 1))

-- n is sig * 2 ^ ex / 2 ^ 52, with a sig of 53 binary digits
pub record Scaled (n sig ex : ℕ) : Type 0 where
  pub value : sig * 2 ^ ex ≡ n * 2 ^ 52
  pub least : 2 ^ 52 ≤ sig
  pub most : sig < 2 ^ 53
  pub top : ex ≤ 2097
