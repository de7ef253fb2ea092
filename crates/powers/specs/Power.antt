-- 01, "Roots and powers": power P(b, y), ten T(y) and log10. 02, L2: T of a whole number. Definitions only.
use Rattle.std.specs.Prelude.{ℕ, ◌^◌, Bool, cond, ◌&&◌, ◌||◌, nat_le, Float}
use Rattle.std.specs.Float.Ieee.{lt, eq}
use Rattle.base.specs.Floats.{◌⊗◌, ◌⊘◌, bits, whole, +0, abs}
use Rattle.base.specs.Constants.{one, log2ten, log10two}
use Rattle.powers.specs.Exp.{cut, exp}
use Rattle.powers.specs.Log.{log}

-- "1 if b = 1 or y = 0, else E(y·L(b))"
unfoldable pub power : Float → Float → Float
power b y = cond (eq b one || eq y (bits 0)) one (exp (y ⊗ log b))

-- 01's steps: "T(y) = E(y·3.321928094887362)"
unfoldable pub ten_steps : Float → Float
ten_steps y = exp (y ⊗ log2ten)

-- 02, L2: "the float 10^y, which is exact"
unfoldable pub whole_ten : ℕ → Float
whole_ten k = whole (10 ^ k)

-- "whole y" from -22 to 22, -0 among them: in size y is its part before the point, and that is at most 22. No NaN and
-- no infinity is.
unfoldable pub small_whole : Float → Bool
small_whole y = nat_le (cut y) 22 && eq (abs y) (whole (cut y))

-- T(y), which stands for `10.0_f64.powf(y)`. 02, L2: "For whole y from 0 to 22, T(y) becomes the float 10^y. .. For
-- whole y from -22 to -1 it becomes 1 divided by the float 10^(-y). Other arguments keep 01's steps."
unfoldable pub ten_to : Float → Float
ten_to y = cond (small_whole y) (cond (lt y +0) (one ⊘ whole_ten (cut y)) (whole_ten (cut y))) (ten_steps y)

-- "log10(b) = L(b)·0.3010299956639812"
unfoldable pub log10 : Float → Float
log10 b = log b ⊗ log10two
