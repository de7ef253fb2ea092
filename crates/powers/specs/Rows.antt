-- Rows of 01's bench table on powers, by computation, and the ends of the range. The values come from 01's formulas,
-- worked out in IEEE floats and exact fractions apart from these definitions. Assumes nothing.
use Rattle.std.specs.Prelude.{◌≡◌, ℕ, true, false, refl}
use Rattle.std.specs.Float.{nan, inf}
use Rattle.std.specs.Float.Ieee.{add, sub, mul, div, neg, of_bits, of_int, round, lt, le, eq, is_nan, size}
use Rattle.base.specs.Loops.{down}
use Rattle.base.specs.Floats.{bits, signed, abs, units_in}
use Rattle.base.specs.Constants.{half, one, two, three, twenty_three}
use Rattle.root.specs.Root.{square_root}
use Rattle.powers.specs.Arc.{halved, arc_sum, arc_core, arc_abs, arc}
use Rattle.powers.specs.Log.{place_of, mantissa, log_sum, log_core, log_at, log_positive, log}
use Rattle.powers.specs.Exp.{cut, raised, scale, exp_sum, exp_at, exp}
use Rattle.powers.specs.Power.{power, ten_steps, whole_ten, small_whole, ten_to}

-- opens what the rows compute with
unfoldable rows : ℕ
unfolding add sub mul div neg of_bits of_int round lt le eq is_nan size down signed abs units_in square_root halved arc_sum
    arc_core arc_abs arc place_of mantissa log_sum log_core log_at log_positive log cut raised scale exp_sum exp_at exp power
    ten_steps whole_ten small_whole ten_to
rows = 0

-- P: power(1, NaN) = 1
pub power-one-nan : power one nan ≡ one
unfolding rows
power-one-nan = refl

-- A(0.5)
pub arc-half : arc half ≡ bits 0x3FDD_AC67_0561_BB4F
unfolding rows
arc-half = refl

-- A(-3): above 1, and the sign last
pub arc-minus-three : arc (bits 0xC008_0000_0000_0000) ≡ bits 0xBFF3_FC17_6B7A_8560
unfolding rows
arc-minus-three = refl

-- L(8) = 3
pub log_eight : log (bits 0x4020_0000_0000_0000) ≡ three
unfolding rows
log_eight = refl

-- L of a subnormal, 3 * 2^-1074
pub log_subnormal : log (bits 3) ≡ bits 0xC090_C1A8_FF97_1811
unfolding rows
log_subnormal = refl

-- E(1) = 2
pub exp-one : exp one ≡ two
unfolding rows
exp-one = refl

-- E(-1022.6), a subnormal: rounded once
pub exp_subnormal : exp (bits 0xC08F_F4CC_CCCC_CCCD) ≡ bits 0x000A_8E5A_29DC_A987
unfolding rows
exp_subnormal = refl

-- E(-1073.3), two of the smallest
pub exp-least : exp (bits 0xC090_C533_3333_3333) ≡ bits 2
unfolding rows
exp-least = refl

-- E of the float below 1024: n is 1024 and a below 1, so it is finite
pub exp-most : exp (bits 0x408F_FFFF_FFFF_FFFF) ≡ bits 0x7FEF_FFFF_FFFF_FD3A
unfolding rows
exp-most = refl

-- E(0.49999999999999994): the float y + 0.5 is 1, so n is 1
pub exp-below-half : exp (bits 0x3FDF_FFFF_FFFF_FFFF) ≡ bits 0x3FF6_A09E_667F_3BCC
unfolding rows
exp-below-half = refl

-- ---- T

-- -0 is whole: 1
pub ten-minus-zero : ten_to (neg (bits 0)) ≡ one
unfolding rows
ten-minus-zero = refl

-- 23, -23 and 0.5 keep 01's steps, and so do a NaN and the infinities
pub ten_steps_23 : ten_to twenty_three ≡ ten_steps twenty_three
unfolding rows
ten_steps_23 = refl

pub ten_steps_minus_23 : ten_to (neg twenty_three) ≡ ten_steps (neg twenty_three)
unfolding rows
ten_steps_minus_23 = refl

pub ten_steps_half : ten_to half ≡ ten_steps half
unfolding rows
ten_steps_half = refl

pub ten-nan : ten_to nan ≡ nan
unfolding rows
ten-nan = refl

pub ten-inf : ten_to (inf false) ≡ inf false
unfolding rows
ten-inf = refl

pub ten-minus-inf : ten_to (inf true) ≡ bits 0
unfolding rows
ten-minus-inf = refl

-- by 01's steps T(1) was one unit in the last place below 10
pub steps_one : ten_steps one ≡ bits 0x4023_FFFF_FFFF_FFFF
unfolding rows
steps_one = refl
