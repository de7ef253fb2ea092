-- Values next to halves and at the limit, rounded. Assumes nothing.
use Rattle.std.specs.Prelude.{◌≡◌, refl, true, false, ℤ, pos, neg_ℤ}
use Rattle.std.specs.Float.{nan, inf}
use Rattle.std.specs.Float.Ieee.{le, lt, eq, neg, of_bits}
use Rattle.base.specs.Floats.{bits, abs}
use Rattle.whole.specs.Whole.{nearest, magnitude, rounded, mass_limit, printable}
use Rattle.whole.specs.Nearest.{off}

-- of no use but to name once the definitions that the rows below open
unfoldable pub rows : ℤ
unfolding le lt eq neg of_bits abs nearest magnitude rounded printable
rows = pos 0

-- 0.5, 1.5, 2.5; -0.5, -0.3, -0 and -1.5
pub half : rounded (bits 0x3fe0_0000_0000_0000) ≡ pos 0
unfolding rows
half = refl

pub one-and-half : rounded (bits 0x3ff8_0000_0000_0000) ≡ pos 2
unfolding rows
one-and-half = refl

pub two-and-half : rounded (bits 0x4004_0000_0000_0000) ≡ pos 2
unfolding rows
two-and-half = refl

pub minus-half : rounded (neg (bits 0x3fe0_0000_0000_0000)) ≡ pos 0
unfolding rows
minus-half = refl

pub minus-small : rounded (neg (bits 0x3fd3_3333_3333_3333)) ≡ pos 0
unfolding rows
minus-small = refl

pub minus-zero : rounded (neg (bits 0)) ≡ pos 0
unfolding rows
minus-zero = refl

pub minus-one-and-half : rounded (neg (bits 0x3ff8_0000_0000_0000)) ≡ neg_ℤ (pos 2)
unfolding rows
minus-one-and-half = refl

-- the float after 0.5, and the greatest below 1.5
pub past-half : rounded (bits 0x3fe0_0000_0000_0001) ≡ pos 1
unfolding rows
past-half = refl

pub below-one-and-half : rounded (bits 0x3ff7_ffff_ffff_ffff) ≡ pos 1
unfolding rows
below-one-and-half = refl

-- 10^15, no less and no more, is good; the float after it, an infinity and NaN are not
pub limit_is : off mass_limit (pos 1000000000000000) ≡ 0
unfolding rows
limit_is = refl

pub limit_good : printable mass_limit ≡ true
unfolding rows
limit_good = refl

pub past_limit : printable (bits 0x430c_6bf5_2634_0001) ≡ false
unfolding rows
past_limit = refl

pub infinite : printable (inf true) ≡ false
unfolding rows
infinite = refl

pub no_number : printable nan ≡ false
unfolding rows
no_number = refl
