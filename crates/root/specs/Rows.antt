-- Rows of 01's bench table on root, by computation, on patterns, and the ends of the range. The values come from
-- correctly rounded roots worked out with whole numbers apart from these definitions. Assumes nothing.
use Rattle.std.specs.Prelude.{◌≡◌, refl}
use Rattle.std.specs.Float.{binary64}
use Rattle.std.specs.Float.Ieee.{of_bits}
use Rattle.base.specs.Floats.{bits}
use Rattle.root.specs.Root.{square_root}

-- P: root 4 = 2
pub root_four : square_root binary64 (bits 0x4010_0000_0000_0000) ≡ bits 0x4000_0000_0000_0000
unfolding square_root of_bits
root_four = refl

-- P: root -0 = -0
pub root_minus-zero : square_root binary64 (bits 0x8000_0000_0000_0000) ≡ bits 0x8000_0000_0000_0000
unfolding square_root of_bits
root_minus-zero = refl

-- root 2
pub root_two_lem : square_root binary64 (bits 0x4000_0000_0000_0000) ≡ bits 0x3FF6_A09E_667F_3BCD
unfolding square_root of_bits
root_two_lem = refl

-- the smallest subnormal
pub root_least : square_root binary64 (bits 1) ≡ bits 0x1E60_0000_0000_0000
unfolding square_root of_bits
root_least = refl

-- the largest finite value
pub root_most : square_root binary64 (bits 0x7FEF_FFFF_FFFF_FFFF) ≡ bits 0x5FEF_FFFF_FFFF_FFFF
unfolding square_root of_bits
root_most = refl
