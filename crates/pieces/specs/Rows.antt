-- 01's bench rows of the pieces. Assumes nothing.
use Rattle.std.specs.Prelude.{◌≡◌, refl, true, false, List, Float}
use Rattle.std.specs.Float.Ieee.{of_bits, round, lt, le, sub}
use Rattle.base.specs.Floats.{bits, decimal, abs}
use Rattle.base.specs.Constants.{two}
use Rattle.pieces.specs.Pieces.{delta, stays, size_of, itself, decomposed}

-- the exponents of the rows
abbrev pub near : Float
near = bits 0x3ff0_0000_0022_5c18

pub near-is : near ≡ decimal 10000000005 10
unfolding of_bits round
near-is = refl

abbrev pub two_and_half : Float
two_and_half = bits 0x4004_0000_0000_0000

pub two_and_half-is : two_and_half ≡ decimal 25 1
unfolding of_bits round
two_and_half-is = refl

abbrev pub just_above : Float
just_above = bits 0x3ff0_0000_0044_b830

pub just_above-is : just_above ≡ decimal 1000000001 9
unfolding of_bits round
just_above-is = refl

abbrev pub just_below : Float
just_below = bits 0x3fef_ffff_ff76_8fa1

pub just_below-is : just_below ≡ decimal 999999999 9
unfolding of_bits round
just_below-is = refl

-- "alpha 1.0000000005 stays"
pub near-stays : (c : List Float) (sigma w radius : Float)
    → decomposed (record { c = c; sigma = sigma; w = w; alpha = near }) radius
    ≡ itself (record { c = c; sigma = sigma; w = w; alpha = near })
unfolding decomposed abs sub of_bits le lt
near-stays c sigma w radius = refl

-- "alpha 2 has 13 terms, 2.5 has 16"
pub two_terms : (size_of (delta two)).terms ≡ 13
unfolding size_of abs sub of_bits le lt
two_terms = refl

pub two-and-half_terms : (size_of (delta two_and_half)).terms ≡ 16
unfolding size_of abs sub of_bits le lt
two-and-half_terms = refl

-- "1.000000001 is replaced"; on the other side 0.999999999 stays
pub just_above_goes : stays just_above ≡ false
unfolding abs sub of_bits le lt
just_above_goes = refl

pub just_below-stays : stays just_below ≡ true
unfolding abs sub of_bits le lt
just_below-stays = refl
