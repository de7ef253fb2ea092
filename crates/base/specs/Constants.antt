-- The float literals of 01 and the Rust, by their bits (the form in which the code's goals have them), and for each the
-- theorem that it is the decimal, rounded once. A comment says where it is used.
use Rattle.std.specs.Prelude.{◌≡◌, refl, Float}
use Rattle.std.specs.Float.Ieee.{of_bits, round}
use Rattle.base.specs.Floats.{bits, decimal}

-- ---- 01, "Roots and powers"

-- 0.5
abbrev pub half : Float
half = bits 0x3fe0_0000_0000_0000

pub half_is : half ≡ decimal 5 1
unfolding of_bits round
half_is = refl

-- 1
abbrev pub one : Float
one = bits 0x3ff0_0000_0000_0000

pub one-is : one ≡ decimal 1 0
unfolding of_bits round
one-is = refl

-- 2
abbrev pub two : Float
two = bits 0x4000_0000_0000_0000

pub two_is : two ≡ decimal 2 0
unfolding of_bits round
two_is = refl

-- 4
abbrev pub four : Float
four = bits 0x4010_0000_0000_0000

pub four_is : four ≡ decimal 4 0
unfolding of_bits round
four_is = refl

-- 01's H
abbrev pub half_pi : Float
half_pi = bits 0x3ff9_21fb_5444_2d18

pub half_pi-is : half_pi ≡ decimal 15707963267948966 16
unfolding of_bits round
half_pi-is = refl

-- the arc's a starts at 1/23
abbrev pub twenty_three : Float
twenty_three = bits 0x4037_0000_0000_0000

pub twenty_three-is : twenty_three ≡ decimal 23 0
unfolding of_bits round
twenty_three-is = refl

-- the log's a starts at 1/21
abbrev pub twenty_one : Float
twenty_one = bits 0x4035_0000_0000_0000

pub twenty_one-is : twenty_one ≡ decimal 21 0
unfolding of_bits round
twenty_one-is = refl

-- above it the significand is halved
abbrev pub root_two : Float
root_two = bits 0x3ff6_a09e_667f_3bcd

pub root_two-is : root_two ≡ decimal 14142135623730951 16
unfolding of_bits round
root_two-is = refl

-- 1 / ln 2
abbrev pub log2e : Float
log2e = bits 0x3ff7_1547_652b_82fe

pub log2e-is : log2e ≡ decimal 14426950408889634 16
unfolding of_bits round
log2e-is = refl

-- ln 2
abbrev pub ln2 : Float
ln2 = bits 0x3fe6_2e42_fefa_39ef

pub ln2-is : ln2 ≡ decimal 6931471805599453 16
unfolding of_bits round
ln2-is = refl

-- E is +inf from here on
abbrev pub exp_top : Float
exp_top = bits 0x4090_0000_0000_0000

pub exp_top-is : exp_top ≡ decimal 1024 0
unfolding of_bits round
exp_top-is = refl

-- E is zero below minus this
abbrev pub exp_bottom : Float
exp_bottom = bits 0x4090_e000_0000_0000

pub exp_bottom-is : exp_bottom ≡ decimal 1080 0
unfolding of_bits round
exp_bottom-is = refl

-- the log of ten to base 2
abbrev pub log2ten : Float
log2ten = bits 0x400a_934f_0979_a371

pub log2ten-is : log2ten ≡ decimal 3321928094887362 15
unfolding of_bits round
log2ten-is = refl

-- the log of 2 to base ten
abbrev pub log10two : Float
log10two = bits 0x3fd3_4413_509f_79ff

pub log10two-is : log10two ≡ decimal 3010299956639812 16
unfolding of_bits round
log10two-is = refl

-- ---- 01, "A kernel arrives"

-- KM_TO_M
abbrev pub thousand : Float
thousand = bits 0x408f_4000_0000_0000

pub thousand-is : thousand ≡ decimal 1000 0
unfolding of_bits round
thousand-is = refl

-- ---- 01, "Solve"

-- a pivot of this absolute value or less is flat
abbrev pub flat_limit : Float
flat_limit = bits 0x3c32_725d_d1d2_43ac

pub flat_limit-is : flat_limit ≡ decimal 1 18
unfolding of_bits round
flat_limit-is = refl

-- a factor of this absolute value or less is skipped
abbrev pub skip_limit : Float
skip_limit = bits 0x39b4_484b_feeb_c2a0

pub skip_limit-is : skip_limit ≡ decimal 1 30
unfolding of_bits round
skip_limit-is = refl

-- ---- 01, "Pieces"

-- an exponent this near to 1 stays
abbrev pub stay_limit : Float
stay_limit = bits 0x3e11_2e0b_e826_d695

pub stay_limit-is : stay_limit ≡ decimal 1 9
unfolding of_bits round
stay_limit-is = refl

-- added to the diagonal of the normal equations
abbrev pub ridge : Float
ridge = bits 0x3d71_9799_812d_ea11

pub ridge-is : ridge ≡ decimal 1 12
unfolding of_bits round
ridge-is = refl

-- a coefficient is kept where its absolute value exceeds it
abbrev pub keep_limit : Float
keep_limit = ridge

pub keep_limit-is : keep_limit ≡ decimal 1 12
keep_limit-is = ridge-is

-- ---- 01, "Volume, mass, weights"

-- below it radial_g takes the series
abbrev pub tenth : Float
tenth = bits 0x3fb9_9999_9999_999a

pub tenth-is : tenth ≡ decimal 1 1
unfolding of_bits round
tenth-is = refl

-- radial_g at zero is 1/3
abbrev pub three : Float
three = bits 0x4008_0000_0000_0000

pub three-is : three ≡ decimal 3 0
unfolding of_bits round
three-is = refl

-- the bulk density where none is given
abbrev pub default_bulk : Float
default_bulk = bits 0x4092_9800_0000_0000

pub default_bulk-is : default_bulk ≡ decimal 1190 0
unfolding of_bits round
default_bulk-is = refl

-- volume_centroid's factor
abbrev pub quarter : Float
quarter = bits 0x3fd0_0000_0000_0000

pub quarter-is : quarter ≡ decimal 25 2
unfolding of_bits round
quarter-is = refl

-- ---- 01, "Remainder"

-- mesh_enclosed_volume divides by it
abbrev pub float_six : Float
float_six = bits 0x4018_0000_0000_0000

pub float_six-is : float_six ≡ decimal 6 0
unfolding of_bits round
float_six-is = refl

-- calibrate_kernels stretches the kernels where the mesh reaches beyond it
abbrev pub ten : Float
ten = bits 0x4024_0000_0000_0000

pub ten-is : ten ≡ decimal 10 0
unfolding of_bits round
ten-is = refl

-- calibrate_kernels' reference radius
abbrev pub mesh_radius : Float
mesh_radius = bits 0x4080_8400_0000_0000

pub mesh_radius-is : mesh_radius ≡ decimal 5285 1
unfolding of_bits round
mesh_radius-is = refl

-- volume_centroid is zeros unless the volume's absolute value is above it
abbrev pub volume_limit : Float
volume_limit = skip_limit

pub volume_limit-is : volume_limit ≡ decimal 1 30
volume_limit-is = skip_limit-is

-- a raw mass, or a density at the origin, of this absolute value or less gives no scale
abbrev pub scale_limit : Float
scale_limit = skip_limit

pub scale_limit-is : scale_limit ≡ decimal 1 30
scale_limit-is = skip_limit-is
