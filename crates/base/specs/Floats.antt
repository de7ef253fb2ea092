-- Rust's operators on f64 as IEEE 754 has them, literals by their bits, and the sign. 01: "results match bit for bit,
-- every NaN counting as one" is `≡` on `lib.Ieee`'s `Float`, which has one NaN. Definitions only.
use Rattle.std.specs.Prelude.{ℕ, ◌*◌, ◌/◌, ◌^◌, pos, Bool, false, cond, Float}
use Rattle.std.specs.Float.{nan, inf, fin, Format, binary64}
use Rattle.std.specs.Float.Ieee.{low, up, down, add, sub, mul, div, neg, lt, of_bits, of_int, round}

infixl 65 ◌⊕◌ ◌⊖◌
infixl 70 ◌⊗◌ ◌⊘◌
abbrev pub ◌⊕◌ : Float → Float → Float
◌⊕◌ x y = add binary64 x y

abbrev pub ◌⊖◌ : Float → Float → Float
◌⊖◌ x y = sub binary64 x y

abbrev pub ◌⊗◌ : Float → Float → Float
◌⊗◌ x y = mul binary64 x y

abbrev pub ◌⊘◌ : Float → Float → Float
◌⊘◌ x y = div binary64 x y

-- the float with these bits; every pattern of a NaN gives the one `nan`
abbrev pub bits : ℕ → Float
bits n = of_bits binary64 n

-- the whole number n as a float
abbrev pub whole : ℕ → Float
whole n = of_int binary64 (pos n)

-- digits / 10 ^ places, rounded once: what a decimal in 01 or the Rust stands for
abbrev pub decimal : ℕ → ℕ → Float
decimal digits places = round binary64 false digits (10 ^ places)

-- the sum that every sum starts from (01: "Sums start at +0")
abbrev pub +0 : Float
+0 = bits 0

-- whether the sign is minus; a NaN has none
abbrev pub sign : Float → Bool
sign nan = false
sign (inf s) = s
sign (fin s m e) = s

-- r, its sign turned where that of x is minus: x's sign put upon an r that has none of its own
unfoldable pub signed : Float → Float → Float
signed x r = cond (sign x) (neg r) r

-- the absolute value
unfoldable pub abs : Float → Float
abs nan = nan
abs (inf s) = inf false
abs (fin s m e) = fin false m e

-- Rust's `max` of an a that is no NaN and any b: a NaN is passed over. Of equal zeros it is a, which is never at stake
-- here
unfoldable pub greater : Float → Float → Float
greater a b = cond (lt a b) b a

-- the size of a finite value that the format holds, in units of its smallest value, 2 ^ -low: a whole number
unfoldable pub units_in : Format → Float → ℕ
units_in f nan = 0
units_in f (inf s) = 0
units_in f (fin s m e) = m * up e * 2 ^ low f / down e
