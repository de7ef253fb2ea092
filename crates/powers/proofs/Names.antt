-- The floats that the library has names for. Assumes nothing.
use Rattle.std.proofs.Common.{◌≡◌, refl, true, false}
use lib.Ieee.{nan, inf, binary64, of_bits}

pub infinity_is : of_bits binary64 9218868437227405312 ≡ inf false
unfolding of_bits
infinity_is = refl

pub neg_infinity_is : of_bits binary64 18442240474082181120 ≡ inf true
unfolding of_bits
neg_infinity_is = refl

pub nan_is : of_bits binary64 9221120237041090560 ≡ nan
unfolding of_bits
nan_is = refl
