-- The binary form of a float above zero, from the split of its pattern. Assumes nothing.
use Rattle.std.proofs.Common.{◌≡◌, ℕ, suc, ◌+◌, ◌*◌, ◌/◌, ◌%◌, ◌^◌, ◌<◌, ◌≤◌, false, T, sym, ap, ◌∙◌, lt_of_lt_of_le, mul-le-mul_right, mul_assoc, mul_comm, lt_of_mul-lt-mul_right, mul-lt-mul_of_pos_right, le_of_mul-le-mul_right, arith, lit≤, pow_pos, shl_lt}
use native.Mathlib.Nat.{pow-succ'}
use lib.Ieee.{Float, binary64, size, of_bits, to_bits, fits, round}
use lib.Ieee.Bits.{of_bits-fits}
use lib.Ieee.Exact.{HasValue, round_exact}
use lib.Ieee.Fits.{round-fits}
use lib.Ieee.Scale.{round_same}
use lib.Ieee.Positive.{positive}
use Rattle.base.specs.Floats.{units_in}
use Rattle.base.specs.Split.{units_at, Scaled}
use Rattle.base.specs.UnitLaws.{size_is, units-is, unique, bits_value, own-units, bits-under}
use Rattle.powers.specs.Log.{place_of, mantissa}

-- the pattern of sig / 2 ^ 52 is sig with the exponent below 1's added, since sig's first digit adds one more
pattern : (sig : ℕ) → 2 ^ 52 ≤ sig → sig < 2 ^ 53 → units_at (sig + 4602678819172646912) ≡ sig * 2 ^ 1022
unfolding units_at
pattern sig l h =
    let b = sig + 4602678819172646912 in
    let field : b / 2 ^ 52 ≡ 1023 = omega arith in
    let digits : 2 ^ 52 + b % 2 ^ 52 ≡ sig = omega arith in
    rw (field, digits)

-- ---- n * 2 ^ 52 is sig * 2 ^ ex, so n lies from 2 ^ ex up to twice that, and n / 2 ^ ex is sig / 2 ^ 52
module _ (n sig ex : ℕ) (s : Scaled n sig ex) where
  scaled-size : size n ≡ suc ex
  scaled-size =
      let low : 2 ^ 52 * 2 ^ ex ≤ n * 2 ^ 52 = rw (← s.value) (mul-le-mul_right (2 ^ ex) s.least) in
      let high : n * 2 ^ 52 < 2 ^ 53 * 2 ^ ex = rw (← s.value) (mul-lt-mul_of_pos_right s.most (pow_pos ex)) in
      size_is ex n (le_of_mul-le-mul_right (rw (mul_comm (2 ^ 52) (2 ^ ex)) at low) (pow_pos 52))
      (lt_of_mul-lt-mul_right (2 ^ 52) (rw (pow-succ' 2 ex) (regroup (2 ^ ex) (n * 2 ^ 52) high)))
    where
      regroup : (p a : ℕ) → a < 2 ^ 53 * p → a < 2 * p * 2 ^ 52
      regroup p a h = omega arith

  scaled-round : of_bits binary64 (sig + 4602678819172646912) ≡ round binary64 false n (2 ^ ex)
  scaled-round =
      let own : sig * 2 ^ 1074 ≡ sig * 2 ^ 1022 * 2 ^ 52 = sym (mul_assoc sig (2 ^ 1022) (2 ^ 52)) in
      let cap : sig * 2 ^ 1022 < 2 ^ 2098 = lt_of_lt_of_le (shl_lt 53 1022 s.most) (lit≤ tt) in
      let b = sig + 4602678819172646912 in
      let v : HasValue (of_bits binary64 b) false (sig * 2 ^ 1022) (2 ^ 1074)
      = rw (pattern sig s.least s.most) at (bits_value b (omega arith)) in
      sym (round_same binary64 false n (2 ^ ex) sig (2 ^ 52) (pow_pos ex) (pow_pos 52) (sym s.value) ∙
      unique (round binary64 false sig (2 ^ 52)) (of_bits binary64 b) false sig (2 ^ 52) (sig * 2 ^ 1022) (2 ^ 1074)
      (pow_pos 52) (pow_pos 1074) (round-fits binary64 false sig (2 ^ 52)) (of_bits-fits binary64 b)
      (round_exact binary64 false sig (2 ^ 52) sig 1022 (pow_pos 52) s.most cap own) v own)

module _ (b : Float) (f : T (fits binary64 b)) (p : T (positive b)) (sig ex : ℕ)
    (s : Scaled (units_at (to_bits binary64 b)) sig ex) where
  units : units_in binary64 b ≡ units_at (to_bits binary64 b)
  units = units-is b (units_at (to_bits binary64 b)) (own-units b f (bits-under b f p))

  pub place_is : ex ≡ place_of b
  unfolding place_of
  place_is =
      let e : size (units_in binary64 b) ≡ suc ex = ap size units ∙ scaled-size (units_at (to_bits binary64 b)) sig ex s in
      omega arith

  pub mantissa-is : of_bits binary64 (sig + 4602678819172646912) ≡ mantissa b
  unfolding mantissa
  mantissa-is = rw (← place_is, units) (scaled-round (units_at (to_bits binary64 b)) sig ex s)
