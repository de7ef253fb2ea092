-- The magnitude of a value up to 10^15 by its pattern, split. Assumes nothing.
use mathlib.Core.Path.{◌≡◌, refl, sym, ap, subst, ◌∙◌}
use mathlib.Core.Bool.{false, not}
use Prim.Native.Nat.{ℕ, zero, suc, ◌+◌, ◌-◌, ◌*◌, ◌/◌, ◌^◌, ◌≤◌, ◌<◌}
use native.Mathlib.Nat.{zero-lt-suc, le_of_lt, le_of_eq, le_trans, lt_of_lt_of_le, lt_of_le_of_lt, lt_of_not-le, lt_irrefl, zero-mul, mul_assoc, mul_right_comm, mul-le-mul_right, mul-le-mul_left, le_of_mul-le-mul_right, eq_of_mul-eq-mul_right}
use native.Mathlib.Omega.{arith}
use lib.Dec.{T, lt→ltb, lit<}
use lib.IntN.{ℤ}
use lib.Pow.{pow-add, pow_pos, pow_mono}
use lib.Ieee.{Float, fin, binary64, up, down, is_nan, to_bits, fits, size}
use lib.Ieee.Fits.{down_pos}
use lib.Ieee.Exact.{HasValue}
use Rattle.base.specs.Split.{Scaled, units_at}
use Rattle.base.specs.UnitLaws.{bits_of, bits-under, own-units}
use Rattle.whole.specs.Whole.{nearest, magnitude}
use Rattle.whole.specs.NearestLaws.{nearest-none, nearest-most, nearest-same}
use Rattle.whole.specs.WholeLaws.{Sized}

no_nan : (m : ℕ) (e : ℤ) → T (not (is_nan (fin false m e)))
unfolding is_nan
no_nan m e = tt

under : (m : ℕ) (e : ℤ) → T (fits binary64 (fin false m e)) → to_bits binary64 (fin false m e) < 9218868437227405312
under zero e f =
    let z : 0 * up e * 2 ^ 1074 ≡ 0 * down e
    = ap (λ (t : ℕ). t * 2 ^ 1074) (zero-mul (up e)) ∙ zero-mul (2 ^ 1074) ∙ sym (zero-mul (down e)) in
    subst (λ (t : ℕ). t < 9218868437227405312) (sym (bits_of 0 e 0 z)) none
  where
    none : (size 0 - 53) * 2 ^ 52 + 0 / 2 ^ (size 0 - 53) < 9218868437227405312
    none = unfold size in lit< tt
under (suc m) e f = bits-under (fin false (suc m) e) f (lt→ltb 0 (suc m) (zero-lt-suc m))

module _ (x y : Float) (s : Sized x y) (f : T (fits binary64 y)) where
  pub a_number : T (not (is_nan y))
  a_number = rw s.is (no_nan s.m s.e)

  pub below_inf : to_bits binary64 y < 9218868437227405312
  below_inf =
      subst (λ (z : Float). to_bits binary64 z < 9218868437227405312) (sym s.is)
      (under s.m s.e (subst (λ (z : Float). T (fits binary64 z)) s.is f))

  value : s.m * up s.e * 2 ^ 1074 ≡ units_at (to_bits binary64 y) * down s.e
  value =
      (subst (λ (z : Float). HasValue z false (units_at (to_bits binary64 y)) (2 ^ 1074)) s.is
      (own-units y f below_inf)).1

  by_units : magnitude x ≡ nearest (units_at (to_bits binary64 y)) (2 ^ 1074)
  by_units =
      s.rounds
      ∙ nearest-same (s.m * up s.e) (down s.e) (units_at (to_bits binary64 y)) (2 ^ 1074) (down_pos s.e)
      (pow_pos 1074) value

  pub most-is : magnitude x ≤ 1000000000000000
  most-is = rw s.rounds (nearest-most (s.m * up s.e) (down s.e) 1000000000000000 (down_pos s.e) s.most)

  zero-units : units_at 0 ≡ 0
  unfolding units_at
  zero-units = refl

  pub zero_is : to_bits binary64 y ≡ 0 → magnitude x ≡ 0
  zero_is h =
      by_units ∙ ap (λ (t : ℕ). nearest (units_at t) (2 ^ 1074)) h ∙ ap (λ (t : ℕ). nearest t (2 ^ 1074)) zero-units
      ∙ nearest-none 0 (2 ^ 1074) (pow_pos 1074)

  units-most : units_at (to_bits binary64 y) ≤ 1000000000000000 * 2 ^ 1074
  units-most =
      le_of_mul-le-mul_right
      (le_trans (le_of_eq (sym value))
      (le_trans (mul-le-mul_right (2 ^ 1074) s.most)
      (le_of_eq (mul_right_comm 1000000000000000 (down s.e) (2 ^ 1074))))) (down_pos s.e)

  module _ (sig ex : ℕ) (p : Scaled (units_at (to_bits binary64 y)) sig ex) where
    -- 2^52·2^ex ≤ sig·2^ex = units·2^52 ≤ 10^15·2^1126 < 2^52·2^1126
    pub low_exponent : ex < 1126
    low_exponent =
        lt_of_not-le
        (λ (g : 1126 ≤ ex). lt_irrefl (2 ^ 52 * 2 ^ 1126)
        (lt_of_le_of_lt
        (le_trans (mul-le-mul_left (2 ^ 52) (pow_mono g))
        (le_trans (mul-le-mul_right (2 ^ ex) p.least)
        (le_trans (le_of_eq p.value) (mul-le-mul_right (2 ^ 52) units-most)))) (lit< tt)))

    by-sig : ex ≤ 1126 → magnitude x ≡ nearest sig (2 ^ (1126 - ex))
    by-sig h =
        by_units
        ∙ nearest-same (units_at (to_bits binary64 y)) (2 ^ 1074) sig (2 ^ (1126 - ex)) (pow_pos 1074)
        (pow_pos (1126 - ex)) cross
      where
        whole : ex + (1126 - ex) ≡ 1126
        whole = omega arith

        cross : units_at (to_bits binary64 y) * 2 ^ (1126 - ex) ≡ sig * 2 ^ 1074
        cross =
            eq_of_mul-eq-mul_right (2 ^ 52) (pow_pos 52) (units_at (to_bits binary64 y) * 2 ^ (1126 - ex))
            (sig * 2 ^ 1074)
            (mul_right_comm (units_at (to_bits binary64 y)) (2 ^ (1126 - ex)) (2 ^ 52)
            ∙ ap (λ (t : ℕ). t * 2 ^ (1126 - ex)) (sym p.value)
            ∙ mul_assoc sig (2 ^ ex) (2 ^ (1126 - ex))
            ∙ ap (λ (t : ℕ). sig * t) (sym (pow-add 2 ex (1126 - ex)) ∙ ap (λ (t : ℕ). 2 ^ t) whole ∙ pow-add 2 1074 52)
            ∙ sym (mul_assoc sig (2 ^ 1074) (2 ^ 52)))

    pub by_shift : magnitude x ≡ nearest sig (2 ^ (1126 - ex))
    by_shift = by-sig (le_of_lt low_exponent)

    double : (a b : ℕ) → a < b → 2 * a < 2 * b
    double a b h = omega arith

    far : ex < 1073 → 54 ≤ 1126 - ex
    far h = omega arith

    pub below_half : ex < 1073 → magnitude x ≡ 0
    below_half h =
        by_shift
        ∙ nearest-none sig (2 ^ (1126 - ex)) (lt_of_lt_of_le (double sig (2 ^ 53) p.most) (pow_mono (far h)))
