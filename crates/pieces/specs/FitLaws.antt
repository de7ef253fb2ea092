-- Theorems of the fit: what its outer scales are, where the fallback stands, that the peak error is at least +0, and
-- that it is 1 where the exponent is a NaN. Assumes nothing.
use Rattle.std.specs.Prelude.{◌≡◌, Bool, true, false, cond, ◌||◌, List, set, Float}
use Rattle.std.proofs.Math.Path.{refl}
use Rattle.std.proofs.Common.{⊎_elim}
use Prim.Native.Nat.{ℕ, zero, suc}
use Rattle.std.specs.Float.{nan}
use Rattle.std.specs.Float.Ieee.{of_bits, of_int, round, lt, le, eq, add, sub, mul, div, neg, is_nan}
use Rattle.base.specs.Floats.{◌⊖◌, ◌⊗◌, bits, +0, abs, greater}
use Rattle.base.specs.Constants.{one, tenth, ten}
use Rattle.base.specs.Loops.{times}
use Rattle.base.specs.ChoiceLaws.{cond_of}
use Rattle.base.specs.OrderLaws.{lt-nan, abs-least}
use Rattle.powers.specs.Exp.{cut, exp}
use Rattle.powers.specs.Log.{log}
use Rattle.powers.specs.Power.{power, whole_ten, small_whole, ten_to}
use Rattle.solve.specs.Elimination.{flat}
use Rattle.pieces.specs.Fit.{zeros, term_scale, sample_of, target_of, coefficients_of, approx, error_at, peak_error}
use Rattle.pieces.specs.declared.points.Curve.{Curve}

-- ---- the outer scales

-- 02, L2: "outer scales of exactly 0.1 and 10", by T at -1 and at 1
pub outer_13 : (term_scale 13 0 ≡ tenth) × (term_scale 13 12 ≡ ten)
unfolding term_scale ten_to small_whole whole_ten cut abs add mul div neg lt eq of_bits of_int round
outer_13 = (refl, refl)

pub outer_16 : (term_scale 16 0 ≡ tenth) × (term_scale 16 15 ≡ ten)
unfolding term_scale ten_to small_whole whole_ten cut abs add mul div neg lt eq of_bits of_int round
outer_16 = (refl, refl)

-- ---- the fallback

-- "coefficient 1 at terms/2"
pub fallback_13 : (c : ℕ) → coefficients_of 13 zeros (flat c) ≡ set zeros 6 one
unfolding coefficients_of
fallback_13 c = refl

pub fallback_16 : (c : ℕ) → coefficients_of 16 zeros (flat c) ≡ set zeros 8 one
unfolding coefficients_of
fallback_16 c = refl

-- ---- the peak error

greater-least : (a x : Float) → le +0 a ≡ true → le +0 (greater a (abs x)) ≡ true
unfolding greater
greater-least a x h =
    ⊎_elim (λ n. rw n (rw (lt-nan a) h)) (λ g. cond_of (λ (y : Float). le +0 y ≡ true) (lt a (abs x)) g h) (abs-least x)

pub zero-least : le +0 +0 ≡ true
unfolding le of_bits
zero-least = refl

-- "Peak error is never NaN nor below 0"
pub error_least : (terms : ℕ) (scales coefs : List Float) (curve : Curve)
    → le +0 (peak_error terms scales coefs curve) ≡ true
unfolding peak_error times error_at
error_least terms scales coefs curve = go curve.samples 0 +0 zero-least
  where
    go : (k i : ℕ) (e : Float) → le +0 e ≡ true → le +0 (times (error_at terms scales coefs curve) k i e) ≡ true
    go zero i e h = h
    go (suc k) i e h = go k (suc i) _ (greater-least e _ h)

-- ---- a NaN exponent

power-nan : (b : Float) → power b nan ≡ cond (eq b one) one nan
unfolding power exp eq mul is_nan
power-nan b = go (eq b one)
  where
    go : (t : Bool) → cond (t || eq nan (bits 0)) one (exp (nan ⊗ log b)) ≡ cond t one nan
    go true = refl
    go false = refl

one-stays : (b : Float) → greater one (abs (+0 ⊖ power b nan)) ≡ one
unfolding greater abs sub lt of_bits
one-stays b = rw (power-nan b) (go (eq b one))
  where
    go : (t : Bool) → greater one (abs (+0 ⊖ cond t one nan)) ≡ one
    go true = refl
    go false = refl

module _ (scales coefs : List Float) (l : Float) where
  abbrev curve : Curve
  curve = record { alpha = nan; samples = 24; reach = l }

  -- at the peak the deviation is 1
  first : error_at 0 scales coefs curve 0 +0 ≡ one
  unfolding times error_at approx sample_of target_of power greater abs add sub mul neg eq lt of_bits
  first = refl

  -- after it every deviation is 1 or a NaN
  later : (k i : ℕ) → times (error_at 0 scales coefs curve) k i one ≡ one
  unfolding times error_at approx target_of neg
  later zero i = refl
  later (suc k) i = rw one-stays (later k (suc i))

  pub error_one : peak_error 0 scales coefs curve ≡ one
  unfolding peak_error times
  error_one = rw first (later 23 1)
