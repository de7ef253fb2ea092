-- Laws of a float's tests by `<` and `==`: a NaN is below nothing, what is equal is not below, and an absolute value is
-- at least +0 or a NaN. Assumes nothing.
use Rattle.std.specs.Prelude.{◌≡◌, refl, ◌⊎◌, Bool, true, false, ◌&&◌, ℕ, ◌+◌, ◌*◌, eqb, Float}
use Rattle.std.proofs.Common.{inl, inr, zero-mul, arith, eqb-true, le-ltb, lit<}
use Rattle.std.specs.Float.{nan, inf, fin}
use Rattle.std.specs.Float.Ieee.{of_bits, up, down, lt, le, eq, below, level}
use Rattle.std.specs.Float.Ieee.Bits.{is_true}
use Rattle.std.specs.Float.Ieee.Fits.{down_pos}
use Rattle.std.specs.Float.Ieee.Order.{le_of_values}
use Rattle.base.specs.Floats.{+0, abs}

pub lt-nan : (x : Float) → lt x nan ≡ false
unfolding lt
lt-nan nan = refl
lt-nan (inf s) = refl
lt-nan (fin s m e) = refl

left : (p q : Bool) → (p && q) ≡ true → p ≡ true
left true q h = refl
left false q h = h

right : (p q : Bool) → (p && q) ≡ true → q ≡ true
right true q h = h
right false q h = cc

level-not-below : (s : Bool) (a : ℕ) (t : Bool) (b : ℕ) → level s a t b ≡ true → below s a t b ≡ false
level-not-below false a false b h = le-ltb a b (omega (arith, eqb-true a b (left _ _ h)))
level-not-below false a true b h = refl
level-not-below true a false b h =
    le-ltb 0 (a + b) (omega (arith, eqb-true a b (left _ _ h), eqb-true a 0 (right (eqb a b) _ h)))
level-not-below true a true b h = le-ltb b a (omega (arith, eqb-true a b (left _ _ h)))

pub eq_not_lt : (x y : Float) → eq x y ≡ true → lt x y ≡ false
unfolding eq lt
eq_not_lt nan y h = refl
eq_not_lt (inf s) nan h = refl
eq_not_lt (inf true) (inf true) h = refl
eq_not_lt (inf false) (inf t) h = refl
eq_not_lt (inf true) (inf false) h = cc
eq_not_lt (inf s) (fin t n d) h = cc
eq_not_lt (fin s m e) nan h = refl
eq_not_lt (fin s m e) (inf t) h = cc
eq_not_lt (fin s m e) (fin t n d) h = level-not-below s _ t _ h

pub abs-least : (x : Float) → (abs x ≡ nan) ⊎ (le +0 (abs x) ≡ true)
unfolding abs le lt of_bits
abs-least nan = inl refl
abs-least (inf s) = inr refl
abs-least (fin s m e) = inr (is_true _ (le_of_values +0 (fin false m e) 0 1 (m * up e) (down e) (lit< tt) (down_pos e)
    (refl, refl) (refl, refl) (omega (arith, zero-mul (down e)))))
