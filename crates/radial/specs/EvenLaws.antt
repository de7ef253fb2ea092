-- The radial factor of -t is that of t, but for the sign of a zero, which t - arc t may be. Assumes nothing.
use Rattle.std.specs.Prelude.{◌≡◌, refl, Bool, true, false, not, cond, Float}
use Rattle.std.proofs.Common.{sym, ap, ◌∙◌, inl}
use Rattle.std.specs.Float.{nan, inf, fin}
use Rattle.std.specs.Float.Ieee.{neg, lt}
use Rattle.base.specs.Floats.{◌⊖◌, ◌⊗◌, ◌⊘◌, sign, signed, abs}
use Rattle.base.specs.Constants.{tenth}
use Rattle.base.specs.Loops.{times}
use Rattle.base.specs.SignLaws.{neg-neg, abs_neg, mul-neg-both, mul-neg-right}
use Rattle.base.specs.ZeroLaws.{Near, quotient-near}
use Rattle.powers.specs.Arc.{arc, arc_abs}
use Rattle.radial.specs.Radial.{series_of, radial_gSeries, radial_g}

-- the series takes t · t alone
series_even : (t : Float) → radial_gSeries (neg t) ≡ radial_gSeries t
unfolding series_of times
series_even t = rw (mul-neg-both t t) refl

-- ---- the quotient
signed-neg : (s : Bool) (r : Float) → cond (not s) (neg r) r ≡ neg (cond s (neg r) r)
signed-neg true r = sym (neg-neg r)
signed-neg false r = refl

arc-neg : (t : Float) → sign (neg t) ≡ not (sign t) → arc (neg t) ≡ neg (arc t)
unfolding arc signed
arc-neg t h = rw (h, abs_neg t) (signed-neg (sign t) (arc_abs (abs t)))

cube_neg : (t : Float) → neg t ⊗ neg t ⊗ neg t ≡ neg (t ⊗ t ⊗ t)
cube_neg t = ap (λ (q : Float). q ⊗ neg t) (mul-neg-both t t) ∙ mul-neg-right (t ⊗ t) t

abbrev quotient : Float → Float
quotient t = (t ⊖ arc t) ⊘ (t ⊗ t ⊗ t)

quotient-even : (t : Float) → sign (neg t) ≡ not (sign t) → Near (quotient (neg t)) (quotient t)
quotient-even t s = rw (arc-neg t s, cube_neg t) (quotient-near t (arc t) (t ⊗ t ⊗ t))

-- ---- both; a NaN has no sign to turn
by_sign : (t : Float) → sign (neg t) ≡ not (sign t) → Near (radial_g (neg t)) (radial_g t)
unfolding radial_g
by_sign t s = rw (abs_neg t) (by (lt (abs t) tenth))
  where
    by : (b : Bool) → Near (cond b (radial_gSeries (neg t)) (quotient (neg t))) (cond b (radial_gSeries t) (quotient t))
    by true = inl (series_even t)
    by false = quotient-even t s

pub even-near : (t : Float) → Near (radial_g (neg t)) (radial_g t)
unfolding neg
even-near nan = inl refl
even-near (inf s) = by_sign (inf s) refl
even-near (fin s m e) = by_sign (fin s m e) refl
