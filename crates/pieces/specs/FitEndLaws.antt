-- Theorems of how a fit ended: kept exactly where the kernel stays, no exponent exactly where alpha is a NaN, a fitted
-- one's pivot a NaN or above 1e-18, a fallback's column among the terms; and what it does not depend on.
-- Assumes nothing.
use Rattle.std.specs.Prelude.{◌≡◌, Bool, true, false, cond, List, ℕ, ◌<◌, Float}
use Rattle.std.proofs.Math.Path.{refl}
use Rattle.std.proofs.Common.{subst, arith}
use Rattle.std.specs.Float.{nan}
use Rattle.std.specs.Float.Ieee.{of_bits, lt, le, eq, ne, sub}
use Rattle.base.specs.Floats.{abs}
use Rattle.base.specs.FloatLaws.{is-nan}
use Rattle.solve.specs.Elimination.{Ended, reduced, flat}
use Rattle.solve.specs.PivotLaws.{Accepted, Told, told}
use Rattle.kernel.specs.declared.kernel.Kernel.{Kernel}
use Rattle.pieces.specs.declared.fit.Fit.{Fit}
use Rattle.pieces.specs.declared.fit.Fit.TheVariants.{Kept, Fitted, Fallback, NoExponent}
use Rattle.pieces.specs.Pieces.{delta, stays, size_of, curve_of, solved_by}
use Rattle.pieces.specs.PieceLaws.{sized}
use Rattle.pieces.specs.FitEnd.{ended_fit, fit_of}

-- what each kind says of its exponent and its numbers
abbrev Says : Float → Fit → Type 0
Says alpha Kept = stays alpha ≡ true
Says alpha (Fitted s) = Accepted s
Says alpha (Fallback c) = c < 16
Says alpha NoExponent = alpha ≡ nan

says : (k : Kernel) (radius : Float) → Says k.alpha (fit_of k radius)
unfolding fit_of ended_fit
says k radius = go (stays k.alpha) refl (ne k.alpha k.alpha) refl
  where
    terms : ℕ
    terms = (size_of (delta k.alpha)).terms

    ended : (e : Ended) → Told terms e → Says k.alpha (ended_fit e)
    ended (reduced s m) t = t
    ended (flat c) t = omega (arith, (sized (delta k.alpha)).few)

    go : (b : Bool) → stays k.alpha ≡ b → (t : Bool) → ne k.alpha k.alpha ≡ t
        → Says k.alpha (cond b Kept (cond t NoExponent (ended_fit (solved_by terms (curve_of k radius)))))
    go true e t f = e
    go false e true f = is-nan k.alpha f
    go false e false f = ended (solved_by terms (curve_of k radius)) (told terms _)

module _ (k : Kernel) (radius : Float) where
  -- ---- "kept" exactly where the kernel stays
  pub stays-kept : stays k.alpha ≡ true → fit_of k radius ≡ Kept
  unfolding fit_of
  stays-kept h = rw h refl

  pub kept-stays : fit_of k radius ≡ Kept → stays k.alpha ≡ true
  kept-stays e = subst (Says k.alpha) e (says k radius)

  -- ---- "no exponent" exactly where alpha is a NaN
  pub nan-none : k.alpha ≡ nan → fit_of k radius ≡ NoExponent
  unfolding fit_of abs sub le lt eq ne of_bits
  nan-none h = rw h refl

  pub none-nan : fit_of k radius ≡ NoExponent → k.alpha ≡ nan
  none-nan e = subst (Says k.alpha) e (says k radius)

  -- ---- "fitted with that pivot": one that the solver accepted, a NaN or above 1e-18
  pub fitted-accepted : {s : Float} → fit_of k radius ≡ Fitted s → Accepted s
  fitted-accepted e = subst (Says k.alpha) e (says k radius)

  -- ---- "fallback with that column": one of at most 16
  pub fallback_column : {c : ℕ} → fit_of k radius ≡ Fallback c → c < 16
  fallback_column e = subst (Says k.alpha) e (says k radius)

-- ---- what it does not depend on

-- a kernel of another centre and weight is fitted alike
pub same_fit : (c c' : List Float) (sigma w w' alpha radius : Float)
    → fit_of (record { c = c; sigma = sigma; w = w; alpha = alpha }) radius
    ≡ fit_of (record { c = c'; sigma = sigma; w = w'; alpha = alpha }) radius
unfolding fit_of
same_fit c c' sigma w w' alpha radius = refl
