-- The square root at NaN, zeros, the infinity and below zero. Assumes nothing.
use Rattle.std.specs.Prelude.{◌≡◌, true, false, refl, Float}
use Rattle.std.proofs.Common.{sym, ap, ◌∙◌}
use Rattle.std.specs.Float.{nan, inf, binary64}
use Rattle.std.specs.Float.Ieee.{eq, ne, lt}
use Rattle.base.specs.Floats.{bits}
use Rattle.base.specs.FloatLaws.{is-nan, is_zero, Below, lower-inf, finite, is_below}
use Rattle.root.specs.Root.{square_root}

pub of_nan : (x : Float) → ne x x ≡ true → x ≡ square_root binary64 x
unfolding square_root
of_nan x h = let n = is-nan x h in n ∙ ap (square_root binary64) (sym n)

-- -0 gives -0, and +0 gives +0
pub of_zero : (x : Float) → eq x (bits 0) ≡ true → x ≡ square_root binary64 x
unfolding square_root
of_zero x h = let z = is_zero x h in z.same ∙ ap (square_root binary64) (sym z.same)

below_nan : {x : Float} → Below x → square_root binary64 x ≡ nan
unfolding square_root
below_nan lower-inf = refl
below_nan (finite m e) = refl

pub of_negative : (x : Float) → lt x (bits 0) ≡ true → square_root binary64 x ≡ nan
of_negative x h = below_nan (is_below x h)

pub of_infinity : square_root binary64 (inf false) ≡ inf false
unfolding square_root
of_infinity = refl
