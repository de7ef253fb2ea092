-- 01, "Roots and powers": exp, E(y), two to the power y. Definitions only.
use Rattle.std.specs.Prelude.{ℕ, ◌+◌, ◌-◌, ◌*◌, ◌/◌, true, false, cond, ℤ, pos, neg_ℤ, Float}
use Rattle.std.specs.Float.{nan, inf, fin, binary64}
use Rattle.std.specs.Float.Ieee.{up, round, of_int, lt, le, is_nan, neg, down as denominator}
use Rattle.base.specs.Loops.{down}
use Rattle.base.specs.Floats.{◌⊕◌, ◌⊖◌, ◌⊗◌, ◌⊘◌, bits, whole}
use Rattle.base.specs.Constants.{half, one, ln2, exp_top, exp_bottom}

-- the magnitude of a finite value cut to a whole number, and the same rounded up
unfoldable pub cut : Float → ℕ
cut nan = 0
cut (inf s) = 0
cut (fin s m e) = m * up e / denominator e

unfoldable pub raised : Float → ℕ
raised nan = 0
raised (inf s) = 0
raised (fin s m e) = (m * up e + (denominator e - 1)) / denominator e

-- "greatest whole number ≤" a finite value
abbrev pub floor : Float → ℤ
floor nan = pos 0
floor (inf s) = pos 0
floor (fin false m e) = pos (cut (fin false m e))
floor (fin true m e) = neg_ℤ (pos (raised (fin true m e)))

-- "a·2^n, rounded once"
unfoldable pub scale : Float → ℤ → Float
scale nan n = nan
scale (inf s) n = inf s
scale (fin s m e) n = round binary64 s (m * up e * up n) (denominator e * denominator n)

-- "a = 1 + (z·a)/k", at k + 1
abbrev pub exp_term : Float → ℕ → Float → Float
exp_term z k a = one ⊕ z ⊗ a ⊘ whole (k + 1)

-- "a = 1; for k = 13 down to 1" the step above
unfoldable pub exp_sum : Float → Float
exp_sum z = down (exp_term z) 13 one

-- "z = (y - n)·0.6931471805599453" and "E = a·2^n"
unfoldable pub exp_at : Float → ℤ → Float
exp_at y n = scale (exp_sum ((y ⊖ of_int binary64 n) ⊗ ln2)) n

-- "NaN gives NaN; y ≥ 1024 +inf; y < -1080 zero. Else n = greatest whole number ≤ the float y + 0.5"
unfoldable pub exp : Float → Float
exp y = cond (is_nan y) nan (cond (le exp_top y) (inf false)
    (cond (lt y (neg exp_bottom)) (bits 0) (exp_at y (floor (y ⊕ half)))))
