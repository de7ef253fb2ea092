-- 01, "Roots and powers": arc, A(t). Definitions only.
use Rattle.std.specs.Prelude.{ℕ, ◌+◌, ◌*◌, cond, Float}
use Rattle.std.specs.Float.{binary64}
use Rattle.std.specs.Float.Ieee.{lt}
use Rattle.base.specs.Loops.{down}
use Rattle.base.specs.Floats.{◌⊕◌, ◌⊖◌, ◌⊗◌, ◌⊘◌, whole, abs, signed}
use Rattle.base.specs.Constants.{one, four, half_pi, twenty_three}
use Rattle.root.specs.Root.{square_root}

-- "v becomes v/(1 + root(1 + v·v))"
unfoldable pub halved : Float → Float
halved v = v ⊘ (one ⊕ square_root binary64 (one ⊕ v ⊗ v))

-- "a = 1/(2k+1) - q·a"
abbrev pub arc_term : Float → ℕ → Float → Float
arc_term q k a = one ⊘ whole (2 * k + 1) ⊖ q ⊗ a

-- "a = 1/23; for k = 10 down to 0" the step above
unfoldable pub arc_sum : Float → Float
arc_sum q = down (arc_term q) 11 (one ⊘ twenty_three)

-- "q = v·v" and "r = 4·(v·a)"
unfoldable pub arc_core : Float → Float
arc_core v = four ⊗ (v ⊗ arc_sum (v ⊗ v))

-- of s = |t|: "v = 1/s if s > 1, else s. Then, two times over, ..", "if s > 1, r = H - r"
unfoldable pub arc_abs : Float → Float
arc_abs s = cond (lt one s) (half_pi ⊖ arc_core (halved (halved (one ⊘ s)))) (arc_core (halved (halved s)))

-- "Sign of t"
unfoldable pub arc : Float → Float
arc t = signed t (arc_abs (abs t))
