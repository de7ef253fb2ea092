-- What a step computes of one point and of the first n, for the functions' contracts. Definitions only.
use Rattle.std.specs.Prelude.{ℕ, ◌≡◌, true, false, cond, List, get_or, Float}
use Rattle.std.specs.Float.{nan, binary64}
use Rattle.std.specs.Float.Ieee.{lt, le}
use Rattle.base.specs.Floats.{◌⊕◌, ◌⊖◌, ◌⊗◌, ◌⊘◌}
use Rattle.base.specs.Constants.{one, half_pi, tenth}
use Rattle.base.specs.Loops.{down}
use Rattle.base.specs.Ranges.{Within}
use Rattle.root.specs.Root.{square_root}
use Rattle.powers.specs.Arc.{arc_term, arc_sum, arc_core}
use Rattle.arcs.specs.Lists.{First}

-- t is at least 0.1, so the quotient is taken, and t is its own absolute value
abbrev pub Large : Float → Type 0
Large t = le tenth t ≡ true

-- t is not above 1, so it is not inverted
abbrev pub Low : Float → Type 0
Low t = lt one t ≡ false

-- of s = |t|: "v = 1/s if s > 1, else s"
unfoldable pub inverted : Float → Float
inverted s = cond (lt one s) (one ⊘ s) s

-- of "v/(1 + root(1 + v·v))": what the root is taken of
abbrev pub radicand : Float → Float
radicand v = one ⊕ v ⊗ v

-- k steps of the series at q are left: those of k - 1 down to 0 make its sum of a
abbrev pub StepsLeft : ℕ → Float → Float → Type 0
StepsLeft k q a = down (arc_term q) k a ≡ arc_sum q

-- "if s > 1, r = H - r"
unfoldable pub turned : Float → Float → Float
turned s r = cond (lt one s) (half_pi ⊖ r) r

-- (t - A(t)) / t³, v being what two halvings leave of `inverted t`
unfoldable pub quotient : Float → Float → Float
quotient t v = (t ⊖ turned t (arc_core v)) ⊘ (t ⊗ t ⊗ t)

-- ---- of the first n points
abbrev pub AllLarge : ℕ → List Float → Type 0
AllLarge n ts = First n (λ i t. Large t) ts

abbrev pub AllLow : ℕ → List Float → Type 0
AllLow n ts = First n (λ i t. Low t) ts

-- tangents of angles up to 45 degrees, and what the roots are taken of
abbrev pub Tangents : ℕ → List Float → Type 0
Tangents n vs = First n (λ i v. Within 0 1 v) vs

abbrev pub Radicands : ℕ → List Float → Type 0
Radicands n fs = First n (λ i f. Within 1 2 f) fs

-- ws are the vs halved, fs being the radicands
abbrev pub Halves : ℕ → List Float → List Float → List Float → Type 0
Halves n vs fs ws = First n (λ i w. w ≡ get_or vs i nan ⊘ (one ⊕ square_root binary64 (get_or fs i nan))) ws

-- of each series k steps are left
abbrev pub AllStepsLeft : ℕ → ℕ → List Float → List Float → Type 0
AllStepsLeft k n vs gs = First n (λ i a. StepsLeft k (get_or vs i nan ⊗ get_or vs i nan) a) gs

abbrev pub Quotients : ℕ → List Float → List Float → List Float → Type 0
Quotients n ts vs gs = First n (λ i g. g ≡ quotient (get_or ts i nan) (get_or vs i nan)) gs
