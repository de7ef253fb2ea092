-- A float between two whole numbers, for the contracts of functions that hold only there. Definitions only.
use Rattle.std.specs.Prelude.{ℕ, ◌*◌, ◌≤◌, ◌≡◌, false, Float}
use Rattle.std.specs.Float.{nan, inf, fin}
use Rattle.std.specs.Float.Ieee.{up, down}

-- x is finite, its sign is plus, and it is at least a and at most b
abbrev pub Within : ℕ → ℕ → Float → Type 0
Within a b nan = ⊥
Within a b (inf s) = ⊥
Within a b (fin s m e) = (s ≡ false) × (a * down e ≤ m * up e) × (m * up e ≤ b * down e)

-- x is finite, its sign is plus, and it is at least a
abbrev pub AtLeast : ℕ → Float → Type 0
AtLeast a nan = ⊥
AtLeast a (inf s) = ⊥
AtLeast a (fin s m e) = (s ≡ false) × (a * down e ≤ m * up e)
