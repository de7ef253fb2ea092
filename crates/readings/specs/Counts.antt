-- How many pieces a store has, by its words. Definitions only.
use Rattle.std.specs.Prelude.{List, ℕ, zero, suc, ◌+◌, ◌-◌}
use Rattle.layout.specs.Layout.{status_of}

-- of the places below k
unfoldable pub held_pieces : ℕ → List ℕ → ℕ → ℕ
held_pieces q ws zero = 0
held_pieces q ws (suc k) = held_pieces q ws k + (status_of q ws k - 1)
