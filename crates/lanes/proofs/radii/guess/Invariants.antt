-- `guess` keeps within its runs. Assumes nothing.
use mathlib.Core.Path.{◌≡◌}
use lib.ListN.{length}
use Rattle.lanes.proofs.radii.guess.Given as goal

abbrev pub invariant-loop-i : goal.invariant-loop-i
invariant-loop-i l = (length l.radicands ≡ 28) × (length l.y ≡ 28)
