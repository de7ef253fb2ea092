-- `eliminate` meets its contract: with no column done, what is left is the whole elimination. Assumes nothing.
use mathlib.Core.Path.{refl}
use Rattle.base.specs.LoopLaws.{from_zero}
use lib.Ieee.{of_bits}
use Rattle.solve.specs.Elimination.{eliminated}
use Rattle.solve.proofs.eliminate.eliminate.Goals as goal

pub columns-init : goal.columns-init
unfolding eliminated of_bits
columns-init c = record { left = from_zero refl; none_flat = refl }
