-- `ended` meets its contract: no step of the series is left. Assumes nothing.
use mathlib.Core.Path.{ap}
use lib.Ieee.{Float}
use Rattle.base.specs.Floats.{◌⊗◌}
use Rattle.base.specs.Constants.{four}
use Rattle.powers.specs.Arc.{arc_core}
use Rattle.arcs.proofs.Parts.{none_left}
use Rattle.arcs.proofs.sums.ended.Goals as goal

pub returns : goal.returns
unfolding arc_core
returns c =
    let v = c.args.v in
    ap (λ (a : Float). four ⊗ (v ⊗ a)) (none_left (v ⊗ v) c.steps.result c.steps.ensures)
