use mathlib.Core.Path.{◌≡◌}
use lib.ListN.{length}
use lib.Ieee.{Float}
use Rattle.base.specs.FillLaws.{Filled}
use Rattle.arcs.specs.Lists.{Of}
use Rattle.arcs.specs.Stages.{inverted, radicand}
use Rattle.arcs.proofs.start_of.Given as goal

abbrev pub invariant-loop-i : goal.invariant-loop-i
invariant-loop-i g l = Filled (length l.initial.v) (Of inverted l.t) l.initial.v l.i l.v
    × Filled (length l.initial.radicands) (Of (λ (s : Float). radicand (inverted s)) l.t) l.initial.radicands l.i
    l.radicands
    × (length l.y ≡ length l.initial.y)
