use mathlib.Core.Path.{◌≡◌}
use lib.ListN.{length}
use Rattle.base.specs.FillLaws.{Filled}
use Rattle.arcs.specs.Lists.{Of}
use Rattle.arcs.specs.Stages.{radicand}
use Rattle.arcs.proofs.guess_second.Given as goal

abbrev pub invariant-loop-i : goal.invariant-loop-i
invariant-loop-i l =
    Filled (length l.initial.radicands) (Of radicand l.v) l.initial.radicands l.i l.radicands
    × (length l.y ≡ length l.initial.y)
