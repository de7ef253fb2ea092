use Rattle.std.proofs.Common.{◌*◌, ◌≤◌}
use Rattle.near.specs.Near.{behind, Listed}
use Rattle.near.proofs.list.list_near.Given as goal

abbrev pub invariant-loop-i : goal.invariant-loop-i
invariant-loop-i l = (l.n ≤ 8 * l.i)
    × Listed l.corners l.range.first l.range.last 1 l.from (behind 8 l.from l.blocks l.i) l.list l.n
