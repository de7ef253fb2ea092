use Prim.Native.Nat.{◌+◌, ◌*◌, ◌/◌, ◌-◌, ◌≤◌}
use Rattle.near.specs.Near.{behind, Listed}
use Rattle.closed.specs.Held.{Gathered}
use Rattle.closed.specs.HeldLaws.{counted}
use Rattle.closed.proofs.gather.take_faces.Given as goal

abbrev pub invariant-loop-k : goal.invariant-loop-k
invariant-loop-k l = (l.n + 3 * (l.near - l.k) ≤ 61440)
    × Listed l.faces.corners.list.now (l.low / 1048576) (l.room.end / 1048576) 1 l.from (l.from + l.count) l.list l.near
    × Gathered l.faces.corners.list.now l.low (counted l.room l.n) l.words (3 * behind 1 l.from l.list l.k)
