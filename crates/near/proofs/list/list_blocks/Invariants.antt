use Rattle.std.proofs.Common.{ℕ, ◌+◌, ◌*◌, ◌≤◌}
use Rattle.near.specs.Near.{Listed}
use Rattle.near.proofs.list.list_blocks.Given as goal

abbrev pub invariant-loop-k : goal.invariant-loop-k
invariant-loop-k g l = (l.n ≤ l.m + l.k) × ((b : ℕ)
    → Listed l.corners l.range.first l.range.last g.row.SIZE b l.from l.initial.list l.m
    → Listed l.corners l.range.first l.range.last g.row.SIZE b (l.from + g.row.SIZE * l.k) l.list l.n)
