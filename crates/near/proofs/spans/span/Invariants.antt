use Rattle.std.proofs.Common.{ℕ, ◌+◌, ◌<◌, ◌≤◌}
use Rattle.sort.specs.Order.{All}
use Rattle.near.proofs.spans.span.Given as goal

abbrev pub invariant-loop-k : goal.invariant-loop-k
invariant-loop-k l = (l.least < 1048576) × (l.greatest < 1048576)
    × All (λ (x : ℕ). l.least ≤ x) l.corners.list.now l.from (l.from + l.k-index)
    × All (λ (x : ℕ). x ≤ l.greatest) l.corners.list.now l.from (l.from + l.k-index)
