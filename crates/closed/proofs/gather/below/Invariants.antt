use Rattle.std.proofs.Common.{ℕ, ◌≤◌}
use Rattle.sort.specs.Order.{All}
use Rattle.closed.proofs.gather.below.Given as goal

abbrev pub invariant-loop-i : goal.invariant-loop-i
invariant-loop-i l = All (λ (x : ℕ). l.end ≤ x) l.words l.i l.n
