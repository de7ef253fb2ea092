use Rattle.std.proofs.Common.{◌≡◌, ◌*◌, ◌≤◌, length}
use Rattle.squeeze.specs.Marks.{ones_to, Ranked}
use Rattle.squeeze.proofs.marks.sum.Given as goal

abbrev pub invariant-loop-j : goal.invariant-loop-j
invariant-loop-j l =
    (length l.ranks ≡ length l.initial.ranks) × (l.total ≡ ones_to l.marks l.j) × (l.total ≤ 32 * l.j) × Ranked l.marks l.ranks l.j
