use Rattle.std.proofs.Common.{◌≡◌, ◌*◌, ◌≤◌}
use Rattle.bill.specs.Bill.{assumed}
use Rattle.bill.proofs.assumed_pieces.Given as goal

abbrev pub invariant-loop-i : goal.invariant-loop-i
invariant-loop-i l = (l.pieces ≤ 16 * l.i) × (l.pieces ≡ assumed l.kernels l.i)
