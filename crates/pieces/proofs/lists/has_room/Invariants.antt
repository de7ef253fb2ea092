use Rattle.std.proofs.Common.{◌≡◌, ◌+◌}
use Rattle.pieces.specs.Lists.{piece_count}
use Rattle.pieces.proofs.lists.has_room.Given as goal

abbrev pub invariant-loop-i : goal.invariant-loop-i
invariant-loop-i l = l.left + piece_count l.kernels l.radius l.i ≡ l.room
