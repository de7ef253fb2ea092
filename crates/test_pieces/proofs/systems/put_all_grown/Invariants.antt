-- `test_pieces::systems::put_all_grown`: the count grows by two n + 2 a turn, and stays small. Assumes nothing.
use Rattle.std.proofs.Common.{◌≤◌, ◌*◌}
use Rattle.test_pieces.proofs.systems.put_all_grown.Given as goal

abbrev pub invariant-loop-n : goal.invariant-loop-n
invariant-loop-n g l = l.count ≤ 36 * l.n
