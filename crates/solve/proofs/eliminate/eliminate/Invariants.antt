use Prim.Native.Nat.{◌≤◌, ◌<◌}
use mathlib.Core.Bool.{false}
use mathlib.Core.Path.{◌≡◌}
use lib.Ieee.{le}
use Rattle.std.proofs.Common.{None}
use Rattle.base.specs.Constants.{flat_limit}
use Rattle.base.specs.LoopLaws.{Left}
use Rattle.solve.specs.Elimination.{pivot_of, candidate, column_at, reduced, eliminated}
use Rattle.solve.proofs.eliminate.eliminate.Given as goal

abbrev pub invariant-columns : goal.invariant-columns
invariant-columns l = record {
  left : Left (column_at l.n) l.n l.col (reduced l.smallest l.m) (eliminated l.n l.initial.m);
  none_flat : l.flat ≡ None;
}

-- past the last candidate the best is the pivot, and not flat
abbrev pub invariant-loop-row : goal.invariant-loop-row
invariant-loop-row l = record {
  left : l.row ≤ l.n → Left (candidate l.m l.col) l.n l.row l.best (pivot_of l.n l.col l.m);
  whole : l.n < l.row → l.best ≡ pivot_of l.n l.col l.m;
  accepted : l.n < l.row → le l.best.value flat_limit ≡ false;
  in_use : l.best.row < l.n;
  none_flat : l.flat ≡ None;
}
