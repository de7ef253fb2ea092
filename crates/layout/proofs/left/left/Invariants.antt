use Rattle.std.proofs.Common.{◌≡◌, ◌*◌, ◌≤◌}
use Rattle.layout.specs.Layout.{width}
use Rattle.layout.specs.Left.{left_of}
use Rattle.layout.proofs.left.left.Given as goal

abbrev pub invariant-loop-i : goal.invariant-loop-i
invariant-loop-i l = (l.sum ≡ left_of width l.words l.faces l.i) × (l.sum ≤ l.i * 33554432)
