use Rattle.std.proofs.Common.{◌≡◌, ◌+◌, false}
use Rattle.near.specs.Near.{NoneWithin}
use Rattle.near.proofs.list.any_within.Given as goal

abbrev pub invariant-loop-k : goal.invariant-loop-k
invariant-loop-k l = l.any ≡ false → NoneWithin l.corners l.range.first l.range.last l.i (l.i + l.k-index)
