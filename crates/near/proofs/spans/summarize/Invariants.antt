use Rattle.std.proofs.Common.{min, ◌*◌, length}
use Rattle.near.specs.Near.{Spanned}
use Rattle.near.proofs.spans.summarize.Given as goal

abbrev pub invariant-loop-k : goal.invariant-loop-k
invariant-loop-k l = Spanned l.corners.list.now l.spans (min (length l.corners.list.now) (3072 * l.k))
