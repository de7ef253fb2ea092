use Rattle.squeeze.specs.Squeeze.{rank}
use Rattle.squeeze.specs.SqueezeLaws.{Mapped}
use Rattle.squeeze.proofs.moves.renumber.Given as goal

abbrev pub invariant-loop-k : goal.invariant-loop-k
invariant-loop-k l = Mapped (rank l.initial.corners) 0 l.initial.corners l.k-index l.corners
