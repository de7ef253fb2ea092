use Rattle.base.specs.LoopLaws.{Left}
use Rattle.pieces.specs.Kernels.{lay_at, laid}
use Rattle.pieces.proofs.kernels.lay_pieces.Given as goal

abbrev pub invariant-loop-i : goal.invariant-loop-i
invariant-loop-i l = Left (lay_at l.at l.k l.p) l.p.count l.i l.out (laid l.at l.k l.p l.initial.out)
