use Rattle.std.proofs.Common.{take}
use Rattle.squeeze.specs.Marks.{Marked}
use Rattle.squeeze.proofs.marks.mark.Given as goal

abbrev pub invariant-loop-i : goal.invariant-loop-i
invariant-loop-i l = Marked (take l.i l.corners) l.marks
