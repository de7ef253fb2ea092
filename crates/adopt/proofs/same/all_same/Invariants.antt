use Rattle.std.proofs.Common.{◌≡◌, take}
use Rattle.adopt.specs.Same.{same_by}
use Rattle.adopt.proofs.same.all_same.Given as goal

abbrev pub invariant-loop-i : goal.invariant-loop-i
invariant-loop-i g l = l.all ≡ same_by g.T.Same.same (take l.i l.a) (take l.i l.b)
