use Rattle.std.proofs.Common.{List, ℕ}
use Rattle.squeeze.specs.Marks.{Marked}
use Rattle.squeeze.specs.SqueezeLaws.{Moving, Moved}
use Rattle.squeeze.proofs.moves.gather.Given as goal

abbrev pub invariant-loop-i : goal.invariant-loop-i
invariant-loop-i l =
    Moving l.initial.xyz l.i l.to l.xyz × ((ks : List ℕ) → Marked ks l.marks → Moved ks l.initial.xyz l.i l.to l.xyz)
