use Rattle.carry.proofs.Carried.{Rowed}
use Rattle.carry.proofs.carry.write_rows.Given as goal

abbrev pub invariant-loop-i : goal.invariant-loop-i
invariant-loop-i l = Rowed l.initial.words l.old_words l.i l.words
