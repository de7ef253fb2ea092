use Rattle.readings.specs.SeenLaws.{Looked}
use Rattle.readings.proofs.seen.places.Given as goal

abbrev pub invariant-loop-i : goal.invariant-loop-i
invariant-loop-i l = Looked l.layers l.only l.words l.i l.seen
