use Rattle.convert.specs.Loaders.{loaded}
use Rattle.convert.proofs.Writes.{Laid}
use Rattle.convert.proofs.convert.write_lines.Given as goal

abbrev pub invariant-loop-i : goal.invariant-loop-i
invariant-loop-i l = Laid l.s l.n (loaded l.loader l.default) l.initial.out l.i l.at l.out
