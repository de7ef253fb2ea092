use Rattle.std.proofs.Common.{◌≡◌}
use Rattle.std.proofs.lemmas.List.Edits.{sets}
use Rattle.text.specs.Print.{digits}
use Rattle.text.proofs.write.write_pattern.Given as goal

abbrev pub invariant-loop-i : goal.invariant-loop-i
invariant-loop-i l = sets l.out l.at (digits 16 l.i l.m) ≡ sets l.initial.out l.at (digits 16 16 l.n)
