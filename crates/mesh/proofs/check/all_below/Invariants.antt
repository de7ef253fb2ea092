use Rattle.std.proofs.Common.{◌≡◌, take}
use Rattle.mesh.specs.Checks.{all_below}
use Rattle.mesh.proofs.check.all_below.Given as goal

abbrev pub invariant-loop-word : goal.invariant-loop-word
invariant-loop-word l = l.all ≡ all_below l.v (take l.word-index l.words)
