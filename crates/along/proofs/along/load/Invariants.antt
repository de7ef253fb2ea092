use Rattle.std.proofs.Common.{◌≡◌, ℕ, ◌+◌, ◌*◌, get_or}
use Rattle.std.specs.Float.{nan}
use Rattle.std.specs.Prelude.{Float}
use Rattle.base.specs.FillLaws.{Filled}
use Rattle.along.proofs.along.load.Given as goal

abbrev pub invariant-loop-i : goal.invariant-loop-i
invariant-loop-i l = Filled 64 (λ (j : ℕ) (v : Float). v ≡ get_or l.track (l.from + 3 * j) nan) l.initial.x l.i l.x
