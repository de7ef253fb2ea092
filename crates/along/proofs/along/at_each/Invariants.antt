use Rattle.std.proofs.Common.{ℕ, get_or}
use Rattle.std.specs.Float.{nan}
use Rattle.std.specs.Prelude.{Float}
use Rattle.base.specs.FillLaws.{Filled}
use Rattle.along.proofs.along.at_each.Given as goal

abbrev pub invariant-loop-i : goal.invariant-loop-i
invariant-loop-i g l = Filled 64
    (λ (j : ℕ) (r : Float). goal.F-post g l.add (get_or l.initial.rho j nan) (get_or l.points.x j nan)
    (get_or l.points.y j nan) (get_or l.points.z j nan) r) l.initial.rho l.i l.rho
