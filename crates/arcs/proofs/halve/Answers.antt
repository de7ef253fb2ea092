-- `halve` meets its contract: a loop that sets each element from what stood there. Assumes nothing.
use mathlib.Core.Path.{subst⁻¹}
use native.Mathlib.Nat.{le_refl}
use lib.ListN.{get_or}
use lib.Ieee.{nan}
use Rattle.base.specs.FillLaws.{fills}
use Rattle.base.specs.Ranges.{Within}
use Rattle.arcs.proofs.Points.{halved_of}
use Rattle.arcs.specs.ListLaws.{fills_if, clear_or, clear_zero, all_filled, all_if}
use borrow.Author.Rules.{rules}
use borrow.Author.Tests.{eqb-true}
use Rattle.arcs.proofs.halve.Goals as goal

pub loop-i-preserved : goal.loop-i-preserved
loop-i-preserved c =
    let l = c.loop-i in
    let u = c.unit_lane-p in
    let p = c.requires in
    let k = l.invariant.0.kept l.i (le_refl l.i) in
    let d = clear_or 54 l.coarse u.result.coarse l.far u.result.far in (
      fills l.invariant.0 (search rules)
          (halved_of (get_or l.v l.i nan) u.result.root
          (subst⁻¹ (Within 0 1) k (p.4.at l.i (search rules)))
          u.ensures.0),
      fills_if l.invariant.1 (search rules) (λ e. (d e).0) (λ e. rw (← k, ← u.ensures.1 (d e).1.0 (d e).1.1)),
    )

pub returns : goal.returns
returns c =
    let l = c.loop-i in (
      all_filled l.invariant.0 (search rules),
      λ e. all_if l.invariant.1 (search rules) (clear_zero 54 l.coarse l.far (eqb-true _ _ e)),
    )
