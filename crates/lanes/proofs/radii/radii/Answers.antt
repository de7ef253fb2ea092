-- `radii` meets its contract: a loop that sets each element. Assumes nothing.
use mathlib.Core.Path.{ap}
use lib.Ieee.{Float}
use Rattle.base.specs.Floats.{◌⊗◌}
use Rattle.arcs.specs.ListLaws.{fills_if, fills_or, clear_or, clear_zero, all_if}
use borrow.Author.Rules.{rules}
use borrow.Author.Tests.{eqb-true}
use Rattle.lanes.proofs.Joins.{whole}
use Rattle.lanes.proofs.radii.radii.Goals as goal

pub loop-i-preserved : goal.loop-i-preserved
loop-i-preserved c =
    let l = c.loop-i in
    let a = c.any_lane-p in
    let g = c.not_large-small in
    let p = c.args in
    let d = clear_or 62 l.coarse a.result.coarse l.far a.result.far in (
      fills_if l.invariant.0 (search rules) (λ e. (d e).0)
          (λ e. ap (λ (y : Float). p.sigma ⊗ y) (a.ensures (d e).1.0 (d e).1.1)),
      fills_or l.small g.result l.invariant.1 (search rules) g.ensures,
      fills_or l.high c.not_low-high.result l.invariant.2 (search rules) c.not_low-high.ensures,
    )

pub returns : goal.returns
returns c =
    let l = c.loop-i in (
      λ e. whole (all_if l.invariant.0 (search rules) (clear_zero 62 l.coarse l.far (eqb-true _ _ e))),
      λ e. whole (all_if l.invariant.1 (search rules) (eqb-true _ _ e)),
      λ e. whole (all_if l.invariant.2 (search rules) (eqb-true _ _ e)),
    )
