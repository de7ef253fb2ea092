-- `squeeze::moves::squeeze_mesh` meets its contract. Assumes nothing.
use mathlib.Core.Path.{refl, ◌∙◌}
use Rattle.squeeze.specs.MarkLaws.{none_marked}
use Rattle.squeeze.specs.SqueezeLaws.{zeroed}
use Rattle.squeeze.proofs.moves.squeeze_mesh.Goals as goal

pub returns : goal.returns
returns c =
    let g = c.gather-kept in
    let q = g.ensures.1 c.args.corners.now
    c.mark.ensures in (
      q.0,
      c.fill.ensures
          ∙ zeroed c.args.corners.now c.args.xyz.now g.new.xyz c.args.verts g.result q.0
          g.ensures.0 (g.auto.xyz ∙ c.requires.coords) q.1,
      c.renumber.ensures,
    )

pub mark-requires-clause-fact_1 : goal.mark-requires-clause-fact_1
mark-requires-clause-fact_1 c = none_marked 32768 refl
