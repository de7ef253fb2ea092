-- `volume::block::FacePoints::set_faces` meets its contract: after j turns the points of j faces stand. Assumes nothing.
use borrow.Author.Rules.{rules}
use mathlib.Core.Path.{◌≡◌}
use native.Mathlib.Omega.{arith}
use Rattle.volume.proofs.Blocks.{no_points, more_points}
use Rattle.volume.proofs.block.FacePoints.set_faces.Goals as goal

pub loop-j-preserved : goal.loop-j-preserved
loop-j-preserved c =
    let t = c.triangle_at.ensures in
    let i = c.loop-j.invariant in (
      search rules,
      more_points i.1 (search rules) (rw t at c.set_face.ensures.0),
      more_points i.2 (search rules) (rw t at c.set_face.ensures.1),
    )

pub returns : goal.returns
returns c =
    let l = c.loop-j in
    let h : l.j ≡ 4 = omega arith in
    (rw h at l.invariant.1, rw h at l.invariant.2)

pub loop-j-init : goal.loop-j-init
loop-j-init c = (search rules, no_points (search rules), no_points (search rules))
