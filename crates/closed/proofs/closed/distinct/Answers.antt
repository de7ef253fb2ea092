-- `closed::closed::distinct` meets its contract: `all` tells of the faces passed by. Assumes nothing.
use Rattle.std.proofs.Common.{◌≡◌, ◌+◌, ◌*◌, arith}
use Rattle.closed.specs.ClosedLaws.{distinct_step, distinct_end}
use Rattle.closed.proofs.closed.distinct.Goals as goal

pub loop-face-preserved : goal.loop-face-preserved
loop-face-preserved c =
    let l = c.loop-face in
    let e : 3 * (l.face + 1) ≡ 3 * l.face + 3 = omega arith in
    rw e (distinct_step _ (3 * l.face) l.all (omega arith) l.invariant)

pub returns : goal.returns
returns c = distinct_end _ (3 * c.loop-face.face) c.loop-face.all (omega arith) c.loop-face.invariant
