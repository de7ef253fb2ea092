-- `squeeze::marks::mark` meets its contract. The invariant: the corners looked at are marked. Assumes nothing.
use Rattle.std.specs.Prelude.{get_or}
use Rattle.std.proofs.Math.Path.{refl}
use native.Mathlib.Omega.{arith}
use Rattle.squeeze.specs.MarkLaws.{next_marked}
use Rattle.squeeze.proofs.marks.mark.Goals as goal

pub loop-i-preserved : goal.loop-i-preserved
loop-i-preserved c =
    let ks = c.args.corners.now in
    let i = c.loop-i.i in
    next_marked ks c.loop-i.marks i (get_or ks i 0) c.with_digit.result c.loop-i.invariant (omega arith)
    (c.requires.fact_2.corner i (omega arith)) refl c.with_digit.ensures
