-- `squeeze::moves::gather` meets its contract. The invariant: the kept vertices stand in front, those not looked at are
-- untouched; between them anything. Assumes nothing.
use Prim.Native.Nat.{◌+◌, ◌*◌, ◌≤◌, ◌<◌}
use native.Mathlib.Omega.{arith}
use lib.ListN.{length}
use Rattle.squeeze.specs.SqueezeLaws.{none_moving, none-moved, one_moving, one-moved, vertex_marked}
use Rattle.squeeze.proofs.moves.gather.Goals as goal

pub loop-i-preserved : goal.loop-i-preserved
loop-i-preserved c =
    let l = c.loop-i in
    let d = c.marked-to.result in
    let hd : d ≤ 1 = omega (arith, c.marked-to.ensures) in
    let h : 3 * l.i + 2 < length c.args.xyz.now = omega arith in (
      one_moving l.invariant.0 h d hd,
      λ ks m. one-moved l.invariant.0 h d hd ks (l.invariant.1 ks m)
          (vertex_marked ks c.args.marks.now l.i d m (omega arith) c.marked-to.ensures),
    )

pub loop-i-init : goal.loop-i-init
loop-i-init c = (none_moving _, λ ks m. none-moved ks _)
