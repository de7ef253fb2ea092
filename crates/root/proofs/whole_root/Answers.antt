-- `root::whole_root` meets its contract: `Turn` of `Steps.antt` is the loop's invariant. Assumes nothing.
use Rattle.std.proofs.Common.{arith}
use Rattle.root.proofs.Steps.{root_small, next_one, next-zero}
use Rattle.root.proofs.whole_root.Goals as goal
use Rattle.root.proofs.whole_root.Goals.{then-trial-brought, else-trial-brought}

pub loop-i-preserved : goal.loop-i-preserved
loop-i-preserved c =
    let t = c.loop-i.invariant in
    let m = c.loop-i-test.true in
    elim c.if-trial-brought.branch [
      | then-trial-brought w ↦ rw (w.root-is, w.rest-is) (next_one t m w.if-trial-brought.true)
      | else-trial-brought w ↦ rw (w.root-is, w.rest-is) (next-zero t m w.if-trial-brought.false)
    ]

pub overflow_mul-brought : goal.overflow_mul-brought
overflow_mul-brought c = omega (arith, root_small c.loop-i.invariant)

pub overflow_add-brought : goal.overflow_add-brought
overflow_add-brought c = omega (arith, root_small c.loop-i.invariant)

pub overflow_mul-trial : goal.overflow_mul-trial
overflow_mul-trial c = omega (arith, root_small c.loop-i.invariant)

pub overflow_add-trial : goal.overflow_add-trial
overflow_add-trial c = omega (arith, root_small c.loop-i.invariant)
