-- `near::list::list_near` meets its contract: what lies between two near blocks is not near. Assumes nothing.
use Rattle.std.proofs.Common.{arith}
use Rattle.near.specs.NearLaws.{within_none, behind-none, behind-one, listed-none, listed-on, listed_next, listed-past}
use Rattle.near.proofs.list.list_near.Goals as goal

pub loop-i-init : goal.loop-i-init
loop-i-init c = (omega arith, rw (behind-none 8 _ _) listed-none)

pub list_blocks-n-requires : goal.list_blocks-n-requires
list_blocks-n-requires c =
    let l = c.loop-i in
    let b = c.list_blocks-count.ensures in
    let e = b.1 c.args.from listed-none in
    (omega arith, omega (arith, b.0), omega arith, omega (arith, e.short l.i (omega arith)), omega arith)

pub loop-i-preserved : goal.loop-i-preserved
loop-i-preserved c =
    let l = c.loop-i in
    let b = c.list_blocks-count.ensures.1 c.args.from listed-none in
    let f = c.list_blocks-n.ensures in (
      omega (arith, f.0),
      rw (behind-one 8 _ _ _) (f.1 _ (listed_next l.i b l.invariant.1 (omega arith))),
    )

pub returns : goal.returns
returns c =
    let l = c.loop-i in
    let b = c.list_blocks-count.ensures in
    let e = b.1 c.args.from listed-none in
    let f = c.list_blocks.ensures in (
      omega (arith, f.0, b.0),
      listed-on
          (f.1 _
          (listed-on (listed-past l.i e l.invariant.1 (omega arith)) (omega arith) (within_none (omega arith))))
          (omega arith) (within_none (omega arith)),
    )
