-- `closed::gather::make_room` meets its contract: a full batch is halved. Assumes nothing.
use native.Mathlib.Omega.{arith}
use Rattle.closed.specs.HeldLaws.{gathered_halved}
use Rattle.closed.proofs.gather.make_room.Goals as goal

pub returns : goal.returns
returns c =
    let h = c.halve.ensures in
    let s = c.requires.fact_2 in
    (omega (arith, h.half, s.room), omega (arith, h.less), λ ks i g. gathered_halved g (omega arith) h)
