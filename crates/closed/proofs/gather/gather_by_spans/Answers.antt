-- `closed::gather::gather_by_spans` meets its contract: what is left after the last face is none. Assumes nothing.
use Rattle.std.proofs.Common.{arith}
use Rattle.closed.specs.HeldLaws.{gathered_all}
use Rattle.closed.proofs.gather.gather_by_spans.Goals as goal

pub returns : goal.returns
returns c =
    let t = c.take_faces.ensures in
    (omega (arith, t.0), gathered_all (omega arith) t.1)
