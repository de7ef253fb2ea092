-- `edges::numbers::put_face` meets its contract: three puts. Assumes nothing.
use Rattle.std.proofs.Common.{arith}
use Rattle.edges.specs.NumberLaws.{faced}
use Rattle.edges.proofs.numbers.put_face.Goals as goal

pub returns : goal.returns
returns c =
    faced (omega arith) c.code.ensures c.code-2.ensures
    c.code-3.ensures c.put-a.ensures c.put-b.ensures
    c.put.ensures
