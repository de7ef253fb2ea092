-- `adopt::same::all_same` meets its contract: `all` says it of those that were read. Assumes nothing.
use Rattle.std.proofs.Common.{sym, arith}
use Rattle.adopt.specs.SameLaws.{same_more}
use Rattle.adopt.proofs.same.all_same.Goals as goal

pub loop-i-preserved : goal.loop-i-preserved
loop-i-preserved g c =
    rw (c.same-all.ensures, c.loop-i.invariant)
    (sym
    (same_more g.T.Same.same _ _ c.index-a-i.result c.index-b-i.result c.loop-i.i c.requires (omega arith)
    c.index-a-i.is c.index-b-i.is))
