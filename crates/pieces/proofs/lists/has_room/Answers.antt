-- `has_room` meets its contract where a kernel has more pieces than the room that is left. Assumes nothing.
use Rattle.pieces.proofs.ListLaws.{no_room}
use Rattle.pieces.proofs.lists.has_room.Goals as goal

pub returns-then-left-p : goal.returns-then-left-p
returns-then-left-p c =
    no_room _ _ c.loop-i.i _ c.loop-i.invariant c.loop-i-test.true c.kernel_at.ensures c.decompose.ensures.0
    c.if-left-p.true
