use Rattle.base.specs.LoopLaws.{Left}
use Rattle.session.specs.Session.{Small, session}
use Rattle.program.specs.Bytes.{held_with, feed_at, held_after}
use Rattle.bench.proofs.feed_chunk.Given as goal

abbrev pub invariant-loop-i : goal.invariant-loop-i
invariant-loop-i g l = Small l.state.opening
    × Left (feed_at l.chunk) l.n l.i (held_with (session l.state.opening l.floats l.words l.coords l.corners) l.line l.state.count)
    (held_after l.chunk l.n (held_with (session l.initial.state.opening l.initial.floats l.initial.words l.initial.coords l.initial.corners) l.initial.line l.initial.state.count))
