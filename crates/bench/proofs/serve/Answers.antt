-- `bench::serve` is safe and ends: an opening keeps its counts, and what is held is what some bytes leave of the
-- store of zeros. Assumes nothing.
use Rattle.std.proofs.Common.{arith, rules}
use Rattle.program.proofs.Reached.{at_start, many_more}
use Rattle.bench.proofs.serve.Goals as goal

pub loop-turn-init : goal.loop-turn-init
loop-turn-init g c = (
  rw c.start-st.ensures.0 (omega arith, omega arith),
  rw (c.start-st.ensures.0, c.start-st.ensures.1) (at_start _ c.requires),
)

pub loop-turn-preserved : goal.loop-turn-preserved
loop-turn-preserved g c = (
  c.in-Some.ensures.0,
  many_more c.read-got.new.buf c.unwrap_or-n.result c.in-Some.ensures.1 c.loop-turn.invariant.1,
)

pub feed_chunk-fed-requires-clause-reached : goal.feed_chunk-fed-requires-clause-reached
feed_chunk-fed-requires-clause-reached g c = c.loop-turn.invariant.1

pub finish-requires : goal.finish-requires
finish-requires g c = record { small = search rules; reached = c.loop-turn.invariant.1 }
