-- `bench::feed_chunk` meets its contract: each turn feeds the next byte. Assumes nothing.
use Rattle.std.proofs.Common.{refl, rules}
use Rattle.base.specs.LoopLaws.{from_zero, goes, ended}
use Rattle.bench.proofs.feed_chunk.Goals as goal

pub loop-i-preserved : goal.loop-i-preserved
loop-i-preserved g c = (
  search rules,
  goes c.loop-i.invariant.1 c.loop-i-test.true c.feed-state.ensures.feeds.0,
)

pub returns : goal.returns
returns g c = (search rules, ended c.loop-i.invariant.1 c.loop-i-test.false)

pub loop-i-init : goal.loop-i-init
loop-i-init g c = (search rules, from_zero refl)
