-- `part` meets its contract: a turn puts a radius into a place that is not taken. Assumes nothing.
use mathlib.Core.Path.{refl}
use Rattle.lanes.proofs.Parting.{parts}
use borrow.Author.Rules.{rules}
use Rattle.lanes.proofs.mixed.part.Goals as goal

pub loop-i-preserved : goal.loop-i-preserved
loop-i-preserved c =
    let l = c.loop-i in
    parts l.invariant (search rules) refl c.not_sided-flag.result c.by_size-place.ensures
    c.by_size-large.ensures c.not_sided-flag.ensures
