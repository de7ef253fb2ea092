-- `closed::gather::halve` meets its contract: words put in order, then those below the middle one's k kept. Assumes
-- nothing.
use borrow.Author.Rules.{rules}
use Rattle.closed.specs.HeldLaws.{halved}
use Rattle.closed.proofs.gather.halve.Goals as goal

pub returns : goal.returns
returns c =
    halved c.requires.fact_2 (search rules) c.order.ensures
    c.below-count.ensures
