-- `advance::work::spend` meets its contract. Assumes nothing.
use mathlib.Core.Path.{ap}
use Rattle.layout.specs.Layout.{width}
use Rattle.advance.specs.Steps.{place_work, stored}
use Rattle.advance.proofs.work.spend.Goals as goal

pub returns : goal.returns
unfolding place_work
returns c =
    ap (stored width c.args.words.now c.args.i)
    (rw (c.pieces-count.ensures, c.word.ensures, c.word-2.ensures) at c.run_place-r.ensures.fact_1)
