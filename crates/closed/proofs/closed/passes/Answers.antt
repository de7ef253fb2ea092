-- `closed::closed::passes` meets its contract: no corner twice in a face, then what the sweep finds. Assumes nothing.
use mathlib.Core.Path.{sym, ◌∙◌}
use borrow.Author.Rules.{rules}
use Rattle.closed.specs.ClosedLaws.{passes-not, swept}
use Rattle.closed.proofs.closed.passes.Goals as goal

pub returns : goal.returns
returns c =
    let d = sym c.distinct.ensures ∙ c.if-not-distinct.false in
    swept d (search rules) c.requires.1 c.sweep.result c.sweep.ensures

pub returns-then-not-distinct : goal.returns-then-not-distinct
returns-then-not-distinct c = passes-not _ (sym c.distinct.ensures ∙ c.if-not-distinct.true)
