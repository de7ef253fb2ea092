-- `halve_first` meets its contract: a root of the radicands is what a halving takes. Assumes nothing.
use Rattle.arcs.proofs.Joins.{start_within, first_half}
use borrow.Author.Rules.{rules}
use Rattle.arcs.proofs.halve_first.Goals as goal

pub halve_by-requires : goal.halve_by-requires
halve_by-requires c =
    let w = start_within c.args.t.now c.requires.4 c.start.ensures in
    (search rules, search rules, search rules, w.0, w.1)

pub returns : goal.returns
returns c = (
  c.halve_by.ensures.0,
  λ e. first_half c.args.t.now
      c.start.ensures (c.halve_by.ensures.1 e),
)
