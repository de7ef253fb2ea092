-- `halve_again` meets its contract: a root of the radicands is what a halving takes. Assumes nothing.
use Rattle.arcs.proofs.Joins.{halves_are, radicands_of}
use borrow.Author.Rules.{rules}
use Rattle.arcs.proofs.halve_again.Goals as goal

pub returns : goal.returns
returns c =
    λ e. halves_are c.args.v.now c.guess_second.ensures
    (c.halve_by.ensures.1 e)

pub halve_by-requires : goal.halve_by-requires
halve_by-requires c =
    let t = c.requires.3 in
    (search rules, search rules, search rules, radicands_of c.args.v.now t c.guess_second.ensures, t)
