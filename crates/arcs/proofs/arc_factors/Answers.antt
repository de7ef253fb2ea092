-- `arc_factors` meets its contract: the steps together are the quotient with the arc. Assumes nothing.
use Rattle.std.proofs.Math.Bool.{and-eq-true_iff}
use Rattle.arcs.proofs.Joins.{by_arcs}
use Rattle.arcs.proofs.arc_factors.Goals as goal

pub returns : goal.returns
returns c =
    λ e.
    let z = (and-eq-true_iff c.halve_first-first.result c.halve_again-second.result).0 e in
    by_arcs c.args.t.now c.requires.4 (c.halve_first-first.ensures.1 z.0) (c.halve_again-second.ensures z.1)
    c.quotients.ensures
