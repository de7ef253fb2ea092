-- `add_both` meets its contract: both pass the strict test, or one is added after the other. Assumes nothing.
use Rattle.std.proofs.Common.{sym, ◌∙◌, rules}
use Rattle.std.proofs.Math.Bool.{and-eq-true_iff}
use Rattle.along.specs.AlongLaws.{lanes_units_at}
use Rattle.along.proofs.along.add_both.Goals as goal

pub returns-then-is_unit : goal.returns-then-is_unit
returns-then-is_unit c =
    let a = c.args in
    let p = a.points.now in
    let both = (and-eq-true_iff c.is_unit.result c.is_unit-2.result).0 c.if-is_unit.true in
    lanes_units_at p.count p.x p.y p.z a.rho.now a.k a.l c.unit_of-u.result c.unit_of-v.result _
    (sym c.is_unit.ensures ∙ both.0, c.unit_of-u.ensures) (sym c.is_unit-2.ensures ∙ both.1, c.unit_of-v.ensures)
    (record { long = c.at_each.ensures.long; at = λ i l. let h = c.at_each.ensures.at i l in search rules })
