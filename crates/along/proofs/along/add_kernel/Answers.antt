-- `add_kernel` meets its contract, either way. Assumes nothing.
use Rattle.std.proofs.Common.{sym, ◌∙◌, rules}
use Rattle.along.specs.AlongLaws.{lanes_unit_at}
use Rattle.along.proofs.along.add_kernel.Goals as goal

pub returns-then-is_unit : goal.returns-then-is_unit
returns-then-is_unit c =
    let a = c.args in
    lanes_unit_at a.points.now.count a.points.now.x a.points.now.y a.points.now.z a.rho.now a.k c.unit_of-u.result _
    (sym c.is_unit.ensures ∙ c.if-is_unit.true, c.unit_of-u.ensures)
    (record { long = c.at_each.ensures.long; at = λ i l. let h = c.at_each.ensures.at i l in search rules })

pub returns-else-is_unit : goal.returns-else-is_unit
returns-else-is_unit c =
    let e = c.at_each-else-is_unit.ensures in
    record { long = e.long; at = λ i l. let h = e.at i l in search rules }
