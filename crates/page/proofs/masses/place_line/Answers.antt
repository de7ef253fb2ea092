-- `page::masses::place_line` meets its contract. Assumes nothing.
use mathlib.Core.Path.{sym, subst}
use native.Mathlib.Omega.{arith}
use lib.Dec.{T}
use Rattle.page.proofs.Rows.{fair_mass, one_count, one_total, one_written}
use Rattle.page.proofs.masses.place_line.Goals as goal

pub rounded-v-requires : goal.rounded-v-requires
rounded-v-requires c =
    let m = c.place_mass in
    subst T
    (sym
    (fair_mass _ _ _ c.pieces-count.result c.if-status-eq0.false c.pieces-count.ensures m.result m.ensures
    c.requires.printable)) tt

pub returns : goal.returns
returns c =
    let a = c.args in
    let m = c.place_mass in
    let p = c.pieces-count in
    let filled = c.if-status-eq0.false in
    let n = one_count a.floats.now a.i a.status p.result filled p.ensures m.result m.ensures in
    let t = one_total a.floats.now a.i a.status p.result filled p.ensures m.result m.ensures _ c.rounded-v.ensures.0 in
    let l = one_written a.floats.now a.i a.status p.result filled p.ensures m.result m.ensures _
    c.rounded-v.ensures.0 c.write_line-at.ensures.1 in record {
      at_value = (omega (arith, n, c.add.ensures.0, c.write_line-at.ensures.0), rw c.add.ensures.0 l);
      less_value = (rw t c.add.ensures.1, c.add.ensures.2, c.add.ensures.3);
    }
