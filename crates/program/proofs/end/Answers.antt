-- `program::end` meets its contract. Assumes nothing.
use mathlib.Core.Path.{refl}
use native.Mathlib.Omega.{arith}
use borrow.Author.Tests.{eq-eqb, ne_eqb}
use Rattle.program.specs.Bytes.{feed_end}
use Rattle.program.proofs.end.Goals as goal

pub returns-then-st-eq0 : goal.returns-then-st-eq0
unfolding feed_end
returns-then-st-eq0 c =
    let z = c.if-st-eq0.true in
    let p = c.requires in
    rw (eq-eqb _ _ z) (record {
      small = (p, omega arith);
      feeds = (refl, record { next = refl; run = refl });
    })

pub returns : goal.returns
unfolding feed_end
returns c =
    rw (ne_eqb _ _ c.if-st-eq0.false) c.end_line.ensures
