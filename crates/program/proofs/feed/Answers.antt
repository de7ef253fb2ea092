-- `program::feed` meets its contract. Assumes nothing.
use mathlib.Core.Path.{refl}
use native.Mathlib.Omega.{arith}
use borrow.Author.Tests.{eq-eqb, ne_eqb}
use Rattle.program.specs.Bytes.{feed_byte}
use Rattle.program.proofs.feed.Goals as goal

pub returns-then-b-eq10 : goal.returns-then-b-eq10
unfolding feed_byte
returns-then-b-eq10 c =
    rw (eq-eqb _ _ c.if-b-eq10.true) c.end_line.ensures

pub returns : goal.returns
unfolding feed_byte
returns c =
    let e = c.keep.ensures in
    rw (ne_eqb _ _ c.if-b-eq10.false, e.opening_value.0, e.opening_value.1, e.line_after.0, e.line_after.1)
    (record {
      small = (c.requires, omega arith);
      feeds = (refl, record { next = refl; run = refl });
    })
