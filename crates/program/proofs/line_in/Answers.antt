-- `program::line_in` meets its contract. Assumes nothing.
use mathlib.Core.Path.{sym}
use native.Mathlib.Omega.{arith}
use lib.Seq.{length-take-le}
use borrow.Author.Tests.{le-leb, lt-leb}
use Rattle.program.specs.Bytes.{line_in}
use Rattle.program.proofs.line_in.Goals as goal

pub returns-then-count-gt256 : goal.returns-then-count-gt256
unfolding line_in
returns-then-count-gt256 c = rw (lt-leb _ _ c.if-count-gt256.true)

pub slice_bounds-parse_line-end : goal.slice_bounds-parse_line-end
slice_bounds-parse_line-end c =
    let a = c.args in
    sym (length-take-le a.count a.line.now (omega (arith, c.if-count-gt256.false)))

pub returns : goal.returns
unfolding line_in
returns c = rw (le-leb _ _ c.if-count-gt256.false) c.parse_line.ensures
