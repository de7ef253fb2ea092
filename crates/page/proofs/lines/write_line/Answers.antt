-- `page::lines::write_line` meets its contract. Assumes nothing.
use native.Mathlib.Omega.{arith}
use Rattle.text.specs.WriteLaws.{then}
use Rattle.page.specs.Page.{place_line}
use Rattle.page.proofs.lines.write_line.Goals as goal

pub returns : goal.returns
unfolding place_line
returns c = (
  omega (
    arith,
    c.write_right-a.ensures.0,
    c.write_bytes-b.ensures.next,
    c.write_right-c.ensures.0,
    c.write_ending.ensures.0,
  ),
  then c.write_right-a.ensures.1
      (then c.write_bytes-b.ensures (then c.write_right-c.ensures.1 c.write_ending.ensures.1)),
)
