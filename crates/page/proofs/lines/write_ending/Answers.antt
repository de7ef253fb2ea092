-- `page::lines::write_ending` meets its contract. Assumes nothing.
use native.Mathlib.Omega.{arith}
use Rattle.text.specs.WriteLaws.{then}
use Rattle.page.specs.Page.{ending}
use Rattle.page.proofs.lines.write_ending.Goals as goal

pub returns : goal.returns
unfolding ending
returns c = (
  omega (arith, c.write_spaces-a.ensures.0, c.write_whole-b.ensures.0, c.write_bytes.ensures.next),
  then c.write_spaces-a.ensures.1 (then c.write_whole-b.ensures.1 c.write_bytes.ensures),
)
