-- `write_lines`: one line more. Assumes nothing.
use Rattle.convert.proofs.Writes.{line_laid}
use Rattle.convert.proofs.convert.write_lines.Goals as goal

pub loop-i-preserved : goal.loop-i-preserved
loop-i-preserved c =
    line_laid _ _ _ _ c.loop-i.invariant c.loop-i-test.true c.read_kernel-line.ensures c.load.ensures
    c.write_kernel.ensures
