-- `writer::write_open`: the tokens of the line, one after the other. Assumes nothing.
use Rattle.text.specs.WriteLaws.{then}
use Rattle.writer.proofs.write_open.Goals as goal

pub returns-clause-wrote : goal.returns-clause-wrote
returns-clause-wrote c =
    then c.write_real-a.ensures.wrote
    (then c.write_number-b.ensures.wrote (then c.write_number-c.ensures.wrote c.write_bytes.ensures))
