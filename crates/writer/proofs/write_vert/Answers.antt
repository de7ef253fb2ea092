-- `writer::write_vert`: the tokens of the line, one after the other. Assumes nothing.
use Rattle.text.specs.WriteLaws.{then}
use Rattle.writer.proofs.write_vert.Goals as goal

pub returns-clause-wrote : goal.returns-clause-wrote
returns-clause-wrote c =
    then c.write_real-a.ensures.wrote
    (then c.write_real-b.ensures.wrote (then c.write_real-c.ensures.wrote c.write_bytes.ensures))
