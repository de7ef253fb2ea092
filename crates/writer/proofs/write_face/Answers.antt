-- `writer::write_face`: the tokens of the line, one after the other. Assumes nothing.
use Rattle.text.specs.WriteLaws.{then}
use Rattle.writer.proofs.write_face.Goals as goal

pub returns-clause-wrote : goal.returns-clause-wrote
returns-clause-wrote c =
    then c.write_number-k.ensures.wrote
    (then c.write_number-l.ensures.wrote (then c.write_number-m.ensures.wrote c.write_bytes.ensures))
