-- `writer::write_place`: the tokens of the line's start, one after the other. Assumes nothing.
use Rattle.text.specs.WriteLaws.{then}
use Rattle.writer.proofs.write_place.Goals as goal

pub returns-clause-wrote : goal.returns-clause-wrote
returns-clause-wrote c =
    then c.write_number-a.ensures.wrote
    (then c.write_real-b.ensures.wrote (then c.write_real-c.ensures.wrote c.write_real.ensures.wrote))
