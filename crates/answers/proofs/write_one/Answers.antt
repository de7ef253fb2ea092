-- The tokens, written one after the other. Assumes nothing.
use Rattle.text.specs.WriteLaws.{then}
use Rattle.answers.proofs.write_one.Goals as goal

pub returns-clause-wrote : goal.returns-clause-wrote
returns-clause-wrote c = then c.write_number-a.ensures.wrote c.write_bytes.ensures
