-- The part, as a line. Assumes nothing.
use Rattle.forms.specs.declared.line.Line.TheVariants.{Open}
use Rattle.forms.proofs.read.read_open.Goals as goal

pub returns : goal.returns
returns c = (λ i. record { val = Open (c.opening-h.ensures i).val; text = (c.opening-h.ensures i).text })
