-- The part, as a line. Assumes nothing.
use Rattle.forms.specs.declared.line.Line.TheVariants.{Vert}
use Rattle.forms.proofs.read.read_vert.Goals as goal

pub returns : goal.returns
returns c = (λ i. record { val = Vert (c.vertex-p.ensures i).val; text = (c.vertex-p.ensures i).text })
