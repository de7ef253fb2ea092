-- The part, as a line. Assumes nothing.
use Rattle.forms.specs.declared.line.Line.TheVariants.{Face}
use Rattle.forms.proofs.read.read_face.Goals as goal

pub returns : goal.returns
returns c = (λ i. record { val = Face (c.face-p.ensures i).val; text = (c.face-p.ensures i).text })
