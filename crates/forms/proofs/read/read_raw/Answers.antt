-- The tokens of the form, one after the other. Assumes nothing.
use Rattle.density.specs.declared.convention.Convention.TheVariants.{Raw}
use Rattle.forms.proofs.read.read_raw.Goals as goal

pub returns : goal.returns
returns c =
    let e = c.read_bytes.ensures in
    (λ i. record { val = Raw; text = e i })
