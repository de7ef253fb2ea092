-- The tokens of the form, one after the other. Assumes nothing.
use mathlib.Core.Path.{◌∙◌}
use Rattle.text.specs.Text.{bytes, literal, float}
use Rattle.density.specs.declared.convention.Convention.TheVariants.{Rho0}
use Rattle.forms.proofs.read.read_rho0.Goals as goal

pub returns : goal.returns
returns c =
    let b· = c.read_bytes.ensures in
    let b = c.read_float-b.ensures ∙ (λ i. float (b· i)) in
    let e = c.read_bytes-2.ensures ∙ (λ i. literal (bytes ")") (b i).text) in
    (λ i. record { val = Rho0 (b i).val; text = e i })
