-- The tokens of the form, one after the other. Assumes nothing.
use mathlib.Core.Path.{◌∙◌}
use Rattle.text.specs.Text.{bytes, literal, float}
use Rattle.density.specs.declared.convention.Convention.TheVariants.{Mass}
use Rattle.forms.proofs.read.read_mass.Goals as goal

pub returns : goal.returns
returns c =
    let t· = c.read_bytes.ensures in
    let t = c.read_float-t.ensures ∙ (λ i. float (t· i)) in
    let b· = c.read_bytes-2.ensures ∙ (λ i. literal (bytes " ") (t i).text) in
    let b = c.read_float-b.ensures ∙ (λ i. float (b· i)) in
    let e = c.read_bytes-3.ensures ∙ (λ i. literal (bytes ")") (b i).text) in
    (λ i. record { val = Mass (t i).val (b i).val; text = e i })
