-- The tokens of the form, one after the other. Assumes nothing.
use Rattle.std.proofs.Common.{◌∙◌, [], ◌∷◌}
use Rattle.text.specs.Text.{bytes, literal, float}
use Rattle.forms.proofs.parts.read_three.Goals as goal

pub returns : goal.returns
returns c =
    let x = c.read_float-x.ensures in
    let y· = c.read_bytes.ensures ∙ (λ i. literal (bytes " ") (x i).text) in
    let y = c.read_float-y.ensures ∙ (λ i. float (y· i)) in
    let z· = c.read_bytes-2.ensures ∙ (λ i. literal (bytes " ") (y i).text) in
    let z = c.read_float-z.ensures ∙ (λ i. float (z· i)) in
    (λ i. record { val = (x i).val ∷ (y i).val ∷ (z i).val ∷ []; text = (z i).text })
