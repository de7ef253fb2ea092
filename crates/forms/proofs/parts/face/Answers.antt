-- The tokens of the form, one after the other. Assumes nothing.
use Rattle.std.proofs.Common.{◌-◌, ◌^◌, ◌∙◌, [], ◌∷◌}
use Rattle.text.specs.Text.{bytes, literal, decimal}
use Rattle.forms.proofs.parts.face.Goals as goal

pub returns : goal.returns
returns c =
    let x· = c.read_bytes.ensures in
    let x = c.read_u32-a.ensures ∙ (λ i. decimal (2 ^ 32 - 1) (x· i)) in
    let y· = c.read_bytes-2.ensures ∙ (λ i. literal (bytes " ") (x i).text) in
    let y = c.read_u32-b.ensures ∙ (λ i. decimal (2 ^ 32 - 1) (y· i)) in
    let z· = c.read_bytes-3.ensures ∙ (λ i. literal (bytes " ") (y i).text) in
    let z = c.read_u32-c.ensures ∙ (λ i. decimal (2 ^ 32 - 1) (z· i)) in
    let e = c.read_bytes-4.ensures ∙ (λ i. literal (bytes ")") (z i).text) in
    (λ i. record { val = (x i).val ∷ (y i).val ∷ (z i).val ∷ []; text = e i })
