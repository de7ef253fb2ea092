-- The tokens of the form, one after the other. Assumes nothing.
use mathlib.Core.Path.{◌∙◌}
use Rattle.text.specs.Text.{bytes, literal, float}
use Rattle.reader.proofs.lines.skip_three.Goals as goal

pub returns : goal.returns
returns c =
    let x = c.skip_float-x.ensures in
    let y· = c.read_bytes.ensures ∙ (λ i. literal (bytes " ") (x i)) in
    let y = c.skip_float-y.ensures ∙ (λ i. (float (y· i)).text) in
    let z· = c.read_bytes-2.ensures ∙ (λ i. literal (bytes " ") (y i)) in
    c.skip_float.ensures ∙ (λ i. (float (z· i)).text)
