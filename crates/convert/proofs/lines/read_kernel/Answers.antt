-- The tokens of the form, one after the other. Assumes nothing.
use mathlib.Core.Path.{◌∙◌}
use Rattle.text.specs.Text.{bytes, literal, float}
use Rattle.text.specs.Form.{map, read}
use Rattle.convert.specs.Lines.{exponent_form, to_exponent, file_line}
use Rattle.convert.proofs.lines.read_kernel.Goals as goal

pub returns : goal.returns
unfolding file_line
returns c =
    let x· = c.read_bytes.ensures in
    let x = c.read_float-x.ensures ∙ (λ i. float (x· i)) in
    let y· = c.read_bytes-2.ensures ∙ (λ i. literal (bytes " ") (x i).text) in
    let y = c.read_float-y.ensures ∙ (λ i. float (y· i)) in
    let z· = c.read_bytes-3.ensures ∙ (λ i. literal (bytes " ") (y i).text) in
    let z = c.read_float-z.ensures ∙ (λ i. float (z· i)) in
    let g· = c.read_bytes-4.ensures ∙ (λ i. literal (bytes ") (sigma ") (z i).text) in
    let g = c.read_float-g.ensures ∙ (λ i. float (g· i)) in
    let w· = c.read_bytes-5.ensures ∙ (λ i. literal (bytes ") (w ") (g i).text) in
    let w = c.read_float-w.ensures ∙ (λ i. float (w· i)) in
    let a· = c.read_bytes-6.ensures ∙ (λ i. literal (bytes ") (alpha ") (w i).text) in
    let a = c.read_exponent-a.ensures ∙ (λ i. map to_exponent (read exponent_form (a· i))) in
    let e = c.read_bytes-7.ensures ∙ (λ i. literal (bytes "))\n") (a i).text) in
    (λ i. record {
      val = record {
        x = (x i).val;
        y = (y i).val;
        z = (z i).val;
        sigma = (g i).val;
        w = (w i).val;
        exponent = (a i).val;
      };
      text = e i;
    })
