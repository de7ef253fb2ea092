-- The tokens of the form, one after the other. Assumes nothing.
use mathlib.Core.Path.{◌∙◌}
use Prim.Native.Nat.{◌-◌, ◌^◌}
use Rattle.text.specs.Text.{bytes, literal, float, decimal}
use Rattle.text.specs.Form.{end, map, read, three}
use Rattle.forms.specs.Forms.{array_of}
use Rattle.forms.proofs.parts.put_start.Goals as goal

pub returns : goal.returns
returns c =
    let p· = c.read_bytes.ensures in
    let p = c.read_u32-p.ensures ∙ (λ i. decimal (2 ^ 32 - 1) (p· i)) in
    let m· = c.read_bytes-2.ensures ∙ (λ i. literal (bytes " (c ") (p i).text) in
    let m = c.read_three-centre.ensures ∙ (λ i. map array_of (read (three end) (m· i))) in
    let g· = c.read_bytes-3.ensures ∙ (λ i. literal (bytes ") (sigma ") (m i).text) in
    let g = c.read_float-g.ensures ∙ (λ i. float (g· i)) in
    let w· = c.read_bytes-4.ensures ∙ (λ i. literal (bytes ") (w ") (g i).text) in
    let w = c.read_float-w.ensures ∙ (λ i. float (w· i)) in
    let a· = c.read_bytes-5.ensures ∙ (λ i. literal (bytes ") (alpha ") (w i).text) in
    let a = c.read_float-a.ensures ∙ (λ i. float (a· i)) in
    (λ i. record {
      val = record {
        place = (p i).val;
        kernel = record { c = (m i).val; sigma = (g i).val; w = (w i).val; alpha = (a i).val };
      };
      text = (a i).text;
    })
