-- The tokens of the form, one after the other. Assumes nothing.
use mathlib.Core.Path.{◌∙◌}
use Prim.Native.Nat.{◌-◌, ◌^◌}
use Rattle.text.specs.Text.{bytes, literal, float, decimal}
use Rattle.forms.proofs.parts.opening.Goals as goal

pub returns : goal.returns
returns c =
    let r· = c.read_bytes.ensures in
    let r = c.read_float-r.ensures ∙ (λ i. float (r· i)) in
    let v· = c.read_bytes-2.ensures ∙ (λ i. literal (bytes ") (verts ") (r i).text) in
    let v = c.read_u32-v.ensures ∙ (λ i. decimal (2 ^ 32 - 1) (v· i)) in
    let f· = c.read_bytes-3.ensures ∙ (λ i. literal (bytes ") (faces ") (v i).text) in
    let f = c.read_u32-f.ensures ∙ (λ i. decimal (2 ^ 32 - 1) (f· i)) in
    let e = c.read_bytes-4.ensures ∙ (λ i. literal (bytes "))") (f i).text) in
    (λ i. record { val = record { radius = (r i).val; verts = (v i).val; faces = (f i).val }; text = e i })
