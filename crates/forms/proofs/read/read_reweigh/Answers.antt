-- The tokens of the form, one after the other. Assumes nothing.
use mathlib.Core.Path.{◌∙◌}
use Prim.Native.Nat.{◌-◌, ◌^◌}
use Rattle.text.specs.Text.{bytes, literal, float, decimal}
use Rattle.forms.specs.declared.line.Call.TheVariants.{Reweigh}
use Rattle.forms.specs.declared.line.Line.TheVariants.{OnStore}
use Rattle.forms.proofs.read.read_reweigh.Goals as goal

pub returns : goal.returns
returns c =
    let p· = c.read_bytes.ensures in
    let p = c.read_u32-p.ensures ∙ (λ i. decimal (2 ^ 32 - 1) (p· i)) in
    let w· = c.read_bytes-2.ensures ∙ (λ i. literal (bytes " ") (p i).text) in
    let w = c.read_float-w.ensures ∙ (λ i. float (w· i)) in
    let e = c.read_bytes-3.ensures ∙ (λ i. literal (bytes ")") (w i).text) in
    (λ i. record { val = OnStore (Reweigh (p i).val (w i).val); text = e i })
