-- The tokens of the form, one after the other. Assumes nothing.
use mathlib.Core.Path.{◌∙◌}
use Prim.Native.Nat.{◌-◌, ◌^◌}
use Rattle.text.specs.Text.{bytes, literal, decimal}
use Rattle.forms.specs.declared.line.Call.TheVariants.{Clear}
use Rattle.forms.specs.declared.line.Line.TheVariants.{OnStore}
use Rattle.forms.proofs.read.read_clear.Goals as goal

pub returns : goal.returns
returns c =
    let p· = c.read_bytes.ensures in
    let p = c.read_u32-p.ensures ∙ (λ i. decimal (2 ^ 32 - 1) (p· i)) in
    let e = c.read_bytes-2.ensures ∙ (λ i. literal (bytes ")") (p i).text) in
    (λ i. record { val = OnStore (Clear (p i).val); text = e i })
