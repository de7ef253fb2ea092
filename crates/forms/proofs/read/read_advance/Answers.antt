-- The tokens of the form, one after the other. Assumes nothing.
use mathlib.Core.Path.{◌∙◌}
use Prim.Native.Nat.{◌-◌, ◌^◌}
use Rattle.text.specs.Text.{bytes, literal, decimal}
use Rattle.forms.specs.declared.line.Call.TheVariants.{Advance}
use Rattle.forms.specs.declared.line.Line.TheVariants.{OnStore}
use Rattle.forms.proofs.read.read_advance.Goals as goal

pub returns : goal.returns
returns c =
    let n· = c.read_bytes.ensures in
    let n = c.read_u64-n.ensures ∙ (λ i. decimal (2 ^ 64 - 1) (n· i)) in
    let e = c.read_bytes-2.ensures ∙ (λ i. literal (bytes ")") (n i).text) in
    (λ i. record { val = OnStore (Advance (n i).val); text = e i })
