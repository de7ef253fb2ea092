-- The tokens of the form, one after the other. Assumes nothing.
use mathlib.Core.Path.{◌∙◌}
use Rattle.text.specs.Text.{bytes, literal}
use Rattle.text.specs.Form.{end, map, read, three}
use Rattle.forms.specs.Forms.{convention, to_convention, array_of}
use Rattle.forms.specs.declared.line.Call.TheVariants.{Density}
use Rattle.forms.specs.declared.line.Line.TheVariants.{OnStore}
use Rattle.forms.proofs.read.read_density.Goals as goal

pub returns : goal.returns
returns c =
    let k· = c.read_bytes.ensures in
    let k = c.read_convention-c.ensures ∙ (λ i. map to_convention (read (convention end) (k· i))) in
    let p· = c.read_bytes-2.ensures ∙ (λ i. literal (bytes " ") (k i).text) in
    let p = c.read_three-p.ensures ∙ (λ i. map array_of (read (three end) (p· i))) in
    let e = c.read_bytes-3.ensures ∙ (λ i. literal (bytes ")") (p i).text) in
    (λ i. record { val = OnStore (Density (k i).val (p i).val); text = e i })
