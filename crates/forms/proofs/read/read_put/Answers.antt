-- The start of a put, and its end. Assumes nothing.
use mathlib.Core.Path.{◌∙◌}
use Rattle.text.specs.Text.{bytes, literal}
use Rattle.forms.specs.declared.line.Line.TheVariants.{OnStore}
use Rattle.forms.specs.declared.line.Call.TheVariants.{Put as put_call}
use Rattle.forms.proofs.read.read_put.Goals as goal

pub returns : goal.returns
returns c =
    let p = c.put_start-p.ensures in
    let e = c.read_bytes.ensures ∙ (λ i. literal (bytes "))") (p i).text) in
    (λ i. record { val = OnStore (put_call (p i).val); text = e i })
