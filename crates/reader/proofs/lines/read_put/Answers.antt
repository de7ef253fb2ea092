-- The start, the end and the newline. Assumes nothing.
use Rattle.std.proofs.Common.{◌∙◌}
use Rattle.text.specs.Text.{bytes}
use Rattle.text.specs.Form.{end, either, map, read, followed_by}
use Rattle.forms.specs.Forms.{put_end}
use Rattle.script.specs.Lines.{layer_end}
use Rattle.reader.specs.ReadOf.{layer_named}
use Rattle.reader.proofs.lines.read_put.Goals as goal

pub returns : goal.returns
returns c =
    let p = c.put_start-p.ensures in
    let l = c.read_layer.ensures
    ∙ (λ i. map layer_named (read (either put_end layer_end end) (p i).text)) in
    let e = c.then-layer.ensures ∙ (λ i. followed_by (bytes "\n") (l i)) in
    (λ i. record { val = record { put = (p i).val; layer = (e i).val }; text = (e i).text })
