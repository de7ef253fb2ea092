-- The tokens of the form, and its newline. Assumes nothing.
use mathlib.Core.Path.{◌∙◌}
use Rattle.text.specs.Text.{bytes, literal}
use Rattle.text.specs.Form.{end, read, three}
use Rattle.reader.proofs.lines.skip_vert.Goals as goal

pub returns : goal.returns
returns c =
    let p· = c.read_bytes.ensures in
    let p = c.skip_three-p.ensures ∙ (λ i. (read (three end) (p· i)).text) in
    let e = c.read_bytes-2.ensures ∙ (λ i. literal (bytes ")") (p i)) in
    c.read_bytes-3.ensures ∙ (λ i. literal (bytes "\n") (e i))
