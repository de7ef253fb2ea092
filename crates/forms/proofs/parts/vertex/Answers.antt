-- The tokens of the form, one after the other. Assumes nothing.
use mathlib.Core.Path.{◌∙◌}
use Rattle.text.specs.Text.{bytes}
use Rattle.text.specs.Form.{end, map, read, three, followed_by}
use Rattle.forms.specs.Forms.{array_of}
use Rattle.forms.proofs.parts.vertex.Goals as goal

pub returns : goal.returns
returns c =
    let p· = c.read_bytes.ensures in
    let p = c.read_three.ensures ∙ (λ i. map array_of (read (three end) (p· i))) in
    c.then.ensures ∙ (λ i. followed_by (bytes ")") (p i))
