-- The form, and its newline. Assumes nothing.
use Rattle.std.proofs.Common.{◌∙◌}
use Rattle.text.specs.Text.{bytes}
use Rattle.text.specs.Form.{followed_by}
use Rattle.reader.proofs.lines.read_vert.Goals as goal

pub returns : goal.returns
returns c = c.then.ensures ∙ (λ i. followed_by (bytes "\n") (c.vertex.ensures i))
