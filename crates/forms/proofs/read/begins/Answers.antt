-- The library's test says whether the bytes are the beginning of the text. Assumes nothing.
use mathlib.Core.Path.{◌∙◌}
use Rattle.forms.proofs.Steps.{starts-stands}
use Rattle.forms.proofs.read.begins.Goals as goal

pub returns : goal.returns
returns c = c.starts_with.ensures.value ∙ starts-stands c.args.word.now c.args.s.now
