-- Whether a line is due is two tests. Assumes nothing.
use mathlib.Core.Path.{refl}
use Rattle.session.proofs.opening.due.Goals as goal

pub returns : goal.returns
returns c = rw c.verts_due.ensures refl
