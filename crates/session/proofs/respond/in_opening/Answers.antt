-- A vert or a face line; any other gives up the opening. Assumes nothing.
use mathlib.Core.Path.{◌∙◌}
use Rattle.session.specs.Session.{session}
use Rattle.session.proofs.Lines.{saying, small_as, small-idle}
use Rattle.session.proofs.Taken.{no_mesh}
use borrow.Author.Rules.{rules}
use Rattle.session.proofs.respond.in_opening.Goals as goal

pub returns-in-Vert : goal.returns-in-Vert
returns-in-Vert c =
    rw c.in-Vert.is c.vert_line.ensures

pub returns-in-Face : goal.returns-in-Face
returns-in-Face c =
    rw c.in-Face.is c.face_line.ensures

pub returns-in_default : goal.returns-in_default
returns-in_default c =
    let a = c.args in
    let s = session a.o a.floats.now a.words.now a.coords.now a.corners.now in
    let e = c.refuse.ensures in
    let u = e.opening_value.0 ∙ c.idle.ensures in record {
      small_after = (small_as u small-idle, e.opening_value.1);
      does = saying (no_mesh s a.l c.in_default.in_default-own.keys3)
          (λ i. session (u i) a.floats.now a.words.now a.coords.now a.corners.now) e.wrote;
    }
