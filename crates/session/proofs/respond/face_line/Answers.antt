-- A face is kept where no vertex is due; else the opening is given up. Assumes nothing.
use mathlib.Core.Path.{sym, ◌∙◌}
use Rattle.session.specs.Session.{session}
use Rattle.session.proofs.Lines.{saying, small_as, small-idle}
use Rattle.session.proofs.Taken.{face_kept, face_early}
use Rattle.session.proofs.respond.face_line.Goals as goal

pub returns-then-verts_due : goal.returns-then-verts_due
returns-then-verts_due c =
    let a = c.args in
    let s = session a.o a.floats.now a.words.now a.coords.now a.corners.now in
    let e = c.refuse.ensures in
    let u = e.opening_value.0 ∙ c.idle.ensures in
    let h = sym c.verts_due.ensures ∙ c.if-verts_due.true in record {
      small_after = (small_as u small-idle, e.opening_value.1);
      does = saying (face_early s a.face h)
          (λ i. session (u i) a.floats.now a.words.now a.coords.now a.corners.now) e.wrote;
    }

pub add_face-p-requires : goal.add_face-p-requires
add_face-p-requires c =
    record { fact_1 = c.requires.small; fact_2 = (sym c.verts_due.ensures ∙ c.if-verts_due.false, c.requires.due) }

pub settle-requires : goal.settle-requires
settle-requires c = small_as c.add_face-p.ensures.value c.requires.small

pub returns : goal.returns
returns c =
    let a = c.args in
    let s = session a.o a.floats.now a.words.now a.coords.now a.corners.now in
    let v = c.add_face-p.ensures in
    let e = c.settle.ensures in
    let h = sym c.verts_due.ensures ∙ c.if-verts_due.false in record {
      small_after = e.small_after;
      does = saying (face_kept s a.face h v.value v.corners_after) e.does.0 e.does.1;
    }
