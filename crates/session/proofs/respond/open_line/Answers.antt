-- The opening is begun where its counts are the program's. Assumes nothing.
use lib.Dec.{leb}
use borrow.Author.Tests.{leb-true}
use Rattle.layout.specs.SoundLaws.{both}
use Rattle.session.specs.Session.{vert_bound, face_bound, session}
use Rattle.session.proofs.Lines.{saying, small_as}
use Rattle.session.proofs.Taken.{opening_begun, opening_over}
use Rattle.session.proofs.respond.open_line.Goals as goal

pub settle-requires : goal.settle-requires
settle-requires c =
    let a = c.args in
    let b = both (leb a.head.verts vert_bound) (leb a.head.faces face_bound) c.if-taken.true in
    small_as c.begun-p.ensures (leb-true a.head.verts vert_bound b.0, leb-true a.head.faces face_bound b.1)

pub returns-then-taken : goal.returns-then-taken
returns-then-taken c =
    let a = c.args in
    let s = session a.o a.floats.now a.words.now a.coords.now a.corners.now in
    let e = c.settle.ensures in
    let h = c.if-taken.true in record {
      small_after = e.small_after;
      does = saying (opening_begun s a.head h c.begun-p.ensures) e.does.0 e.does.1;
    }

pub returns : goal.returns
returns c =
    let a = c.args in
    let s = session a.o a.floats.now a.words.now a.coords.now a.corners.now in
    let e = c.refuse.ensures in
    let u = c.refuse.ensures.opening_value.0 in record {
      small_after = (small_as u c.requires, e.opening_value.1);
      does = saying (opening_over s a.head c.if-taken.false)
          (λ i. session (u i) a.floats.now a.words.now a.coords.now a.corners.now) e.wrote;
    }
