-- An open line, a call, or a line that is refused. Assumes nothing.
use Rattle.session.specs.Session.{session}
use Rattle.session.proofs.Lines.{saying, small_as}
use Rattle.session.proofs.Taken.{no_call}
use Rattle.session.proofs.respond.outside.Goals as goal

pub returns-in-Open : goal.returns-in-Open
returns-in-Open c =
    rw c.in-Open.is c.open_line.ensures

pub returns-in-OnStore : goal.returns-in-OnStore
returns-in-OnStore c =
    let e = c.call_line.ensures in
    record { small_after = e.small_after; does = rw c.in-OnStore.is e.does }

pub returns-in_default : goal.returns-in_default
returns-in_default c =
    let a = c.args in
    let s = session a.o a.floats.now a.words.now a.coords.now a.corners.now in
    let e = c.refuse.ensures in
    let u = c.refuse.ensures.opening_value.0 in record {
      small_after = (small_as u c.requires, e.opening_value.1);
      does = saying (no_call s a.l c.in_default.in_default-own.keys3)
          (λ i. session (u i) a.floats.now a.words.now a.coords.now a.corners.now) e.wrote;
    }
