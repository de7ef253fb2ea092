-- The call's own contract. Assumes nothing.
use Rattle.session.specs.Session.{session}
use Rattle.session.proofs.Lines.{saying}
use Rattle.session.proofs.Taken.{a_call}
use Rattle.session.proofs.respond.call_line.Goals as goal

pub returns : goal.returns
returns c =
    let a = c.args in
    let e = c.call.ensures in
    let s = session a.o a.floats.now a.words.now a.coords.now a.corners.now in record {
      small_after = (c.requires, e.upper_bound);
      does = saying (a_call s a.c) (λ i. session a.o (e.floats_after i) (e.words_after i) a.coords.now a.corners.now)
          e.wrote;
    }
