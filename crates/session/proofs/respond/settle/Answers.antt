-- A line is due, or the store is opened. Assumes nothing.
use mathlib.Core.Path.{refl, sym, ◌∙◌}
use native.Mathlib.Omega.{arith}
use Rattle.session.specs.Session.{session}
use Rattle.session.proofs.Lines.{saying, settled-due, settled-done}
use Rattle.session.proofs.respond.settle.Goals as goal

pub returns-then-due : goal.returns-then-due
returns-then-due c =
    let a = c.args in
    let s = session a.o a.floats.now a.words.now a.coords.now a.corners.now in record {
      small_after = (c.requires, omega arith);
      does = saying (settled-due s (sym c.due.ensures ∙ c.if-due.true)) refl (record { next = refl; run = refl });
    }

pub returns : goal.returns
returns c =
    let a = c.args in
    let s = session a.o a.floats.now a.words.now a.coords.now a.corners.now in
    let e = c.answer_open-wrote.ensures in record {
      small_after = (c.requires, e.upper_bound);
      does = saying (settled-done s (sym c.due.ensures ∙ c.if-due.false))
          (λ i. session a.o (e.floats_after i) (e.words_after i) a.coords.now a.corners.now) e.wrote;
    }
