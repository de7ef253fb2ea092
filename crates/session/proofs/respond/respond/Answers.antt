-- A line where one of the opening is due, any other, or none. Assumes nothing.
use Rattle.std.proofs.Common.{sym, ◌∙◌}
use Rattle.session.specs.Session.{session}
use Rattle.session.proofs.Lines.{saying, small_as, small-idle}
use Rattle.session.proofs.Taken.{responds_due, responds_else, gives_up, stays}
use Rattle.session.proofs.respond.respond.Goals as goal

pub in_opening-requires : goal.in_opening-requires
in_opening-requires c = record { small = c.requires; due = sym c.due-is_due.ensures ∙ c.if-is_due.true }

pub returns-in-Some : goal.returns-in-Some
returns-in-Some c =
    let a = c.args in
    let s = session a.o a.floats.now a.words.now a.coords.now a.corners.now in
    let e = c.in_opening.ensures in record {
      small_after = e.small_after;
      does = rw c.in-Some.is (saying (responds_due s c.in-Some.line (sym c.due-is_due.ensures ∙ c.if-is_due.true)) e.does.0 e.does.1);
    }

pub returns-in-Some-2 : goal.returns-in-Some-2
returns-in-Some-2 c =
    let a = c.args in
    let s = session a.o a.floats.now a.words.now a.coords.now a.corners.now in
    let e = c.outside.ensures in record {
      small_after = e.small_after;
      does = rw c.in-Some-2.is
          (saying (responds_else s c.in-Some-2.line (sym c.due-is_due.ensures ∙ c.if-is_due.false)) e.does.0 e.does.1);
    }

pub returns-in-None : goal.returns-in-None
returns-in-None c =
    let a = c.args in
    let s = session a.o a.floats.now a.words.now a.coords.now a.corners.now in
    let e = c.refuse.ensures in
    let u = e.opening_value.0 ∙ c.idle.ensures in record {
      small_after = (small_as u small-idle, e.opening_value.1);
      does = rw c.in-None.is
          (saying (gives_up s (sym c.due-is_due.ensures ∙ c.if-is_due-2.true))
          (λ i. session (u i) a.floats.now a.words.now a.coords.now a.corners.now) e.wrote);
    }

pub returns-in-None-2 : goal.returns-in-None-2
returns-in-None-2 c =
    let a = c.args in
    let s = session a.o a.floats.now a.words.now a.coords.now a.corners.now in
    let e = c.refuse-in-None-2.ensures in
    let u = e.opening_value.0 in record {
      small_after = (small_as u c.requires, e.opening_value.1);
      does = rw c.in-None-2.is
          (saying (stays s (sym c.due-is_due.ensures ∙ c.if-is_due-2.false))
          (λ i. session (u i) a.floats.now a.words.now a.coords.now a.corners.now) e.wrote);
    }
