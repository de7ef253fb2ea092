-- Of the six readers of calls the one that the first word names. Assumes nothing.
use mathlib.Core.Path.{sym, ◌∙◌}
use Rattle.forms.specs.Forms.{put_form, to_put, clear_form, to_clear, reweigh_form, to_reweigh, advance_form, to_advance, density_form, to_density, report_form, to_report}
use Rattle.forms.specs.Words.{call_by_word}
use Rattle.forms.proofs.Steps.{read_as}
use Rattle.forms.proofs.read.read_call.Goals as goal

pub returns-then-begins : goal.returns-then-begins
unfolding call_by_word
returns-then-begins c =
    let e1 = sym c.begins.ensures ∙ c.if-begins.true in
    let s = c.args.s.now in
    let r = c.read_put in
    rw e1 (read_as put_form to_put s r.result.value r.result.at r.ensures)

pub returns-then-begins-2 : goal.returns-then-begins-2
unfolding call_by_word
returns-then-begins-2 c =
    let e1 = sym c.begins.ensures ∙ c.if-begins.false in
    let e2 = sym c.begins-2.ensures ∙ c.if-begins-2.true in
    let s = c.args.s.now in
    let r = c.read_clear in
    rw (e1, e2) (read_as clear_form to_clear s r.result.value r.result.at r.ensures)

pub returns-then-begins-3 : goal.returns-then-begins-3
unfolding call_by_word
returns-then-begins-3 c =
    let e1 = sym c.begins.ensures ∙ c.if-begins.false in
    let e2 = sym c.begins-2.ensures ∙ c.if-begins-2.false in
    let e3 = sym c.begins-3.ensures ∙ c.if-begins-3.true in
    let s = c.args.s.now in
    let r = c.read_reweigh in
    rw (e1, e2, e3) (read_as reweigh_form to_reweigh s r.result.value r.result.at r.ensures)

pub returns-then-begins-4 : goal.returns-then-begins-4
unfolding call_by_word
returns-then-begins-4 c =
    let e1 = sym c.begins.ensures ∙ c.if-begins.false in
    let e2 = sym c.begins-2.ensures ∙ c.if-begins-2.false in
    let e3 = sym c.begins-3.ensures ∙ c.if-begins-3.false in
    let e4 = sym c.begins-4.ensures ∙ c.if-begins-4.true in
    let s = c.args.s.now in
    let r = c.read_advance in
    rw (e1, e2, e3, e4) (read_as advance_form to_advance s r.result.value r.result.at r.ensures)

pub returns-then-begins-5 : goal.returns-then-begins-5
unfolding call_by_word
returns-then-begins-5 c =
    let e1 = sym c.begins.ensures ∙ c.if-begins.false in
    let e2 = sym c.begins-2.ensures ∙ c.if-begins-2.false in
    let e3 = sym c.begins-3.ensures ∙ c.if-begins-3.false in
    let e4 = sym c.begins-4.ensures ∙ c.if-begins-4.false in
    let e5 = sym c.begins-5.ensures ∙ c.if-begins-5.true in
    let s = c.args.s.now in
    let r = c.read_density in
    rw (e1, e2, e3, e4, e5) (read_as density_form to_density s r.result.value r.result.at r.ensures)

pub returns : goal.returns
unfolding call_by_word
returns c =
    let e1 = sym c.begins.ensures ∙ c.if-begins.false in
    let e2 = sym c.begins-2.ensures ∙ c.if-begins-2.false in
    let e3 = sym c.begins-3.ensures ∙ c.if-begins-3.false in
    let e4 = sym c.begins-4.ensures ∙ c.if-begins-4.false in
    let e5 = sym c.begins-5.ensures ∙ c.if-begins-5.false in
    let s = c.args.s.now in
    let r = c.read_report in
    rw (e1, e2, e3, e4, e5) (read_as report_form to_report s r.result.value r.result.at r.ensures)
