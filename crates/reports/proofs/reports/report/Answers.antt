-- `reports::reports::report` meets its contract. Assumes nothing.
use Rattle.std.proofs.lemmas.Result.{err_from_is_err_and}
use Rattle.base.specs.Answers.{passed}
use mathlib.Core.Bool.{true}
use lib.Ieee.{Float}
use mathlib.Core.Path.{◌≡◌, sym, ap, ◌∙◌}
use native.Mathlib.Omega.{arith}
use Rattle.layout.specs.Layout.{width}
use Rattle.readings.specs.Readings.{report, answer_of, seen_by_lem}
use Rattle.readings.specs.Checks.{read_check}
use Rattle.readings.specs.ReadLaws.{read_refused}
use Rattle.readings.specs.SeenLaws.{read_seen}
use Rattle.reports.proofs.reports.report.Goals as goal

pub returns-in_err-check_read : goal.returns-in_err-check_read
returns-in_err-check_read c =
    let a = c.args in
    let e = err_from_is_err_and c.from_residual.result c.from_residual.ensures.1 in
    rw (e.1, e.2)
    (sym (read_refused width a.floats.now a.words.now a.layers (report a.v) _
    (sym c.check_read.ensures.refusal ∙ c.in_err-check_read.was)))

pub returns : goal.returns
returns c =
    let a = c.args in
    let f = c.args.floats.now in
    let w = c.args.words.now in
    let s = c.seen_places-seen in
    let p : read_check width f w a.layers true ≡ passed
    = sym c.check_read.ensures.refusal ∙ c.in_ok-check_read.was in
    c.report_seen.ensures
    ∙ (ap (λ (x : Float). answer_of (report a.v) (seen_by_lem width f s.result x)) (rw (c.word.ensures, c.word-2.ensures) at c.body_of.ensures)
    ∙ sym (read_seen width f w a.layers (report a.v) (omega arith) p _ s.ensures.seen))
