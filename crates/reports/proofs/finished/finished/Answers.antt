-- `reports::finished::finished` meets its contract. Assumes nothing.
use Rattle.std.proofs.lemmas.Result.{err_from_is_err_and}
use mathlib.Core.Path.{sym, ap, ◌∙◌}
use native.Mathlib.Omega.{arith}
use lib.Ieee.{Float}
use Rattle.layout.specs.Layout.{width}
use Rattle.readings.specs.Readings.{report, answer_of, seen_by_lem}
use Rattle.readings.specs.ReadLaws.{check_fine}
use Rattle.reports.specs.FinishedLaws.{covered_fewer, passed_is, finished_refused, finished_told}
use Rattle.reports.proofs.finished.finished.Goals as goal

pub overflow_sub-passed : goal.overflow_sub-passed
overflow_sub-passed c =
    let a = c.args in
    let h = (check_fine width _ _ _ c.check_seen.ensures.refusal c.in_ok-check_seen.was).places.long in
    let l = covered_fewer a.floats.now a.words.now a.layers _ _ h c.seen_places-seen.ensures.seen
    c.complete_places-done.ensures.seen in
    omega (arith, l, c.filled-2.ensures.0, c.filled.ensures.0)

-- 4, 5 or 16
pub returns-in_err-check_seen : goal.returns-in_err-check_seen
returns-in_err-check_seen c =
    let a = c.args in
    let e = err_from_is_err_and c.from_residual.result c.from_residual.ensures.1 in
    rw (e.1, e.2)
    (finished_refused a.floats.now a.words.now a.layers a.v _
    (sym c.check_seen.ensures.refusal ∙ c.in_err-check_seen.was))

pub returns : goal.returns
returns c =
    let a = c.args in
    let f = c.args.floats.now in
    let w = c.args.words.now in
    let told = c.report_seen-totals in
    let many = c.filled in
    let few = c.filled-2 in
    let s = c.seen_places-seen in
    let t = c.complete_places-done in
    let body = c.body_of-body in
    let long = (check_fine width _ _ _ c.check_seen.ensures.refusal c.in_ok-check_seen.was).places.long in
    finished_told f w a.layers a.v (sym c.check_seen.ensures.refusal ∙ c.in_ok-check_seen.was) long _
    t.ensures.seen _
    (rw (many.ensures.0, few.ensures.0) (passed_is f w a.layers _ _ long s.ensures.seen t.ensures.seen)) _
    (told.ensures ∙ ap (λ (x : Float). answer_of (report a.v) (seen_by_lem width f t.result x)) (rw (c.word.ensures, c.word-2.ensures) at body.ensures))
