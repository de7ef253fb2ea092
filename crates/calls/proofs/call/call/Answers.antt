-- Each call, case by case. Assumes nothing.
use Rattle.calls.proofs.ByCall.{calling, looking, put_call_lem, clear_call, reweigh_call, advance_call, density_call, report_call}
use Rattle.calls.proofs.call.call.Goals as goal

pub returns-in-Put : goal.returns-in-Put
returns-in-Put c =
    let a = c.args in
    calling (put_call_lem a.floats.now a.words.now c.in-Put.is) c.answer_put.ensures

pub returns-in-Clear : goal.returns-in-Clear
returns-in-Clear c =
    let a = c.args in
    calling (clear_call a.floats.now a.words.now c.in-Clear.is) c.answer_clear.ensures

pub returns-in-Reweigh : goal.returns-in-Reweigh
returns-in-Reweigh c =
    let a = c.args in
    calling (reweigh_call a.floats.now a.words.now c.in-Reweigh.is) c.answer_reweigh.ensures

pub returns-in-Advance : goal.returns-in-Advance
returns-in-Advance c =
    let a = c.args in
    calling (advance_call a.floats.now a.words.now c.in-Advance.is) c.answer_advance.ensures

pub returns-in-Density : goal.returns-in-Density
returns-in-Density c =
    let a = c.args in
    looking (density_call a.floats.now a.words.now c.in-Density.is) c.answer_density.ensures

pub returns-in-Report : goal.returns-in-Report
returns-in-Report c =
    let a = c.args in
    looking (report_call a.floats.now a.words.now c.in-Report.is) c.answer_report.ensures
