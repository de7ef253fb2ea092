-- The answer's line, or the refusal's. Assumes nothing.
use Rattle.text.specs.WriteLaws.{then}
use Rattle.calls.specs.Texts.{report_text}
use Rattle.calls.proofs.Answers.{reading, report_done, report_refused}
use Rattle.calls.proofs.answer.answer_report.Goals as goal

pub returns-in-Ok : goal.returns-in-Ok
returns-in-Ok c = record {
  upper_bound = c.newline.ensures.upper_bound;
  wrote = reading report_text (report_done c.in-Ok.is) c.report.ensures
      (then c.write_report-at.ensures.wrote c.newline.ensures.wrote);
}

pub returns-in-Err : goal.returns-in-Err
returns-in-Err c = record {
  upper_bound = c.answer_no.ensures.upper_bound;
  wrote = reading report_text (report_refused c.in-Err.is) c.report.ensures c.answer_no.ensures.wrote;
}
