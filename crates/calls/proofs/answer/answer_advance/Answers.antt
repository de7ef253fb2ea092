-- The answer's line, or the refusal's. Assumes nothing.
use Rattle.text.specs.WriteLaws.{then}
use Rattle.calls.specs.Texts.{advance_text}
use Rattle.calls.proofs.Answers.{answering, advance_done, advance_refused}
use Rattle.calls.proofs.answer.answer_advance.Goals as goal

pub returns-in-Ok : goal.returns-in-Ok
returns-in-Ok c =
    let w = answering advance_text (advance_done c.in-Ok.is) c.advance.ensures
    (then c.write_advance-at.ensures.wrote c.newline.ensures.wrote) in
    record {
      upper_bound = c.newline.ensures.upper_bound;
      floats_after = w.0;
      words_after = w.1.0;
      wrote = w.1.1;
    }

pub returns-in-Err : goal.returns-in-Err
returns-in-Err c =
    let w = answering advance_text (advance_refused c.in-Err.is) c.advance.ensures c.answer_no.ensures.wrote in
    record {
      upper_bound = c.answer_no.ensures.upper_bound;
      floats_after = w.0;
      words_after = w.1.0;
      wrote = w.1.1;
    }
