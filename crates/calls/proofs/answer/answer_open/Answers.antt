-- The answer's line, or the refusal's. Assumes nothing.
use Rattle.text.specs.WriteLaws.{then}
use Rattle.calls.specs.Texts.{open_text}
use Rattle.calls.proofs.Answers.{answering, open_done, open_refused}
use Rattle.calls.proofs.answer.answer_open.Goals as goal

pub returns-in-Ok : goal.returns-in-Ok
returns-in-Ok c =
    let w = answering open_text (open_done c.in-Ok.is) c.«open».ensures
    (then c.write_open-at.ensures.wrote c.newline.ensures.wrote) in
    record {
      upper_bound = c.newline.ensures.upper_bound;
      floats_after = w.0;
      words_after = w.1.0;
      wrote = w.1.1;
    }

pub returns-in-Err : goal.returns-in-Err
returns-in-Err c =
    let w = answering open_text (open_refused c.in-Err.is) c.«open».ensures c.answer_no.ensures.wrote in
    record {
      upper_bound = c.answer_no.ensures.upper_bound;
      floats_after = w.0;
      words_after = w.1.0;
      wrote = w.1.1;
    }
