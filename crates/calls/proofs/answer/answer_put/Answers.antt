-- The answer's line, or the refusal's. Assumes nothing.
use Rattle.text.specs.WriteLaws.{then}
use Rattle.calls.specs.Texts.{put_text}
use Rattle.calls.proofs.Answers.{answering, put_done, put_refused}
use Rattle.calls.proofs.answer.answer_put.Goals as goal

pub returns-in-Ok : goal.returns-in-Ok
returns-in-Ok c =
    let place = c.args.place in
    let w = answering (put_text place) (put_done place c.in-Ok.is) c.put.ensures
    (then c.write_put-at.ensures.wrote c.newline.ensures.wrote) in
    record {
      upper_bound = c.newline.ensures.upper_bound;
      floats_after = w.0;
      words_after = w.1.0;
      wrote = w.1.1;
    }

pub returns-in-Err : goal.returns-in-Err
returns-in-Err c =
    let place = c.args.place in
    let w = answering (put_text place) (put_refused place c.in-Err.is) c.put.ensures c.answer_no.ensures.wrote in
    record {
      upper_bound = c.answer_no.ensures.upper_bound;
      floats_after = w.0;
      words_after = w.1.0;
      wrote = w.1.1;
    }
