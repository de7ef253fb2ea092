-- The answer's line, or the refusal's. Assumes nothing.
use Rattle.text.specs.WriteLaws.{then}
use Rattle.calls.specs.Texts.{reweigh_text}
use Rattle.calls.proofs.Answers.{answering, reweigh_done, reweigh_refused}
use Rattle.calls.proofs.answer.answer_reweigh.Goals as goal

pub returns-in-Ok : goal.returns-in-Ok
returns-in-Ok c =
    let place = c.args.place in
    let w = answering (reweigh_text place) (reweigh_done place c.in-Ok.is) c.reweigh.ensures
    (then c.write_reweigh-at.ensures.wrote c.newline.ensures.wrote) in
    record {
      upper_bound = c.newline.ensures.upper_bound;
      floats_after = w.0;
      words_after = w.1.0;
      wrote = w.1.1;
    }

pub returns-in-Err : goal.returns-in-Err
returns-in-Err c =
    let place = c.args.place in
    let w = answering (reweigh_text place) (reweigh_refused place c.in-Err.is) c.reweigh.ensures
    c.answer_no.ensures.wrote in
    record {
      upper_bound = c.answer_no.ensures.upper_bound;
      floats_after = w.0;
      words_after = w.1.0;
      wrote = w.1.1;
    }
