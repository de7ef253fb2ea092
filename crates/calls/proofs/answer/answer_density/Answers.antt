-- The answer's line, or the refusal's. Assumes nothing.
use Rattle.text.specs.WriteLaws.{then}
use Rattle.calls.specs.Texts.{density_text}
use Rattle.calls.proofs.Answers.{reading, density_done, density_refused}
use Rattle.calls.proofs.answer.answer_density.Goals as goal

pub returns-in-Ok : goal.returns-in-Ok
returns-in-Ok c = record {
  upper_bound = c.newline.ensures.upper_bound;
  wrote = reading density_text (density_done c.in-Ok.is) c.density.ensures
      (then c.write_density-at.ensures.wrote c.newline.ensures.wrote);
}

pub returns-in-Err : goal.returns-in-Err
returns-in-Err c = record {
  upper_bound = c.answer_no.ensures.upper_bound;
  wrote = reading density_text (density_refused c.in-Err.is) c.density.ensures c.answer_no.ensures.wrote;
}
