-- The number, and the newline. Assumes nothing.
use Rattle.text.specs.WriteLaws.{then}
use Rattle.calls.proofs.answer.answer_no.Goals as goal

pub returns : goal.returns
returns c =
    record {
      upper_bound = c.newline.ensures.upper_bound;
      wrote = rw (← c.from.ensures) (then c.write_no-at.ensures.wrote c.newline.ensures.wrote);
    }
