-- `writer::write_put`: the tokens of the line, one after the other. Assumes nothing.
use Rattle.std.proofs.Common.{List, ℕ}
use mathlib.Core.Path.{subst}
use Rattle.text.specs.Print.{Wrote}
use Rattle.text.specs.WriteLaws.{then}
use Rattle.script.specs.Written.{centre_text}
use Rattle.writer.proofs.Writing.{put_text_lem}
use Rattle.writer.proofs.write_put.Goals as goal

pub returns-clause-wrote : goal.returns-clause-wrote
returns-clause-wrote c =
    let a = c.args in
    subst (λ (t : List ℕ). Wrote a.out.now a.at t c.write_bytes.result c.write_bytes.new.out)
    (put_text_lem a.place a.k a.layer)
    (then {u = centre_text a.place a.k.c} c.write_place-a.ensures.wrote
    (then c.write_real-b.ensures.wrote
    (then c.write_real-c.ensures.wrote
    (then c.write_real-d.ensures.wrote (then c.write_number-e.ensures.wrote c.write_bytes.ensures)))))
