-- `program::end_line` meets its contract. Assumes nothing.
use mathlib.Core.Path.{ap}
use Rattle.session.specs.Session.{Session}
use Rattle.program.specs.Bytes.{held_with, end_line}
use Rattle.program.proofs.end_line.Goals as goal

pub returns : goal.returns
unfolding end_line
returns c =
    let e = c.respond-s.ensures in
    let a = c.args in
    rw (← c.line_in-l.ensures) (record {
      small = e.small_after;
      feeds = (ap (λ (s : Session). held_with s a.line.now 0) e.does.0, e.does.1);
    })
