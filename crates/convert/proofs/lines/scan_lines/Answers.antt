-- `scan_lines` meets its contract: the lines read and those left are all. Assumes nothing.
use Rattle.std.proofs.Common.{Bool, ◌&&◌, ap, sym, ◌∙◌}
use Rattle.convert.specs.Lines.{ended}
use Rattle.convert.proofs.Scans.{Found, none_scanned, line_scanned, found_end, found_many, ended_is}
use Rattle.convert.proofs.lines.scan_lines.Goals as goal
use Rattle.convert.proofs.lines.scan_lines.Goals.{then-loop-at-test+else-lines-s, else-loop-at-test}

pub loop-at-init : goal.loop-at-init
loop-at-init c = none_scanned _ _

pub loop-at-preserved : goal.loop-at-preserved
loop-at-preserved c =
    let l = c.loop-at in
    line_scanned _ _ l.invariant c.if-lines-s.true c.loop-at-test.true c.read_kernel-line.ensures
    (ap (λ (b : Bool). l.same && b) c.is_alike-same.ensures)

pub returns : goal.returns
returns c =
    let l = c.loop-at in
    let f : Found c.args.s.now c.args.default l.lines l.at l.same
    = elim c.loop-at-test.branch [
      | then-loop-at-test+else-lines-s w ↦ found_many _ _ l.invariant w.if-lines-s.false
      | else-loop-at-test w ↦ found_end _ _ l.invariant w.loop-at-test.false
    ] in record {
      lines_value = f.lines;
      same_value = f.agree;
      ended_value = ended_is c.args.s.now l.at ∙ sym (ap ended f.text);
    }
