use Rattle.std.proofs.Common.{◌-◌, length}
use Rattle.convert.proofs.Scans.{Scanned}
use Rattle.convert.proofs.lines.scan_lines.Given as goal

abbrev pub invariant-loop-at : goal.invariant-loop-at
invariant-loop-at l = Scanned l.s l.default l.lines l.at l.same

abbrev pub decreases-loop-at : goal.decreases-loop-at
decreases-loop-at l = length l.s - l.lines
