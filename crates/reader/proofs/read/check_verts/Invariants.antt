use Rattle.std.proofs.Common.{◌≡◌, ◌-◌}
use Rattle.text.specs.Text.{rest}
use Rattle.script.specs.Lines.{vert_line}
use Rattle.reader.specs.ReadOf.{lines_from}
use Rattle.reader.proofs.read.check_verts.Given as goal

abbrev pub invariant-loop-i : goal.invariant-loop-i
invariant-loop-i l =
    (lines_from vert_line (l.n - l.i) (rest l.s l.k)).text ≡ (lines_from vert_line l.n (rest l.s l.at)).text
