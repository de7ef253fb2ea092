use Rattle.std.proofs.Common.{◌≡◌, ◌-◌, ◌&&◌}
use Rattle.mesh.specs.Checks.{all_below}
use Rattle.text.specs.Text.{rest}
use Rattle.script.specs.Lines.{face_line}
use Rattle.reader.specs.ReadOf.{lines_from, corners_in}
use Rattle.reader.proofs.read.check_faces.Given as goal

abbrev pub invariant-loop-i : goal.invariant-loop-i
invariant-loop-i l = record {
  text : (lines_from face_line (l.n - l.i) (rest l.s l.k)).text ≡ (lines_from face_line l.n (rest l.s l.at)).text;
  below : l.below && all_below l.v (corners_in (lines_from face_line (l.n - l.i) (rest l.s l.k)).val)
      ≡ all_below l.v (corners_in (lines_from face_line l.n (rest l.s l.at)).val);
}
