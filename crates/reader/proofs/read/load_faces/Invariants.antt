use Rattle.std.proofs.Common.{◌≡◌, ◌+◌, ◌*◌, ◌-◌}
use Rattle.std.proofs.lemmas.List.Edits.{sets}
use Rattle.text.specs.Text.{rest}
use Rattle.script.specs.Lines.{face_line}
use Rattle.reader.specs.ReadOf.{lines_from, corners_in}
use Rattle.reader.proofs.read.load_faces.Given as goal

abbrev pub invariant-loop-i : goal.invariant-loop-i
invariant-loop-i l = record {
  text : (lines_from face_line (l.n - l.i) (rest l.s l.k)).text ≡ (lines_from face_line l.n (rest l.s l.at)).text;
  stored : sets l.words (130 + 3 * l.i) (corners_in (lines_from face_line (l.n - l.i) (rest l.s l.k)).val)
      ≡ sets l.initial.words 130 (corners_in (lines_from face_line l.n (rest l.s l.at)).val);
}
