-- At each turn the lines that are left, once stored, make the run that all make. Assumes nothing.
use Rattle.std.proofs.Common.{◌≡◌, ◌+◌, ◌*◌, ◌-◌, ◌≤◌, ◌++◌, List, length, sym, ap, ◌∙◌, arith}
use Rattle.std.proofs.lemmas.List.Edits.{sets}
use Rattle.text.specs.Text.{rest, Got}
use Rattle.text.specs.Form.{Vals}
use Rattle.script.specs.Lines.{face_line}
use Rattle.reader.specs.ReadOf.{lines_from, corners_in}
use Rattle.reader.specs.ReadLaws.{from_next, from-none}
use Rattle.reader.proofs.Turns.{stored}
use Rattle.reader.proofs.read.load_faces.Goals as goal

pub loop-i-preserved : goal.loop-i-preserved
loop-i-preserved c =
    let s = c.args.s.now in
    let l = c.loop-i in
    let p = c.read_face-face in
    let e = from_next face_line c.args.n l.i (rest s l.k) (rest s p.result.at) c.loop-i-test.true
    (λ j. (p.ensures j).text) in
    let at = 130 + 3 * l.i in
    let three : length p.result.value ≡ 3 = λ j. length (p.ensures j).val in
    let more = corners_in (lines_from face_line (c.args.n - (l.i + 1)) (rest s p.result.at)).val in
    let room : at + 3 ≤ length l.words = omega (arith, l.auto.words, c.requires) in
    record {
      text = sym (ap (λ (g : Got (List (Vals face_line))). g.text) e) ∙ l.invariant.text;
      stored = rw c.copy_from_slice.ensures.after
          (stored l.words p.result.value more at (130 + 3 * (l.i + 1)) three room (omega arith)
          ∙ (λ j. sets l.words at ((p.ensures j).val ++ more))
          ∙ (λ j. sets l.words at (corners_in (sym e j).val))
          ∙ l.invariant.stored);
    }

pub returns : goal.returns
returns c =
    let l = c.loop-i in
    let e = from-none face_line c.args.n l.i (rest c.args.s.now l.k) c.loop-i-test.false in
    record {
      result_value = sym (ap (λ (g : Got (List (Vals face_line))). g.text) e) ∙ l.invariant.text;
      words_after = (λ j. sets l.words (130 + 3 * l.i) (corners_in (sym e j).val)) ∙ l.invariant.stored;
    }
