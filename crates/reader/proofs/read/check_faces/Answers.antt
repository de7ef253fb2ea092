-- At each turn the lines that are left say what all of them say. Assumes nothing.
use Rattle.std.proofs.Common.{◌+◌, ◌-◌, ◌&&◌, List, ◌∷◌, get_or, sym, ap, ◌∙◌}
use Rattle.mesh.specs.Checks.{all_below}
use Rattle.text.specs.Text.{rest, Got}
use Rattle.text.specs.Form.{Vals}
use Rattle.text.specs.TextLaws.{rest_out}
use Rattle.script.specs.Lines.{face_line}
use Rattle.reader.specs.ReadOf.{lines_from, corners_in}
use Rattle.reader.specs.ReadLaws.{from_lost, from_next, from-none}
use Rattle.reader.proofs.Turns.{three-below, none_below}
use Rattle.reader.proofs.read.check_faces.Goals as goal

pub returns-then-k-s-clause-at_value : goal.returns-then-k-s-clause-at_value
returns-then-k-s-clause-at_value c =
    let s = c.args.s.now in
    let l = c.loop-i in
    let p = c.read_face-face in
    let m = c.args.n - (l.i + 1) in
    rest_out s p.result.at c.if-k-s.true
    ∙ sym (from_lost face_line m)
    ∙ (λ j. (lines_from face_line m (sym (rest_out s p.result.at c.if-k-s.true) j)).text)
    ∙ sym (ap (λ (g : Got (List (Vals face_line))). g.text)
    (from_next face_line c.args.n l.i (rest s l.k) (rest s p.result.at) c.loop-i-test.true (λ j. (p.ensures j).text)))
    ∙ l.invariant.text

pub loop-i-preserved : goal.loop-i-preserved
loop-i-preserved c =
    let s = c.args.s.now in
    let v = c.args.v in
    let l = c.loop-i in
    let p = c.read_face-face in
    let e = from_next face_line c.args.n l.i (rest s l.k) (rest s p.result.at) c.loop-i-test.true
    (λ j. (p.ensures j).text) in
    let ks = corners_in (lines_from face_line (c.args.n - (l.i + 1)) (rest s p.result.at)).val in
    let xs = p.result.value in
    record {
      text = sym (ap (λ (g : Got (List (Vals face_line))). g.text) e) ∙ l.invariant.text;
      below = three-below v (get_or xs 0 0) (get_or xs 1 0) (get_or xs 2 0) l.below ks
          ∙ (λ j. let ys = (p.ensures j).val in
          l.below && all_below v (get_or ys 0 0 ∷ get_or ys 1 0 ∷ get_or ys 2 0 ∷ ks))
          ∙ (λ j. l.below && all_below v (corners_in (sym e j).val))
          ∙ l.invariant.below;
    }

pub returns : goal.returns
returns c =
    let l = c.loop-i in
    let e = from-none face_line c.args.n l.i (rest c.args.s.now l.k) c.loop-i-test.false in
    record {
      at_value = sym (ap (λ (g : Got (List (Vals face_line))). g.text) e) ∙ l.invariant.text;
      below_value = λ h.
          sym (none_below c.args.v l.below)
          ∙ (λ j. l.below && all_below c.args.v (corners_in (sym e j).val))
          ∙ l.invariant.below;
    }
