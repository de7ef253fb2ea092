use Rattle.std.proofs.Common.{◌≡◌, ◌+◌, ◌*◌, ◌-◌}
use Rattle.std.proofs.lemmas.List.Edits.{sets}
use Rattle.text.specs.Text.{rest}
use Rattle.script.specs.Lines.{vert_line}
use Rattle.reader.specs.ReadOf.{lines_from, coords_in}
use Rattle.reader.proofs.read.load_verts.Given as goal

abbrev pub invariant-loop-i : goal.invariant-loop-i
invariant-loop-i l = record {
  text : (lines_from vert_line (l.n - l.i) (rest l.s l.k)).text ≡ (lines_from vert_line l.n (rest l.s l.at)).text;
  stored : sets l.floats (1761 + 3 * l.i) (coords_in (lines_from vert_line (l.n - l.i) (rest l.s l.k)).val)
      ≡ sets l.initial.floats 1761 (coords_in (lines_from vert_line l.n (rest l.s l.at)).val);
}
