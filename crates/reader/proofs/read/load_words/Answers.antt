-- Counts, zeros, corners. Assumes nothing.
use mathlib.Core.Path.{refl, ◌∙◌}
use mathlib.Core.List.{[], ◌∷◌}
use native.Mathlib.Omega.{arith}
use lib.ListN.{replicate, length-set}
use Rattle.layout.specs.RunLaws.{laid, sets-write}
use Rattle.text.specs.Text.{rest}
use Rattle.script.specs.Lines.{face_line}
use Rattle.reader.specs.ReadOf.{lines_from, corners_in}
use Rattle.reader.specs.ReadLaws.{corners_count}
use Rattle.reader.proofs.read.load_words.Goals as goal

pub returns : goal.returns
returns c =
    let a = c.args in
    let z = c.fill in
    let l = c.load_faces in
    let t = rest a.s.now a.at in
    let xs = corners_in (lines_from face_line a.faces t).val in record {
      result_value = l.ensures.result_value;
      words_after = l.ensures.words_after
          ∙ sets-write xs z.new.run 130 (omega (arith, corners_count a.faces t, simp length-set at z.auto.run))
          ∙ rw (z.ensures, sets-write (a.verts ∷ a.faces ∷ []) a.words.now 0 (omega arith))
          (laid a.words.now (a.verts ∷ a.faces ∷ []) (replicate 128 0) xs 130 refl
          (omega (arith, corners_count a.faces t)));
    }

pub bounds-words-1 : goal.bounds-words-1
bounds-words-1 c = simp length-set (omega arith)

pub fill-requires : goal.fill-requires
fill-requires c = simp length-set (omega arith)

pub load_faces-requires : goal.load_faces-requires
load_faces-requires c = omega (arith, simp length-set at c.fill.auto.run)

pub shape_of-words : goal.shape_of-words
shape_of-words c = omega (arith, simp length-set at c.fill.auto.run)
