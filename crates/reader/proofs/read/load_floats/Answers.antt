-- Radius, zeros, coordinates. Assumes nothing.
use mathlib.Core.Path.{refl, ◌∙◌}
use mathlib.Core.List.{[], ◌∷◌}
use native.Mathlib.Omega.{arith}
use lib.ListN.{replicate, length-set}
use Rattle.base.specs.Floats.{+0}
use Rattle.layout.specs.RunLaws.{laid, sets-write}
use Rattle.text.specs.Text.{rest}
use Rattle.script.specs.Lines.{vert_line}
use Rattle.reader.specs.ReadOf.{lines_from, coords_in}
use Rattle.reader.specs.ReadLaws.{coords_count}
use Rattle.reader.proofs.read.load_floats.Goals as goal

pub returns : goal.returns
returns c =
    let a = c.args in
    let z = c.fill in
    let l = c.load_verts in
    let t = rest a.s.now a.at in
    let xs = coords_in (lines_from vert_line a.n t).val in record {
      result_value = l.ensures.result_value;
      floats_after = l.ensures.floats_after
          ∙ sets-write xs z.new.run 1761 (omega (arith, coords_count a.n t, simp length-set at z.auto.run))
          ∙ rw (z.ensures, sets-write (a.radius ∷ []) a.floats.now 0 (omega arith))
          (laid a.floats.now (a.radius ∷ []) (replicate 1760 +0) xs 1761 refl
          (omega (arith, coords_count a.n t)));
    }

pub fill-requires : goal.fill-requires
fill-requires c = simp length-set (omega arith)

pub load_verts-requires : goal.load_verts-requires
load_verts-requires c = omega (arith, simp length-set at c.fill.auto.run)

pub shape_of-floats : goal.shape_of-floats
shape_of-floats c = omega (arith, simp length-set at c.fill.auto.run)
