-- The parts, one after the other. Assumes nothing.
use mathlib.Core.Path.{◌∙◌}
use native.Mathlib.Nat.{zero-add}
use native.Mathlib.Omega.{arith}
use Rattle.text.specs.WriteLaws.{then}
use Rattle.layout.specs.Layout.{width}
use Rattle.script.specs.Written.{lines_of}
use Rattle.script.specs.LineLaws.{lines_bytes}
use Rattle.layout.specs.RunLaws.{sets-write}
use Rattle.writer.proofs.write_lines.Goals as goal

pub returns : goal.returns
unfolding lines_of
returns c =
    let a = c.args in
    let w = then c.write_open-a.ensures.wrote
    (then c.write_verts-b.ensures.wrote
    (then c.write_faces-c.ensures
    c.write_puts.ensures)) in record {
      value = w.next ∙ zero-add _;
      out_after = w.run
          ∙ sets-write (lines_of width a.floats.now a.words.now a.verts a.faces) a.out.now 0
          (omega (arith, c.requires.0));
    }

pub write_open-a-requires : goal.write_open-a-requires
write_open-a-requires c =
    let a = c.args in
    omega (arith, c.requires.0, lines_bytes width a.floats.now a.words.now a.verts a.faces)

pub write_verts-b-requires : goal.write_verts-b-requires
write_verts-b-requires c =
    let a = c.args in (
      omega (
        arith,
        c.requires.0,
        c.write_open-a.ensures.value,
        lines_bytes width a.floats.now a.words.now a.verts a.faces,
      ),
      c.requires.1,
    )

pub write_faces-c-requires : goal.write_faces-c-requires
write_faces-c-requires c =
    let a = c.args in (
      omega (
        arith,
        c.requires.0,
        c.write_open-a.ensures.value,
        c.write_verts-b.ensures.value,
        lines_bytes width a.floats.now a.words.now a.verts a.faces,
      ),
      c.requires.2,
    )

pub write_puts-requires : goal.write_puts-requires
write_puts-requires c =
    let a = c.args in (
      omega (
        arith,
        c.requires.0,
        c.write_open-a.ensures.value,
        c.write_verts-b.ensures.value,
        c.write_faces-c.ensures.next,
        lines_bytes width a.floats.now a.words.now a.verts a.faces,
      ),
      omega arith,
      omega arith,
    )
