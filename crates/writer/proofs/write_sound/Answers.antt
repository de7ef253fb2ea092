-- Too few bytes, or the lines. Assumes nothing.
use mathlib.Core.Path.{sym, ◌∙◌}
use native.Mathlib.Omega.{arith}
use lib.ListN.{length}
use borrow.Author.Tests.{leb-true, leb-false}
use Rattle.layout.specs.Layout.{width}
use Rattle.script.specs.Written.{written}
use Rattle.script.specs.LineLaws.{too_few, enough}
use Rattle.writer.proofs.write_sound.Goals as goal

pub returns-then-not-has_room : goal.returns-then-not-has_room
returns-then-not-has_room c =
    let a = c.args in
    let h = c.has_room in
    let t = written width a.floats.now a.words.now in
    too_few t a.out.now
    (leb-false (length t) (length a.out.now)
    (sym (h.ensures a.floats.now c.requires) ∙ c.if-not-has_room.true))

pub write_lines-n-requires : goal.write_lines-n-requires
write_lines-n-requires c =
    let a = c.args in
    let h = c.has_room in
    let t = written width a.floats.now a.words.now in (
      leb-true (length t) (length a.out.now)
          (sym (h.ensures a.floats.now c.requires) ∙ c.if-not-has_room.false),
      c.requires.mesh.floats,
      c.requires.mesh.words,
    )

pub returns : goal.returns
returns c =
    let a = c.args in
    let h = c.has_room in
    let w = c.write_lines-n.ensures in
    let t = written width a.floats.now a.words.now in
    let l = leb-true (length t) (length a.out.now)
    (sym (h.ensures a.floats.now c.requires) ∙ c.if-not-has_room.false) in
    enough t a.out.now w.value (omega (arith, w.value, l)) w.out_after
