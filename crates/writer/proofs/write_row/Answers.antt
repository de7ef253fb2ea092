-- The line of a filled place, nothing for an empty one. Assumes nothing.
use mathlib.Core.Path.{sym, ap, subst, ◌∙◌}
use mathlib.Core.List.{List}
use Prim.Native.Nat.{ℕ}
use native.Mathlib.Omega.{arith}
use Rattle.text.specs.Print.{Wrote}
use Rattle.text.specs.Form.{print}
use Rattle.layout.specs.Layout.{width, layer_of}
use Rattle.script.specs.Lines.{put_line}
use Rattle.script.specs.LineLaws.{row_empty, row_filled, row_bytes}
use Rattle.script.specs.LineLaws.{wrote_none}
use Rattle.writer.proofs.write_row.Goals as goal

pub returns-then-words-i-eq0 : goal.returns-then-words-i-eq0
returns-then-words-i-eq0 c =
    let a = c.args in
    wrote_none a.at (row_empty width a.floats.now a.words.now a.i c.if-words-i-eq0.true)

pub write_put-requires : goal.write_put-requires
write_put-requires c =
    let a = c.args in
    let filled = c.if-words-i-eq0.false in
    omega (arith, c.requires.0, row_bytes width a.floats.now a.words.now a.i filled)

pub returns : goal.returns
returns c =
    let a = c.args in
    let w = c.write_put in
    subst (λ (t : List ℕ). Wrote a.out.now a.at t w.result w.new.out)
    (ap (print put_line) (c.kept_at.ensures (layer_of width a.words.now a.i))
    ∙ sym (row_filled width a.floats.now a.words.now a.i c.if-words-i-eq0.false))
    w.ensures.wrote
