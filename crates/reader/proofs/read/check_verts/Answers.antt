-- At each turn the lines that are left end where all end. Assumes nothing.
use Rattle.std.proofs.Common.{◌+◌, ◌-◌, List, sym, ap, ◌∙◌}
use Rattle.text.specs.Text.{rest, Got}
use Rattle.text.specs.Form.{Vals}
use Rattle.text.specs.TextLaws.{rest_out}
use Rattle.script.specs.Lines.{vert_line}
use Rattle.reader.specs.ReadOf.{lines_from}
use Rattle.reader.specs.ReadLaws.{from_lost, from_next, from-none}
use Rattle.reader.proofs.read.check_verts.Goals as goal

pub returns-then-k-s : goal.returns-then-k-s
returns-then-k-s c =
    let s = c.args.s.now in
    let l = c.loop-i in
    let p = c.skip_vert-k in
    let m = c.args.n - (l.i + 1) in
    rest_out s p.result c.if-k-s.true
    ∙ sym (from_lost vert_line m)
    ∙ (λ j. (lines_from vert_line m (sym (rest_out s p.result c.if-k-s.true) j)).text)
    ∙ sym (ap (λ (g : Got (List (Vals vert_line))). g.text)
    (from_next vert_line c.args.n l.i (rest s l.k) (rest s p.result) c.loop-i-test.true p.ensures))
    ∙ l.invariant

pub loop-i-preserved : goal.loop-i-preserved
loop-i-preserved c =
    let s = c.args.s.now in
    let l = c.loop-i in
    let p = c.skip_vert-k in
    sym (ap (λ (g : Got (List (Vals vert_line))). g.text)
    (from_next vert_line c.args.n l.i (rest s l.k) (rest s p.result) c.loop-i-test.true p.ensures))
    ∙ l.invariant

pub returns : goal.returns
returns c =
    let l = c.loop-i in
    sym (ap (λ (g : Got (List (Vals vert_line))). g.text)
    (from-none vert_line c.args.n l.i (rest c.args.s.now l.k) c.loop-i-test.false))
    ∙ l.invariant
