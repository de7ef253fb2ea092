-- Sixteen digits looked at: the flag and those from `at + i` on say what all say at `at`. Assumes nothing.
use Rattle.std.proofs.Common.{◌≡◌, ◌+◌, ◌-◌, ◌<◌, ◌≤◌, ◌&&◌, Bool, length, sym, ap, ◌∙◌, add-zero, arith}
use mathlib.Core.Bool.{and-true, and_assoc}
use Rattle.text.specs.Text.{rest}
use Rattle.text.specs.TextLaws.{hexes}
use Rattle.text.proofs.Steps.{hexes-few, hexes-turn, hexes-done, length-sixteen, byte-of_sixteen}
use Rattle.text.proofs.read.has_pattern.Goals as goal

pub returns-then-at-s : goal.returns-then-at-s
returns-then-at-s c = sym (hexes-few c.args.s.now 15 c.args.at (omega arith))

pub loop-b-init : goal.loop-b-init
loop-b-init c = rw add-zero

pub loop-b-preserved : goal.loop-b-preserved
loop-b-preserved c =
    let a = c.args in
    let l = c.loop-b in
    let room : a.at + 16 ≤ length a.s.now = omega arith in
    let i : l.b-index < 16 = omega (arith, length-sixteen a.s.now a.at room) in
    let k = hexes (16 - (l.b-index + 1)) (rest a.s.now (a.at + (l.b-index + 1))) in
    rw (c.is_digit-all.ensures, byte-of_sixteen a.s.now a.at room l.b-index i)
    (and_assoc l.all _ k
    ∙ sym (ap (λ (x : Bool). l.all && x) (hexes-turn a.s.now a.at l.b-index i (omega arith)))
    ∙ l.invariant)

pub returns : goal.returns
returns c =
    let a = c.args in
    let l = c.loop-b in
    let e : l.b-index ≡ 16 = omega (arith, length-sixteen a.s.now a.at (omega arith)) in
    sym (and-true l.all) ∙ (rw (e, hexes-done (rest a.s.now (a.at + 16))) at l.invariant)
