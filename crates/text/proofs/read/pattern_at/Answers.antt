-- Sixteen digits: at each turn those from `at + i` on, after those that make `v`, give what all give at `at`.
-- Assumes nothing.
use Rattle.std.proofs.Common.{◌≡◌, ◌+◌, ◌*◌, ◌<◌, sym, ◌∙◌, add-zero, arith}
use Rattle.text.specs.Text.{rest}
use Rattle.text.proofs.Steps.{pattern_room, pattern_word, pattern-turn, pattern-done, hexes_first, length-sixteen, byte-of_sixteen}
use Rattle.text.proofs.read.pattern_at.Goals as goal

pub overflow_mul-v : goal.overflow_mul-v
overflow_mul-v c =
    let l = c.loop-b in
    let i : l.b-index < 16 = omega (arith, length-sixteen c.args.s.now c.args.at c.requires.0) in
    omega (
      arith,
      pattern_word (l.b-index + 1) {v = l.v * 16 + 0} (omega arith)
          (pattern_room l.b-index l.invariant.small (omega arith)),
    )

pub digit_of-requires : goal.digit_of-requires
digit_of-requires c =
    let s = c.args.s.now in
    let l = c.loop-b in
    let i : l.b-index < 16 = omega (arith, length-sixteen s c.args.at c.requires.0) in
    rw (byte-of_sixteen s c.args.at c.requires.0 l.b-index i)
    (hexes_first s c.args.at l.b-index i (omega arith) l.invariant.digits).0

pub overflow_add-v : goal.overflow_add-v
overflow_add-v c =
    let s = c.args.s.now in
    let l = c.loop-b in
    let i : l.b-index < 16 = omega (arith, length-sixteen s c.args.at c.requires.0) in
    let d = (hexes_first s c.args.at l.b-index i (omega arith) l.invariant.digits).0 in
    let e = pattern_word (l.b-index + 1) (omega arith) (pattern_room l.b-index l.invariant.small d) in
    rw (c.digit_of.ensures, byte-of_sixteen s c.args.at c.requires.0 l.b-index i) (omega (arith, e))

pub loop-b-preserved : goal.loop-b-preserved
loop-b-preserved c =
    let s = c.args.s.now in
    let l = c.loop-b in
    let i : l.b-index < 16 = omega (arith, length-sixteen s c.args.at c.requires.0) in
    let h = hexes_first s c.args.at l.b-index i (omega arith) l.invariant.digits in
    let e = c.digit_of.ensures in
    let f = byte-of_sixteen s c.args.at c.requires.0 l.b-index i in
    record {
      small = rw (e, f) (pattern_room l.b-index l.invariant.small h.0);
      digits = h.1;
      same = rw (e, f)
          (sym (pattern-turn s c.args.at l.b-index i (omega arith) l.v h.0) ∙ l.invariant.same);
    }

pub loop-b-init : goal.loop-b-init
loop-b-init c = record { small = omega arith; digits = rw add-zero c.requires.1; same = rw add-zero }

pub returns : goal.returns
returns c =
    let a = c.args in
    let l = c.loop-b in
    let e : l.b-index ≡ 16 = omega (arith, length-sixteen a.s.now a.at c.requires.0) in
    sym (pattern-done l.v (rest a.s.now (a.at + 16))) ∙ (rw e at l.invariant.same)
