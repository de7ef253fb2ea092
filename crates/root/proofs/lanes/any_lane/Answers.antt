-- `root::lanes::any_lane` meets its contract. Assumes nothing.
use Rattle.std.proofs.Common.{ℕ, ◌+◌, ◌*◌, ◌/◌, ◌%◌, ◌^◌, ◌≤◌, T, sym, subst, lt_of_le_of_lt, arith}
use Rattle.base.specs.FloatLaws.{no_nan-below}
use Rattle.root.specs.Flags.{or_most}
use Rattle.root.proofs.Patterns.{any_root}
use Rattle.root.proofs.lanes.any_lane.Goals as goal

-- no pattern that is made is a NaN's
small : (b a : ℕ) → b ≤ 9218868437227405312 → a ≤ 2 ^ 53
    → ((b / 2 ^ 52 + 51) / 2 + 485) * 2 ^ 52 % 2 ^ 64 + a ≤ 9218868437227405312
small b a h k = omega arith

pub returns : goal.returns
returns c y z =
    let u = c.unusual in
    let n = c.apart in
    let a = c.check-a in
    let d = c.doubled in
    let p = c.pattern-b in
    let m = or_most n.result u.result in
    let k = n.ensures (lt_of_le_of_lt m.0 z) in
    any_root c.args.x p.result d.result a.result.digits (subst T (sym c.well_formed.0.1) tt) p.ensures.1
    (u.ensures (lt_of_le_of_lt m.1 z)) d.ensures (a.ensures.rounded y k.0 k.1)

pub float_from_bits-result : goal.float_from_bits-result
float_from_bits-result c =
    no_nan-below (((c.pattern-b.result / 2 ^ 52 + 51) / 2 + 485) * 2 ^ 52 % 2 ^ 64 + c.check-a.result.digits)
    (small c.pattern-b.result c.check-a.result.digits c.pattern-b.ensures.0
    c.check-a.ensures.bound.1)
