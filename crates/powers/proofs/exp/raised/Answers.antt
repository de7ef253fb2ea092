-- `powers::exp::raised` meets its contract. Assumes nothing.
use Rattle.std.proofs.Common.{◌≡◌, ◌+◌, true, false, pos, arith}
use lib.Ieee.{binary64, lt, of_int, to_unsigned}
use Rattle.powers.specs.Exp.{raised}
use Rattle.powers.proofs.Wholes.{small, above-minus, below_top, whole_part, raised-more, raised-same, raised-above, raised-most}
use Rattle.powers.proofs.exp.raised.Goals as goal

pub truncating_f64_to_u64-t-requires : goal.truncating_f64_to_u64-t-requires
truncating_f64_to_u64-t-requires c =
    let k = small c.args.x c.requires.fact_1 c.requires.fact_2 in
    record { lower_bound = above-minus c.args.x k; upper_bound = below_top c.args.x k }

pub overflow_add-result : goal.overflow_add-result
overflow_add-result c =
    omega (
      arith,
      c.truncating_f64_to_u64-t.ensures,
      whole_part c.args.x (small c.args.x c.requires.fact_1 c.requires.fact_2),
    )

pub returns-then-nearest_u64_to_f64-x : goal.returns-then-nearest_u64_to_f64-x
returns-then-nearest_u64_to_f64-x c =
    let x = c.args.x in
    let k = small x c.requires.fact_1 c.requires.fact_2 in
    let t = c.truncating_f64_to_u64-t in
    let e : lt (of_int binary64 (pos (to_unsigned 64 x))) x ≡ true
    = rw (← t.ensures, ← c.nearest_u64_to_f64.ensures) c.if-nearest_u64_to_f64-x.true in
    let r : t.result + 1 ≡ raised x = rw t.ensures (raised-more x k e) in
    (r, rw r (raised-above x k), rw r (raised-most x k))

pub returns-else-nearest_u64_to_f64-x : goal.returns-else-nearest_u64_to_f64-x
returns-else-nearest_u64_to_f64-x c =
    let x = c.args.x in
    let k = small x c.requires.fact_1 c.requires.fact_2 in
    let t = c.truncating_f64_to_u64-t in
    let e : lt (of_int binary64 (pos (to_unsigned 64 x))) x ≡ false
    = rw (← t.ensures, ← c.nearest_u64_to_f64.ensures) c.if-nearest_u64_to_f64-x.false in
    let r : t.result ≡ raised x = rw t.ensures (raised-same x k e) in
    (r, rw r (raised-above x k), rw r (raised-most x k))
