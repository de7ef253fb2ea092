-- `powers::power::ten_whole` meets its contract. Assumes nothing.
use Rattle.std.proofs.Common.{◌≡◌, false, refl, ◌∙◌}
use Rattle.powers.specs.Power.{small_whole, ten_to}
use Rattle.powers.proofs.SmallWholes.{cut_of, not-small, tested}
use Rattle.powers.proofs.power.ten_whole.Goals as goal
use Rattle.powers.proofs.power.ten_whole.Goals.{then-size+else-size-nearest_u64_to_f64, else-size}

pub truncating_f64_to_u64-k-requires : goal.truncating_f64_to_u64-k-requires
truncating_f64_to_u64-k-requires c =
    let k = cut_of c.args.y (rw (← c.abs-size.ensures) c.if-size.true) in
    rw c.abs-size.ensures (record { lower_bound = k.above; upper_bound = k.below })

pub whole_ten-p-requires : goal.whole_ten-p-requires
whole_ten-p-requires c =
    let y = c.args.y in
    let a = c.abs-size.ensures in
    let t = tested y _ _ _ a c.truncating_f64_to_u64-k.ensures
    c.nearest_u64_to_f64.ensures c.if-size.true in
    rw t.0 (cut_of y (rw (← a) c.if-size.true)).few

pub returns-then-y : goal.returns-then-y
unfolding ten_to
returns-then-y c =
    let t = tested c.args.y _ _ _ c.abs-size.ensures
    c.truncating_f64_to_u64-k.ensures c.nearest_u64_to_f64.ensures c.if-size.true in
    rw (t.1, c.if-size-nearest_u64_to_f64.true, c.if-y.true, ← t.0, c.whole_ten-p.ensures) refl

pub returns-else-y : goal.returns-else-y
unfolding ten_to
returns-else-y c =
    let t = tested c.args.y _ _ _ c.abs-size.ensures
    c.truncating_f64_to_u64-k.ensures c.nearest_u64_to_f64.ensures c.if-size.true in
    rw (t.1, c.if-size-nearest_u64_to_f64.true, c.if-y.false, ← t.0) c.whole_ten-p.ensures

pub returns : goal.returns
unfolding ten_to
returns c =
    let e : small_whole c.args.y ≡ false = elim c.if-size.branch [
      | then-size+else-size-nearest_u64_to_f64 w ↦ (tested c.args.y _ _ _ c.abs-size.ensures
          w.truncating_f64_to_u64-k.ensures w.nearest_u64_to_f64.ensures w.if-size.true).1
          ∙ w.if-size-nearest_u64_to_f64.false
      | else-size w ↦ not-small c.args.y (rw (← c.abs-size.ensures) w.if-size.false)
    ] in
    rw e c.ten_steps.ensures
