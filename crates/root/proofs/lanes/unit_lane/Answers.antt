-- `root::lanes::unit_lane` meets its contract. Assumes nothing.
use Rattle.std.proofs.Common.{ℕ, ◌+◌, ◌^◌, ◌<◌, T, sym, subst, arith, lit<}
use Rattle.base.specs.FloatLaws.{no_nan-below, positive_no_nan}
use Rattle.base.specs.RangeLaws.{within_positive}
use Rattle.root.proofs.Checks.{near-enough}
use Rattle.root.proofs.Patterns.{unit_bits, unit_within, unit_root}
use Rattle.root.proofs.lanes.unit_lane.Goals as goal

pub returns : goal.returns
returns c =
    let g = c.digits in
    let a = c.check-a in
    let w = c.wrapping_add_u64 in
    let e = c.check-a.ensures.bound in (
      unit_within a.result.digits e.0 e.1,
      λ y z.
          let k = near-enough g.result a.result.rest a.result.short g.ensures.0 g.ensures.1 e.2
          e.3 e.4 (subst (λ (n : ℕ). n < 2 ^ 54) w.ensures.value z) in
          unit_root c.args.f a.result.digits (subst T (sym c.well_formed.0.1) tt) c.requires
          (a.ensures.rounded y k.0 k.1),
    )

pub float_to_bits-d : goal.float_to_bits-d
float_to_bits-d c = positive_no_nan c.args.f (within_positive 1 2 c.args.f (lit< tt) c.requires)

pub overflow_sub-d : goal.overflow_sub-d
overflow_sub-d c = omega (arith, unit_bits c.args.f (subst T (sym c.well_formed.0.1) tt) c.requires)

pub float_from_bits-result : goal.float_from_bits-result
float_from_bits-result c =
    no_nan-below (4602678819172646912 + c.check-a.result.digits)
    (omega (arith, c.check-a.ensures.bound.1))
