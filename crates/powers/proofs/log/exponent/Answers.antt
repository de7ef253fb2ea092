-- `powers::log::exponent` meets its contract. Assumes nothing.
use Rattle.std.proofs.Common.{◌≡◌, ℕ, suc, ◌-◌, true, false, ap, ◌∙◌, arith}
use borrow.Author.Tests.{lt-leb}
use lib.Ieee.{binary64, of_int, neg, round}
use Rattle.base.specs.FloatLaws.{round-neg}
use Rattle.powers.proofs.log.exponent.Goals as goal

pub returns-else-place-ge1074 : goal.returns-else-place-ge1074
unfolding of_int
returns-else-place-ge1074 c =
    let p = c.args.place in
    let h : 1074 - p ≡ suc (1074 - suc p) = omega arith in
    rw (lt-leb _ _ c.if-place-ge1074.false)
    (ap neg c.nearest_u64_to_f64-else-place-ge1074.ensures ∙ round-neg false (1074 - p) 1
    ∙ ap (λ (n : ℕ). round binary64 true n 1) h)
