-- `powers::exp::pow2` meets its contract. Assumes nothing.
use Rattle.std.proofs.Common.{◌≡◌, ◌+ℤ◌, pos, arith, rules, of_z, to_z, w64}
use Rattle.base.specs.FloatLaws.{no_nan-below}
use Rattle.std.proofs.lemmas.Int.{ints}
use Rattle.powers.proofs.Patterns.{pow_at, abs_is}
use Rattle.powers.proofs.exp.pow2.Goals as goal

pub float_from_bits-result : goal.float_from_bits-result
float_from_bits-result c = no_nan-below _ (search rules)

pub returns : goal.returns
returns c =
    let s : to_z w64 (of_z w64 (to_z w64 (of_z w64 c.args.c) +ℤ pos 1023)) ≡ c.args.c +ℤ pos 1023 = omega (arith, ints) in
    pow_at c.args.c _ (rw s (abs_is (c.args.c +ℤ pos 1023) (omega (arith, ints)))) c.requires.0 c.requires.1
