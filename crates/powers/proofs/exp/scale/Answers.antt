-- `powers::exp::scale` meets its contract: by one product, or two of which the first is exact. Assumes nothing.
use Rattle.std.proofs.Common.{◌≡◌, ◌<ℤ◌, false, pos, negsuc, refl, arith, rules, to_z, of_z, w64}
use Rattle.std.proofs.lemmas.Int.{ints}
use lib.Ieee.{fin, binary64, of_bits}
use Rattle.powers.proofs.Scalings.{mul_pow, at_top, too_small, in_two}
use Rattle.powers.proofs.exp.scale.Goals as goal

pub returns-then-c-gt1023 : goal.returns-then-c-gt1023
unfolding of_bits
returns-then-c-gt1023 c =
    let two : of_bits binary64 4611686018427387904 ≡ fin false 1 (pos 1) = refl in
    let l : pos 1023 <ℤ c.args.c = grind (arith, ints) in
    rw (c.pow2.ensures, two, mul_pow, mul_pow) (at_top c.args.a c.args.c (search rules) l c.requires.1)

pub returns-then-c-geminus1022 : goal.returns-then-c-geminus1022
returns-then-c-geminus1022 c =
    let z : to_z w64 (of_z w64 c.args.c) ≡ c.args.c = omega (arith, ints) in
    rw (c.pow2-then-c-geminus1022.ensures, z) (mul_pow _ _)

pub returns-then-abs : goal.returns-then-abs
returns-then-abs c =
    let l : c.args.c <ℤ negsuc 1021 = grind (arith, ints) in
    rw (c.pow2-then-abs.ensures, mul_pow) (too_small c.args.a c.args.c l (rw (← c.abs.ensures) c.if-abs.true))

pub returns : goal.returns
returns c =
    let l : c.args.c <ℤ negsuc 1021 = grind (arith, ints) in
    rw (c.pow2-2.ensures, c.pow2-3.ensures, mul_pow, mul_pow)
    (in_two c.args.a c.args.c _ (search rules) (omega (arith, ints)) c.requires.0 l (rw (← c.abs.ensures) c.if-abs.false))
