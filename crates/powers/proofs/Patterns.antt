-- The powers of two by their patterns, a field and no digits. Assumes nothing.
use Rattle.std.proofs.Common.{◌≡◌, ℕ, ℤ, ◌+ℤ◌, ◌≤ℤ◌, suc, ◌+◌, ◌-◌, ◌*◌, ◌/◌, ◌%◌, ◌^◌, ◌<◌, ◌≤◌, false, pos, negsuc, ◌∙◌, arith, ne_eqb, le-leb, refl, ap}
use Rattle.std.proofs.lemmas.Int.{ints}
use lib.IntN.{nat_abs}
use borrow.Author.Tests.{lt-leb}
use lib.Ieee.{fin, binary64, minus, odd, of_fields, of_bits}
use Rattle.base.specs.UnitLaws.{clear}

field_alone : (x : ℕ) → x < 2046 → of_bits binary64 (suc x * 2 ^ 52) ≡ fin false 1 (minus (x + 52) 1074)
unfolding of_fields odd
field_alone x h =
    let b = suc x * 2 ^ 52 in
    let field : b / 2 ^ 52 ≡ suc x = omega arith in
    let digits : b % 2 ^ 52 ≡ 0 = omega arith in
    let finite : suc x ≡ 2047 → ⊥ = λ e. omega arith in
    clear b (omega arith) ∙ rw (field, digits, ne_eqb (suc x) 2047 finite)

pub pow_up : (c : ℕ) → c ≤ 1023 → of_bits binary64 ((c + 1023) * 2 ^ 52 % 2 ^ 64) ≡ fin false 1 (pos c)
pow_up c h =
    let e : (c + 1023) * 2 ^ 52 % 2 ^ 64 ≡ suc (c + 1022) * 2 ^ 52 = omega arith in
    let l : 1074 ≤ c + 1022 + 52 = omega arith in
    let d : c + 1022 + 52 - 1074 ≡ c = omega arith in
    rw (e, field_alone (c + 1022) (omega arith), le-leb 1074 (c + 1022 + 52) l, d)

pub pow_down : (c : ℕ) → 1 ≤ c → c ≤ 1022
    → of_bits binary64 ((1023 - c) * 2 ^ 52 % 2 ^ 64) ≡ fin false 1 (negsuc (c - 1))
pow_down c l h =
    let e : (1023 - c) * 2 ^ 52 % 2 ^ 64 ≡ suc (1022 - c) * 2 ^ 52 = omega arith in
    let lt : 1022 - c + 52 < 1074 = omega arith in
    let d : 1074 - suc (1022 - c + 52) ≡ c - 1 = omega arith in
    rw (e, field_alone (1022 - c) (omega arith), lt-leb 1074 (1022 - c + 52) lt, d)

-- either, by a whole number c
pub pow_at : (c : ℤ) (b : ℕ) → pos b ≡ c +ℤ pos 1023 → negsuc 1021 ≤ℤ c → c ≤ℤ pos 1023
    → of_bits binary64 (b * 2 ^ 52 % 2 ^ 64) ≡ fin false 1 c
pow_at (pos n) b e l h =
    let k : b ≡ n + 1023 = omega (arith, ints) in
    rw k (pow_up n (omega (arith, ints)))
pow_at (negsuc n) b e l h =
    let k : b ≡ 1023 - (n + 1) = omega (arith, ints) in
    let t : negsuc (n + 1 - 1) ≡ negsuc n = ap negsuc (omega arith) in
    rw (k, pow_down (n + 1) (omega arith) (omega (arith, ints)), t)

pub abs_is : (z : ℤ) → pos 0 ≤ℤ z → pos (nat_abs z) ≡ z
abs_is (pos n) h = refl
abs_is (negsuc n) h = absurd (omega (arith, ints))
