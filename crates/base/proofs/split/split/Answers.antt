use mathlib.Core.Path.{◌≡◌}
use Prim.Native.Nat.{ℕ, ◌/◌, ◌%◌, ◌^◌, ◌≤◌, ◌<◌}
use native.Mathlib.Omega.{arith}
use lib.Bits.{bit_and, and_mask}
use lib.Count.{count_leading_zeros}
use Rattle.base.proofs.Splits.{zeros-from, low-digits, split-low, split-high}
use Rattle.base.proofs.split.split.Goals as goal

masked : (b : ℕ) → bit_and b 4503599627370495 ≡ b % 2 ^ 52
masked b = and_mask b 52

zeros : (b : ℕ)
    → 0 < b
    → b / 2 ^ 52 ≡ 0
    → (11 ≤ count_leading_zeros 64 (bit_and b 4503599627370495))
    × (count_leading_zeros 64 (bit_and b 4503599627370495) ≤ 63)
zeros b p e = let d = low-digits b p e in rw masked (zeros-from (b % 2 ^ 52) d.0 d.1)

pub overflow_cast-up : goal.overflow_cast-up
overflow_cast-up c = omega (arith, zeros c.args.b c.requires.0 c.if-field-eq0.true)

pub overflow_sub-up : goal.overflow_sub-up
overflow_sub-up c = omega (arith, zeros c.args.b c.requires.0 c.if-field-eq0.true)

pub overflow_shl-result : goal.overflow_shl-result
overflow_shl-result c = omega (arith, zeros c.args.b c.requires.0 c.if-field-eq0.true)

pub overflow_sub-result : goal.overflow_sub-result
overflow_sub-result c = omega (arith, zeros c.args.b c.requires.0 c.if-field-eq0.true)

pub returns-then-field-eq0 : goal.returns-then-field-eq0
returns-then-field-eq0 c = rw masked (split-low c.args.b c.requires.0 c.if-field-eq0.true)

pub returns-else-field-eq0 : goal.returns-else-field-eq0
returns-else-field-eq0 c = rw masked (split-high c.args.b c.requires.1 c.if-field-eq0.false)
