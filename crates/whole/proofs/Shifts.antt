-- A number shifted right and rounded, as the code's shifts and masks have it. Assumes nothing.
use mathlib.Core.Path.{◌≡◌, ◌∙◌}
use Prim.Native.Nat.{ℕ, ◌+◌, ◌-◌, ◌*◌, ◌/◌, ◌%◌, ◌^◌, ◌≤◌, ◌<◌}
use native.Mathlib.Nat.{one-mul, mod-lt}
use native.Mathlib.Omega.{arith}
use lib.Dec.{lit<}
use lib.Pow.{pow_pos, pow_mono, shl_exact, shr_le}
use lib.Bits.{bit_and, and_mask}
use borrow.Author.Tests.{lt-ltb, le-ltb}
use Rattle.whole.specs.Whole.{nearest}

module _ (sig k : ℕ) (small : sig < 2 ^ 53) (few : k ≤ 53) where
  pub unit : 1 * 2 ^ k % 2 ^ 64 ≡ 2 ^ k
  unit = shl_exact 1 k 64 (lit< tt) (omega arith) ∙ one-mul (2 ^ k)

  pub rest : bit_and sig (1 * 2 ^ k % 2 ^ 64 - 1) ≡ sig % 2 ^ k
  rest = rw unit (and_mask sig k)

  -- what keeps the code's numbers in 64 bits
  pub some : 1 ≤ 1 * 2 ^ k % 2 ^ 64
  some = rw unit (pow_pos k)

  pub rest-small : bit_and sig (1 * 2 ^ k % 2 ^ 64 - 1) < 2 ^ 53
  rest-small = rw rest (native.Mathlib.Nat.lt_of_lt_of_le (mod-lt sig (pow_pos k)) (pow_mono few))

  pub quotient-small : sig / 2 ^ k < 2 ^ 53
  quotient-small = omega (arith, shr_le sig k)

  pub down : 2 * bit_and sig (1 * 2 ^ k % 2 ^ 64 - 1) < 1 * 2 ^ k % 2 ^ 64 → sig / 2 ^ k ≡ nearest sig (2 ^ k)
  unfolding nearest
  down h = let g : 2 * (sig % 2 ^ k) < 2 ^ k = rw (rest, unit) at h in rw (lt-ltb _ _ g)

  pub up : 1 * 2 ^ k % 2 ^ 64 < 2 * bit_and sig (1 * 2 ^ k % 2 ^ 64 - 1) → sig / 2 ^ k + 1 ≡ nearest sig (2 ^ k)
  unfolding nearest
  up h =
      let g : 2 ^ k < 2 * (sig % 2 ^ k) = rw (rest, unit) at h in
      rw (le-ltb (2 * (sig % 2 ^ k)) (2 ^ k) (omega arith), lt-ltb _ _ g)

  pub tie : 2 * bit_and sig (1 * 2 ^ k % 2 ^ 64 - 1) ≡ 1 * 2 ^ k % 2 ^ 64
      → sig / 2 ^ k + sig / 2 ^ k % 2 ≡ nearest sig (2 ^ k)
  unfolding nearest
  tie h =
      let g : 2 * (sig % 2 ^ k) ≡ 2 ^ k = rw (rest, unit) at h in
      rw (le-ltb (2 * (sig % 2 ^ k)) (2 ^ k) (omega arith), le-ltb (2 ^ k) (2 * (sig % 2 ^ k)) (omega arith))
