-- The float y + 0.5 lies from -1080 to 1024.5, where y is at least -1080 and below 1024. Assumes nothing.
use Rattle.std.proofs.Common.{◌≡◌, ℕ, zero, suc, ◌+◌, ◌-◌, ◌*◌, ◌/◌, ◌^◌, ◌<◌, ◌≤◌, Bool, true, false, cond, ◌&&◌, ◌||◌, T, eqb, ltb, ℤ, pos, negsuc, sym, refl, true≢false, zero-lt-suc, mul-pos, mul-one, arith, lit<, lt→ltb, ltb-false}
use lib.Arith.{lt_of_le-ne}
use lib.Count.{count_trailing_zeros}
use borrow.Author.Tests.{eqb-false}
use lib.Ieee.{Float, nan, inf, fin, binary64, up, down, round, units, odd, minus, lt, le, eq, ne, neg, add, of_bits}
use lib.Ieee.Fits.{down_pos, up_pos, round_is}
use lib.Ieee.Order.{round_mono}
use Rattle.base.specs.Floats.{◌⊕◌}
use Rattle.base.specs.FloatLaws.{round-neg}
use Rattle.base.specs.Constants.{half, exp_top, exp_bottom}

abbrev most : Float
most = fin false 2049 (negsuc 0)

abbrev least : Float
least = fin false 135 (pos 3)

or_i : (p q : Bool) → T p → T (p || q)
or_i true q h = tt
or_i false q h = absurd h

some-pos : (a b : ℕ) → 0 < b → 0 < a + b
some-pos a b h = omega arith

-- what is not above zero is below both bounds
under : (m : ℕ) (e : ℤ) (n : ℕ) (d : ℤ) → T (le (fin true m e) (fin false (suc n) d))
unfolding le lt
under m e n d =
    or_i (ltb 0 (m * up e * down d + suc n * up d * down e)) _
    (lt→ltb 0 (m * up e * down d + suc n * up d * down e)
    (some-pos (m * up e * down d) (suc n * up d * down e) (mul-pos (mul-pos (zero-lt-suc n) (up_pos d)) (down_pos e))))

low-units : (b : Bool) (q k n : ℕ) (d : ℤ) → T (le (cond b (odd 54 true q k 1074) (inf true)) (fin false (suc n) d))
unfolding odd le lt
low-units false q k n d = tt
low-units true zero k n d = under 0 (pos 0) n d
low-units true (suc q) k n d =
    under (suc q / 2 ^ count_trailing_zeros 54 (suc q)) (minus (k + count_trailing_zeros 54 (suc q)) 1074) n d

low_all : (q k n : ℕ) (d : ℤ) → T (le (units binary64 true q k) (fin false (suc n) d))
unfolding units
low_all q k n d = low-units (ltb (q * 2 ^ k) (2 ^ 2098)) q k n d

low : (a b n : ℕ) (d : ℤ) → T (le (round binary64 true a b) (fin false (suc n) d))
low a b n d = rw (round_is binary64 true a b) (low_all _ _ n d)

le-most : (a b : ℕ) → 0 < b → a * 2 ≤ 2049 * b → T (le (round binary64 false a b) most)
unfolding round
le-most a b p h = round_mono binary64 a b 2049 2 p (lit< tt) h

le-least : (a b : ℕ) → 0 < b → a ≤ 1080 * b → T (le (round binary64 false a b) least)
unfolding round
le-least a b p h = round_mono binary64 a b 1080 1 p (lit< tt) (rw mul-one h)

abbrev Within : Float → Type 0
Within w = T (le (neg w) least) × T (le w most)

up_case : (a b : ℕ) → 0 < b → a * 2 ≤ 2049 * b → Within (round binary64 false a b)
up_case a b p h = (rw (round-neg false a b) (low a b 134 (pos 3)), le-most a b p h)

down_case : (a b : ℕ) → 0 < b → a ≤ 1080 * b → Within (round binary64 true a b)
down_case a b p h = (rw (round-neg true a b) (le-least a b p h), low a b 2048 (negsuc 0))

or_lt : (a b : ℕ) (p q : Bool) → (p ≡ false → b ≤ a) → (q ≡ false → a ≡ b → ⊥) → (p || (q && true)) ≡ false → b < a
or_lt a b true q f g h = absurd (true≢false h)
or_lt a b false true f g h = absurd (true≢false h)
or_lt a b false false f g h = lt_of_le-ne (f refl) (λ e. g refl (sym e))

module _ (n d : ℕ) (p : 0 < d) where
  first : n < 1024 * d → (n * 2 + 1 * d) * 2 ≤ 2049 * (d * 2)
  first h = omega arith

  second : (1 * d - n * 2) * 2 ≤ 2049 * (d * 2)
  second = omega arith

  third : n ≤ 1080 * d → n * 2 - 1 * d ≤ 1080 * (d * 2)
  third h = omega arith

  fourth : n * 2 ≤ 1 * d → (n * 2 - 1 * d) * 2 ≤ 2049 * (d * 2)
  fourth h = omega arith

  fifth : 0 < d * 2
  fifth = omega arith

  last : n ≤ 1080 * d → (b : Bool) → ltb (1 * d) (n * 2) ≡ b → Within (round binary64 b (n * 2 - 1 * d) (d * 2))
  last h true t = down_case (n * 2 - 1 * d) (d * 2) fifth (third h)
  last h false t = up_case (n * 2 - 1 * d) (d * 2) fifth (fourth (ltb-false (1 * d) (n * 2) t))

  both : n ≤ 1080 * d → (b : Bool) → ltb (n * 2) (1 * d) ≡ b
      → Within
      (cond b (round binary64 false (1 * d - n * 2) (d * 2))
      (round binary64 (ltb (1 * d) (n * 2)) (n * 2 - 1 * d) (d * 2)))
  both h true t = up_case (1 * d - n * 2) (d * 2) fifth second
  both h false t = last h (ltb (1 * d) (n * 2)) refl

pub bounds : (y : Float) → ne y y ≡ false → le exp_top y ≡ false → lt y (neg exp_bottom) ≡ false → Within (y ⊕ half)
unfolding ne le lt eq of_bits add neg
bounds nan a b c = absurd (true≢false a)
bounds (inf true) a b c = absurd (true≢false c)
bounds (inf false) a b c = absurd (true≢false b)
bounds (fin false m e) a b c =
    let N = m * up e in
    let D = down e in
    let l : N * 1 < 1024 * D
    = or_lt (1024 * D) (N * 1) (ltb (1024 * D) (N * 1)) (eqb (1024 * D) (N * 1)) (ltb-false (1024 * D) (N * 1))
    (eqb-false (1024 * D) (N * 1)) b in
    up_case (N * 2 + 1 * D) (D * 2) (fifth N D (down_pos e)) (first N D (down_pos e) (rw mul-one at l))
bounds (fin true m e) a b c =
    let N = m * up e in
    let D = down e in
    let l : N * 1 ≤ 1080 * D = ltb-false (1080 * D) (N * 1) c in
    both N D (down_pos e) (rw mul-one at l) (ltb (N * 2) (1 * D)) refl
