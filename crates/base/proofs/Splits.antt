-- A pattern's significand and exponent, on plain numbers. Assumes nothing.
use mathlib.Core.Path.{◌≡◌, sym, ap, ◌∙◌}
use Prim.Native.Nat.{ℕ, suc, ◌+◌, ◌-◌, ◌*◌, ◌/◌, ◌%◌, ◌^◌, ◌≤◌, ◌<◌}
use native.Mathlib.Nat.{le_trans, le_of_lt, le_of_eq, lt_of_lt_of_le, lt_of_le_of_lt, lt_of_not-le, lt_irrefl, mul_assoc, mul-le-mul_right, mul-lt-mul_of_pos_right, mod-eq_of_lt, mod-lt}
use native.Mathlib.Omega.{arith}
use mathlib.Core.Bool.{Bool, cond}
use lib.Dec.{eqb, eqb→eq, not_T, lit<}
use lib.Pow.{pow-add, pow_pos, pow_mono}
use lib.Bits.{bit_or, or_shifted_r}
use lib.Count.{count_leading_zeros, leading_top}
use lib.Ieee.Bits.{is_false}
use Rattle.base.specs.Split.{Scaled, units_at}

pub pow_back : (i p : ℕ) → 2 ^ i < 2 ^ p → i < p
pow_back i p h = lt_of_not-le (λ (g : p ≤ i). lt_irrefl (2 ^ i) (lt_of_lt_of_le h (pow_mono g)))

-- ---- what `units_at` says
pub units-low : (b : ℕ) → b / 2 ^ 52 ≡ 0 → units_at b ≡ b % 2 ^ 52
unfolding units_at
units-low b e = ap (λ (x : ℕ). cond (eqb x 0) (b % 2 ^ 52) ((2 ^ 52 + b % 2 ^ 52) * 2 ^ (b / 2 ^ 52 - 1))) e

pub units-high : (b : ℕ) → (b / 2 ^ 52 ≡ 0 → ⊥) → units_at b ≡ (2 ^ 52 + b % 2 ^ 52) * 2 ^ (b / 2 ^ 52 - 1)
unfolding units_at
units-high b n =
    ap (λ (x : Bool). cond x (b % 2 ^ 52) ((2 ^ 52 + b % 2 ^ 52) * 2 ^ (b / 2 ^ 52 - 1)))
    (is_false (eqb (b / 2 ^ 52) 0) (not_T (eqb (b / 2 ^ 52) 0) (λ t. n (eqb→eq (b / 2 ^ 52) 0 t))))

-- ---- a subnormal's
record Lead (t z : ℕ) : Type 0 where
  top : ℕ
  count : z + suc top ≡ 64
  less : top < 52
  least : 2 ^ top ≤ t
  most : t < 2 ^ suc top

lead : (t : ℕ) → 0 < t → t < 2 ^ 52 → Lead t (count_leading_zeros 64 t)
lead t p h =
    let l = leading_top 64 t p (lt_of_lt_of_le h (pow_mono {i = 52} {j = 64} (le_of_lt (lit< tt)))) in
    record { top = l.0; count = l.1; less = pow_back l.0 52 (lt_of_le_of_lt l.2 h); least = l.2; most = l.3 }

pub zeros-from : (t : ℕ) → 0 < t → t < 2 ^ 52 → (11 ≤ count_leading_zeros 64 t) × (count_leading_zeros 64 t ≤ 63)
zeros-from t p h = let l = lead t p h in (omega (arith, l.count, l.less), omega (arith, l.count, l.less))

raised : (t j s : ℕ) → s + j ≡ 52 → 2 ^ j ≤ t → t < 2 ^ suc j
    → (2 ^ 52 ≤ t * 2 ^ s) × (t * 2 ^ s < 2 ^ 53) × (t * 2 ^ s * 2 ^ j ≡ t * 2 ^ 52)
raised t j s e l m = (
  le_trans (le_of_eq (ap (λ (x : ℕ). 2 ^ x) (sym (swap e)) ∙ pow-add 2 j s)) (mul-le-mul_right (2 ^ s) l),
  lt_of_lt_of_le (mul-lt-mul_of_pos_right m (pow_pos s))
      (le_of_eq (sym (pow-add 2 (suc j) s) ∙ ap (λ (x : ℕ). 2 ^ x) (next e))),
  mul_assoc t (2 ^ s) (2 ^ j) ∙ ap (λ (x : ℕ). t * x) (sym (pow-add 2 s j) ∙ ap (λ (x : ℕ). 2 ^ x) e),
)
  where
    swap : s + j ≡ 52 → j + s ≡ 52
    swap h = omega arith

    next : s + j ≡ 52 → suc j + s ≡ 53
    next h = omega arith

plain : (a : ℕ) → a < 2 ^ 53 → a % 2 ^ 64 ≡ a
plain a h = mod-eq_of_lt (lt_of_lt_of_le h (pow_mono {i = 53} {j = 64} (le_of_lt (lit< tt))))

pub low-digits : (b : ℕ) → 0 < b → b / 2 ^ 52 ≡ 0 → (0 < b % 2 ^ 52) × (b % 2 ^ 52 < 2 ^ 52)
low-digits b p e = omega arith

shift_of : (z j : ℕ) → z + suc j ≡ 64 → j < 52 → z - 11 + j ≡ 52
shift_of z j e h = omega arith

pub split-low : (b : ℕ) → 0 < b → b / 2 ^ 52 ≡ 0
    → Scaled (units_at b) (b % 2 ^ 52 * 2 ^ (count_leading_zeros 64 (b % 2 ^ 52) - 11) % 2 ^ 64)
    (52 - (count_leading_zeros 64 (b % 2 ^ 52) - 11))
split-low b p e =
    let t = b % 2 ^ 52 in
    let d = low-digits b p e in
    let l = lead t d.0 d.1 in
    let z = count_leading_zeros 64 t in
    let s = z - 11 in
    let k = shift_of z l.top l.count l.less in
    let r = raised t l.top s k l.least l.most in
    let q : t * 2 ^ s % 2 ^ 64 ≡ t * 2 ^ s = plain (t * 2 ^ s) r.1 in
    let x : 52 - s ≡ l.top = omega arith in
    record {
      value =
          ap (λ (a : ℕ). a * 2 ^ (52 - s)) q ∙ ap (λ (a : ℕ). t * 2 ^ s * 2 ^ a) x ∙ r.2
          ∙ ap (λ (a : ℕ). a * 2 ^ 52) (sym (units-low b e));
      least = le_trans r.0 (le_of_eq (sym q));
      most = lt_of_le_of_lt (le_of_eq q) r.1;
      top = omega arith;
    }

above : (f : ℕ) → (f ≡ 0 → ⊥) → f + 51 ≡ f - 1 + 52
above f n = omega arith

pub split-high : (b : ℕ) → b < 9218868437227405312 → (b / 2 ^ 52 ≡ 0 → ⊥)
    → Scaled (units_at b) (bit_or (b % 2 ^ 52) (1 * 2 ^ 52)) (b / 2 ^ 52 + 51)
split-high b h n =
    let t = b % 2 ^ 52 in
    let f = b / 2 ^ 52 in
    let q : bit_or t (1 * 2 ^ 52) ≡ 2 ^ 52 + t = or_shifted_r 1 52 t (mod-lt b (pow_pos 52)) in
    let m : t < 2 ^ 52 = mod-lt b (pow_pos 52) in
    record {
      value =
          ap (λ (a : ℕ). a * 2 ^ (f + 51)) q
          ∙ ap (λ (a : ℕ). (2 ^ 52 + t) * a) (ap (λ (a : ℕ). 2 ^ a) (above f n) ∙ pow-add 2 (f - 1) 52)
          ∙ sym (mul_assoc (2 ^ 52 + t) (2 ^ (f - 1)) (2 ^ 52)) ∙ ap (λ (a : ℕ). a * 2 ^ 52) (sym (units-high b n));
      least = omega arith;
      most = omega arith;
      top = omega arith;
    }
