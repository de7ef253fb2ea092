-- 02, L2, in words of real numbers. T of a whole number from 0 to 22 is the real power of ten, T of one from -22 to -1
-- the real power rounded once, and T of any other argument is what 01's steps give. `HasValue y s k 1` says that y is
-- finite, of the sign s, and k in size. Assumes nothing.
use Rattle.std.specs.Prelude.{◌≡◌, ℕ, zero, suc, ◌+◌, ◌-◌, ◌*◌, ◌/◌, ◌%◌, ◌^◌, ◌<◌, ◌≤◌, Bool, true, false, cond, ◌&&◌, T, ◌⊎◌, ℤ, ◌==◌, ◌≢◌, nat_le, nat_lt, Float}
use Rattle.std.proofs.Math.Path.{refl, ap}
use Rattle.std.proofs.Common.{sym, ◌∙◌, subst, true≢false, zero-mul, mul_comm, mul-pos, le_trans, lt_irrefl, zero-lt-suc, suc-mul, add-mul, mul_assoc, mul-le-mul, mul-le-mul_right, le_of_lt, inl, inr, arith, ltb→lt, eqb→eq, lit≤, lit<, pow-add, pow_pos, pow_mono}
use Rattle.std.proofs.lemmas.Bool.{false≢true}
use Rattle.std.proofs.Math.Nat.{mul-one, mul_right_comm, mul-div_cancel, eq_of_mul-eq-mul_right, pow-succ'}
use Rattle.std.proofs.Math.Decide.{dec_lt}
use borrow.Author.Tests.{leb-true, eq-eqb, ne_eqb, le-leb, le-ltb, lt-ltb}
use Rattle.std.specs.Float.Ieee.{nan, binary64, up, down, round, lt, eq, div, of_bits, of_int, to_bits, fits}
use Rattle.std.specs.Float.{inf, fin}
use Rattle.std.specs.Float.Ieee.Fits.{down_pos, and_l, and_r, round-fits}
use Rattle.std.specs.Float.Ieee.Exact.{HasValue}
use Rattle.std.specs.Float.Ieee.Back.{round_whole}
use Rattle.std.specs.Float.Ieee.Positive.{first_pos}
use Rattle.std.specs.Float.Ieee.Scale.{round_same}
use Rattle.base.specs.Loops.{every}
use Rattle.base.specs.LoopLaws.{every_at}
use Rattle.base.specs.Floats.{◌⊘◌, decimal, +0, sign, abs, units_in}
use Rattle.base.specs.Constants.{one, one-is}
use Rattle.base.specs.UnitLaws.{units_of, shift_of, units-is, unique}
use Rattle.root.specs.Nearest.{plain}
use Rattle.powers.specs.Exp.{cut}
use Rattle.powers.specs.Power.{ten_steps, whole_ten, small_whole, ten_to}

-- ---- the floats 10^k are exact

-- whether x is a / c
abbrev is_fraction : Float → ℕ → ℕ → Bool
is_fraction nan a c = false
is_fraction (inf s) a c = false
is_fraction (fin true m e) a c = false
is_fraction (fin false m e) a c = m * up e * c == a * down e

value_of : (x : Float) (a c : ℕ) → T (is_fraction x a c) → HasValue x false a c
value_of nan a c t = absurd t
value_of (inf s) a c t = absurd t
value_of (fin true m e) a c t = absurd t
value_of (fin false m e) a c t = (refl, eqb→eq (m * up e * c) (a * down e) t)

-- one computed test of every such k is a test of each
all_exact : every (λ k. is_fraction (whole_ten k) (10 ^ k) 1) 23 ≡ true
unfolding every whole_ten of_int round
all_exact = refl

-- "the float 10^y, which is exact"
pub ten-exact : (k : ℕ) → k ≤ 22 → HasValue (whole_ten k) false (10 ^ k) 1
ten-exact k h = value_of (whole_ten k) (10 ^ k) 1
    (subst T (sym (every_at (λ i. is_fraction (whole_ten i) (10 ^ i) 1) 23 k (omega arith) all_exact)) tt)

-- ---- y is whole: its part before the point, and the test
module _ (s : Bool) (m : ℕ) (e : ℤ) (k : ℕ) where
  -- what y = k says: m·2^e is k
  part : m * up e * 1 ≡ k * down e → cut (fin s m e) ≡ k
  unfolding cut
  part h = ap (λ (a : ℕ). a / down e) (sym (mul-one (m * up e)) ∙ h) ∙ mul-div_cancel k (down_pos e)

  equal : (z : Float) → HasValue z false k 1 → m * up e * 1 ≡ k * down e → eq (fin false m e) z ≡ true
  unfolding eq
  equal nan v h = absurd v
  equal (inf t) v h = absurd v
  equal (fin true p g) v h = absurd (true≢false v.0)
  equal (fin false p g) v h = rw (eq-eqb (m * up e * down g) (p * up g * down e) cross) refl
    where
      cross : m * up e * down g ≡ p * up g * down e
      cross =
          ap (λ (a : ℕ). a * down g) (sym (mul-one (m * up e)) ∙ h)
          ∙ mul_right_comm k (down e) (down g)
          ∙ ap (λ (a : ℕ). a * down e) (sym v.1 ∙ mul-one (p * up g))

  found : m * up e * 1 ≡ k * down e → k ≤ 22 → small_whole (fin s m e) ≡ true
  unfolding small_whole abs of_int
  found h l = rw (part h, le-leb k 22 l)
      (equal (round binary64 false k 1) (round_whole binary64 false k (le_trans l (lit≤ tt))) h)

  -- and back
  back : (z : Float) → HasValue z false k 1 → eq (fin false m e) z ≡ true → m * up e * 1 ≡ k * down e
  unfolding eq
  back nan v h = absurd v
  back (inf t) v h = absurd v
  back (fin true p g) v h = absurd (true≢false v.0)
  back (fin false p g) v h =
      mul-one (m * up e)
      ∙ eq_of_mul-eq-mul_right (down g) (down_pos g) (m * up e) (k * down e)
      (eqb→eq (m * up e * down g) (p * up g * down e)
      (and_l (m * up e * down g == p * up g * down e) true (subst T (sym h) tt))
      ∙ ap (λ (a : ℕ). a * down e) (sym (mul-one (p * up g)) ∙ v.1)
      ∙ mul_right_comm k (down g) (down e))

-- ---- T by the value of its argument

-- "For whole y from 0 to 22, T(y) becomes the float 10^y"
pub at_whole : (y : Float) (k : ℕ) → HasValue y false k 1 → k ≤ 22 → ten_to y ≡ whole_ten k
unfolding ten_to lt of_bits
at_whole nan k v l = absurd v
at_whole (inf s) k v l = absurd v
at_whole (fin true m e) k v l = absurd (true≢false v.0)
at_whole (fin false m e) k v l =
    rw (
      found false m e k v.1 l,
      part false m e k v.1,
      le-ltb (m * up e * 1) (0 * down e)
          (omega (arith, zero-mul (down e))),
    ) refl

-- "For whole y from -22 to -1 it becomes 1 divided by the float 10^(-y)"
pub at_minus : (y : Float) (k : ℕ) → HasValue y true k 1 → 0 < k → k ≤ 22 → ten_to y ≡ one ⊘ whole_ten k
unfolding ten_to lt of_bits
at_minus nan k v p l = absurd v
at_minus (inf s) k v p l = absurd v
at_minus (fin false m e) k v p l = absurd (true≢false (sym v.0))
at_minus (fin true m e) k v p l =
    rw (
      found true m e k v.1 l,
      part true m e k v.1,
      lt-ltb 0 (m * up e * 1 + 0 * down e)
          (omega (arith, v.1, mul-pos p (down_pos e))),
    ) refl

-- -0 is whole
pub at_minus-zero : (y : Float) → HasValue y true 0 1 → ten_to y ≡ one
unfolding ten_to lt whole_ten of_bits of_int round
at_minus-zero nan v = absurd v
at_minus-zero (inf s) v = absurd v
at_minus-zero (fin false m e) v = absurd (true≢false (sym v.0))
at_minus-zero (fin true m e) v =
    rw (
      found true m e 0 v.1 (lit≤ tt),
      part true m e 0 v.1,
      le-ltb 0 (m * up e * 1 + 0 * down e)
          (omega (arith, v.1, zero-mul (down e))),
    ) refl

both : (a b : Bool) → (a && b) ≡ true → (a ≡ true) × (b ≡ true)
both true b h = (refl, h)
both false b h = absurd (false≢true h)

-- what the test finds has such a value
pub small_value : (y : Float) → small_whole y ≡ true → (cut y ≤ 22) × HasValue y (sign y) (cut y) 1
unfolding small_whole abs eq cut of_int round
small_value nan h = absurd (false≢true h)
small_value (inf s) h = absurd (false≢true h)
small_value (fin s m e) h =
    let k = cut (fin s m e) in
    let b = both (nat_le k 22) (eq (fin false m e) (round binary64 false k 1)) h in
    let l = leb-true k 22 b.0 in
    (l, (refl, back s m e k (round binary64 false k 1) (round_whole binary64 false k (le_trans l (lit≤ tt))) b.1))

-- "Other arguments keep 01's steps"
pub elsewhere : (y : Float) → ((s : Bool) (k : ℕ) → k ≤ 22 → HasValue y s k 1 → ⊥) → ten_to y ≡ ten_steps y
unfolding ten_to
elsewhere y f = go (small_whole y) refl
  where
    go : (b : Bool) → small_whole y ≡ b → cond b (cond (lt y +0) (one ⊘ whole_ten (cut y)) (whole_ten (cut y)))
        (ten_steps y) ≡ ten_steps y
    go false h = refl
    go true h = let v = small_value y h in absurd (f (sign y) (cut y) v.0 v.1)

-- ---- in real numbers

-- T(k) is the real number 10^k
pub ten-whole : (y : Float) (k : ℕ) → HasValue y false k 1 → k ≤ 22 → HasValue (ten_to y) false (10 ^ k) 1
ten-whole y k v l = rw (at_whole y k v l) (ten-exact k l)

-- 1 divided by a float that is the whole number n: 1 / n, rounded once
quotient : (x : Float) (n : ℕ) → HasValue x false n 1 → 0 < n → one ⊘ x ≡ round binary64 false 1 n
unfolding div of_bits
quotient nan n v p = absurd v
quotient (inf s) n v p = absurd v
quotient (fin true m e) n v p = absurd (true≢false v.0)
quotient (fin false m e) n v p =
    rw (ne_eqb m 0 (λ z. lt_irrefl 0 (subst (λ (i : ℕ). 0 < i) z (first_pos m (up e) some))))
    (round_same binary64 false (1 * down e) (m * up e * 1) 1 n (omega (arith, some)) p
    (omega (arith, v.1, mul_comm n (down e))))
  where
    some : 0 < m * up e
    some = omega (arith, v.1, mul-pos p (down_pos e))

above_zero : (k : ℕ) → 0 < 10 ^ k
above_zero zero = lit< tt
above_zero (suc k) = rw (pow-succ' 10 k) (mul-pos (lit< tt) (above_zero k))

-- T(-k) is the real number 10^(-k), rounded once
pub ten-minus : (y : Float) (k : ℕ) → HasValue y true k 1 → k ≤ 22 → ten_to y ≡ decimal 1 k
ten-minus y zero v l = at_minus-zero y v ∙ one-is
ten-minus y (suc k) v l = at_minus y (suc k) v (zero-lt-suc k) l
    ∙ quotient (whole_ten (suc k)) (10 ^ suc k) (ten-exact (suc k) l) (above_zero (suc k))

-- ---- no other float is as near to 10^(-k) as T(-k)

-- how far a float of the sign plus is from 10^(-k), in units of 2^-1074 / 10^k
abbrev pub far : ℕ → Float → ℕ
far k x = (units_in binary64 x * 10 ^ k - 2 ^ 1074) + (2 ^ 1074 - units_in binary64 x * 10 ^ k)

-- the digits of a normal value, 53 of them, and the place of the last
abbrev digits : Float → ℕ
digits x = 2 ^ 52 + to_bits binary64 x % 2 ^ 52

abbrev last : Float → ℕ
last x = to_bits binary64 x / 2 ^ 52 - 1

-- whether x has more than the least 53 digits, and is off by less than half a unit of the last
abbrev is_close : ℕ → Float → Bool
is_close k x = is_fraction x (digits x * 2 ^ last x) (2 ^ 1074)
    && (nat_lt (2 ^ 52) (digits x) && nat_lt (2 * far k x) (2 ^ last x * 10 ^ k))

all_close : every (λ k. is_close (suc k) (decimal 1 (suc k))) 22 ≡ true
unfolding every units_in to_bits round
all_close = refl

-- another number of up to 53 digits, whatever the place of its last, is at least a unit of q's last place away
unit_off : (q j p i : ℕ) → 2 ^ 52 < q → p < 2 ^ 53 → (p * 2 ^ i ≢ q * 2 ^ j)
    → (q * 2 ^ j + 2 ^ j ≤ p * 2 ^ i) ⊎ (p * 2 ^ i + 2 ^ j ≤ q * 2 ^ j)
unit_off q j p i Q P d = go (dec_lt i j)
  where
    -- the places of p that are above q's last
    above : (r h : ℕ) → (r * h ≢ q * h) → (q * h + h ≤ r * h) ⊎ (r * h + h ≤ q * h)
    above r h n = pick (dec_lt q r) (dec_lt r q)
      where
        pick : Dec (q < r) → Dec (r < q) → (q * h + h ≤ r * h) ⊎ (r * h + h ≤ q * h)
        pick (yes l) m = inl (subst (λ (x : ℕ). x ≤ r * h) (suc-mul q h) (mul-le-mul_right h l))
        pick (no l) (yes m) = inr (subst (λ (x : ℕ). x ≤ q * h) (suc-mul r h) (mul-le-mul_right h m))
        pick (no l) (no m) = let e : r ≡ q = omega arith in absurd (n (ap (λ (x : ℕ). x * h) e))

    low : (h w : ℕ) → w ≤ h → p * w + 2 * h ≤ q * (2 * h)
    low h w l =
        let a : p * w ≤ 2 ^ 53 * h = mul-le-mul (le_of_lt P) l in
        let b : (2 ^ 52 + 1) * (2 * h) ≤ q * (2 * h) = mul-le-mul_right (2 * h) (omega arith) in
        let c : (2 ^ 52 + 1) * (2 * h) ≡ 2 ^ 52 * (2 * h) + 1 * (2 * h) = add-mul (2 ^ 52) 1 (2 * h) in
        omega arith

    go : Dec (i < j) → (q * 2 ^ j + 2 ^ j ≤ p * 2 ^ i) ⊎ (p * 2 ^ i + 2 ^ j ≤ q * 2 ^ j)
    go (yes l) =
        let t : j ≡ suc (j - 1) = omega arith in
        let e : 2 ^ j ≡ 2 * 2 ^ (j - 1) = ap (λ (x : ℕ). 2 ^ x) t ∙ pow-succ' 2 (j - 1) in
        inr (rw e (low (2 ^ (j - 1)) (2 ^ i) (pow_mono (omega arith))))
    go (no l) =
        let t : i - j + j ≡ i = omega arith in
        let e : p * 2 ^ i ≡ p * 2 ^ (i - j) * 2 ^ j = ap (λ (x : ℕ). p * 2 ^ x) (sym t)
        ∙ ap (λ (x : ℕ). p * x) (pow-add 2 (i - j) j) ∙ sym (mul_assoc p (2 ^ (i - j)) (2 ^ j)) in
        rw e (above (p * 2 ^ (i - j)) (2 ^ j) (λ z. d (e ∙ z)))

-- g is off by less than half of u, and w a whole u from g: w is farther off
farther : (g w u t n : ℕ) → (g + u ≤ w) ⊎ (w + u ≤ g) → 2 * ((g * t - n) + (n - g * t)) < u * t
    → (g * t - n) + (n - g * t) < (w * t - n) + (n - w * t)
farther g w u t n (inl h) c = let l = subst (λ (x : ℕ). x ≤ w * t) (add-mul g u t) (mul-le-mul_right t h) in omega arith
farther g w u t n (inr h) c = let l = subst (λ (x : ℕ). x ≤ g * t) (add-mul w u t) (mul-le-mul_right t h) in omega arith

-- what a finite float of the sign plus is in units of 2^-1074
record Held (z : Float) : Type 0 where
  m : ℕ
  i : ℕ
  short : m < 2 ^ 53
  value : HasValue z false (m * 2 ^ i) (2 ^ 1074)

held : (z : Float) → T (fits binary64 z) → T (plain z) → Held z
held nan f p = absurd p
held (inf s) f p = absurd p
held (fin true m e) f p = absurd p
held (fin false zero e) f p =
    record {
      m = 0;
      i = 0;
      short = lit< tt;
      value = (refl, ap (λ (a : ℕ). a * 2 ^ 1074) (zero-mul (up e)) ∙ sym (zero-mul (down e)));
    }
held (fin false (suc m) e) f p =
    let u = units_of false m e f in record { m = suc m; i = shift_of e; short = u.digits; value = (refl, u.value) }

-- what is close to 10^(-k) is nearer than every other float of the sign plus
nearest : (k : ℕ) (x z : Float) → T (is_close k x) → T (fits binary64 x) → T (fits binary64 z) → T (plain z)
    → (z ≢ x) → far k x < far k z
nearest k x z t f g p d =
    let v = value_of x (digits x * 2 ^ last x) (2 ^ 1074)
    (and_l (is_fraction x (digits x * 2 ^ last x) (2 ^ 1074))
    (nat_lt (2 ^ 52) (digits x) && nat_lt (2 * far k x) (2 ^ last x * 10 ^ k)) t) in
    let r = and_r (is_fraction x (digits x * 2 ^ last x) (2 ^ 1074))
    (nat_lt (2 ^ 52) (digits x) && nat_lt (2 * far k x) (2 ^ last x * 10 ^ k)) t in
    let b = ltb→lt (2 ^ 52) (digits x) (and_l (nat_lt (2 ^ 52) (digits x)) (nat_lt (2 * far k x) (2 ^ last x * 10 ^ k)) r) in
    let c = ltb→lt (2 * far k x) (2 ^ last x * 10 ^ k)
    (and_r (nat_lt (2 ^ 52) (digits x)) (nat_lt (2 * far k x) (2 ^ last x * 10 ^ k)) r) in
    let h = held z g p in
    let differ : h.m * 2 ^ h.i ≡ digits x * 2 ^ last x → ⊥ =
    λ e. d (unique z x false (h.m * 2 ^ h.i) (2 ^ 1074) (digits x * 2 ^ last x) (2 ^ 1074) (pow_pos 1074)
    (pow_pos 1074) g f h.value v (ap (λ (a : ℕ). a * 2 ^ 1074) e)) in
    let u = units-is x (digits x * 2 ^ last x) v in
    let w = units-is z (h.m * 2 ^ h.i) h.value in
    farther (units_in binary64 x) (units_in binary64 z) (2 ^ last x) (10 ^ k) (2 ^ 1074)
    (rw (u, w) (unit_off (digits x) (last x) h.m h.i b h.short differ)) c

-- T(-k) is correctly rounded. (What is below zero is farther from 10^(-k) than +0 is.)
pub ten-nearest : (y : Float) (k : ℕ) → HasValue y true k 1 → 0 < k → k ≤ 22
    → (z : Float) → T (fits binary64 z) → T (plain z) → (z ≢ ten_to y) → far k (ten_to y) < far k z
ten-nearest y zero v p l z f g d = absurd (lt_irrefl 0 p)
ten-nearest y (suc k) v p l z f g d =
    let e = ten-minus y (suc k) v l in
    rw e (nearest (suc k) (decimal 1 (suc k)) z
    (subst T (sym (every_at (λ i. is_close (suc i) (decimal 1 (suc i))) 22 k (omega arith) all_close)) tt)
    (round-fits binary64 false 1 (10 ^ suc k)) f g (λ h. d (h ∙ sym e)))
