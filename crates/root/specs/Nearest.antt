-- IEEE 754's words for square_root: of an x above zero the result is the value of the format that is nearest to the real
-- number √x. `root_nearest` proves them of `square_root`. Every other value is strictly farther, so no tie arises, and
-- "to even" is never asked. Assumes nothing.
use Rattle.std.specs.Prelude.{◌≡◌, ℕ, zero, suc, ◌+◌, ◌-◌, ◌*◌, ◌/◌, ◌%◌, ◌^◌, ◌<◌, ◌≤◌, Bool, true, false, not, T, ◌⊎◌, pos, ◌≢◌, from_bits, to_bits, refl, Float}
use Rattle.std.proofs.Common.{sym, ap, ◌∙◌, subst, arith, inl, inr, lit<, lit≤, pow-add, pow_pos, pow_mono}
use native.Mathlib.Nat.{le_trans, le_of_eq, le_of_lt, lt_of_lt_of_le, lt_of_le_of_lt, lt_of_not-le, not-le_of_lt, lt_irrefl, eq-or-lt_of_le, mul_comm, mul_assoc, mul_left_comm, one-mul, zero-mul, add-mul, mul-le-mul, mul-le-mul_left, mul-le-mul_right, mul-lt-mul_of_pos_left, mul-lt-mul_of_pos_right, lt_of_mul-lt-mul_right, mul-pos, pow-succ', zero-lt-suc}
use Rattle.std.proofs.Math.Decide.{dec_le}
use Rattle.std.specs.Float.{nan, inf, fin, Format, binary64}
use Rattle.std.specs.Float.Ieee.{low, up, down, size, fits}
use Rattle.std.specs.Float.Ieee.Digits.{size-lt, size-le, size_reaches}
use Rattle.std.specs.Float.Ieee.Bits.{of_bits-to_bits}
use Rattle.std.specs.Float.Ieee.Exact.{HasValue}
use Rattle.std.specs.Float.Ieee.Positive.{positive, positive_of_value}
use Rattle.base.specs.Floats.{units_in}
use Rattle.base.specs.Split.{Scaled}
use Rattle.base.specs.UnitLaws.{bits_of, units_of, shift_of, units-is}
use Rattle.root.specs.Root.{floor_root, root_units, square_root}
use Rattle.root.specs.Floors.{IsRoot, floor_root-is, sq_mul, sq_twice, sq_lt}
use Rattle.root.specs.Rounds.{root_value, root_fits, root_of_value, radicand, doubled-least, doubled-most, digits-least, digits-most, half-least, no_tie}

-- ---- the statement

-- +0 and the finite values above zero
abbrev pub plain : Float → Bool
plain nan = false
plain (inf s) = false
plain (fin s m e) = not s

-- y is farther from √x than r is. In units of the format's smallest value r is g, y is h, and √x is the real number √(n
-- * 2 ^ low), n being x. It is nearer to g than to h where it lies on g's side of their middle, (g + h) / 2. That is
-- said with both sides doubled and squared.
abbrev pub Farther : Format → Float → Float → Float → Type 0
Farther f x r y =
    ((units_in f r < units_in f y) × (4 * (units_in f x * 2 ^ low f) < (units_in f r + units_in f y) *
    (units_in f r + units_in f y)))
    ⊎ ((units_in f y < units_in f r) × ((units_in f r + units_in f y) * (units_in f r + units_in f y) < 4 *
    (units_in f x * 2 ^ low f)))

-- the finite values with the minus sign, -0 among them
abbrev pub minus : Float → Bool
minus nan = false
minus (inf s) = false
minus (fin s m e) = s

-- y, whose sign is minus, is farther from √x than r is: the middle of r and y is (g - h) / 2, and √x lies above it.
-- Where h is g or more, the middle is not above zero, and g - h is 0.
abbrev pub FartherBelow : Format → Float → Float → Float → Type 0
FartherBelow f x r y = (units_in f r - units_in f y) * (units_in f r - units_in f y) < 4 * (units_in f x * 2 ^ low f)

-- r is a value of the format, finite and above zero, and every other finite one is farther from √x. (An infinity is
-- farther than any.)
pub record NearestRoot (f : Format) (x r : Float) : Type 0 where
  pub held : T (fits f r)
  pub above : T (positive r)
  pub nearest : (y : Float) → T (fits f y) → T (plain y) → (y ≢ r) → Farther f x r y
  pub below : (y : Float) → T (fits f y) → T (minus y) → FartherBelow f x r y

-- ---- a value is known by its units
bits_by_units : (x : Float) (n : ℕ) → HasValue x false n (2 ^ 1074)
    → to_bits binary64 x ≡ (size n - 53) * 2 ^ 52 + n / 2 ^ (size n - 53)
bits_by_units nan n h = absurd h
bits_by_units (inf s) n h = absurd h
bits_by_units (fin s m e) n h = ap (λ (t : Bool). to_bits binary64 (fin t m e)) h.0 ∙ bits_of m e n h.1

same_value : (x y : Float) (n : ℕ) → T (fits binary64 x) → T (fits binary64 y) → HasValue x false n (2 ^ 1074)
    → HasValue y false n (2 ^ 1074) → x ≡ y
same_value x y n f g h k = sym (of_bits-to_bits binary64 x f)
    ∙ ap (from_bits binary64) (bits_by_units x n h ∙ sym (bits_by_units y n k)) ∙ of_bits-to_bits binary64 y g

-- a value of the format that is not below zero: m * 2 ^ i units
record Held (y : Float) : Type 0 where
  m : ℕ
  i : ℕ
  digits : m < 2 ^ 53
  value : HasValue y false (m * 2 ^ i) (2 ^ 1074)

held_of : (y : Float) → T (fits binary64 y) → T (plain y) → Held y
held_of nan f p = absurd p
held_of (inf s) f p = absurd p
held_of (fin true m e) f p = absurd p
held_of (fin false zero e) f p =
    record {
      m = 0;
      i = 0;
      digits = lit< tt;
      value = (refl, ap (λ (z : ℕ). z * 2 ^ 1074) (zero-mul (up e)) ∙ sym (zero-mul (down e)));
    }
held_of (fin false (suc m) e) f p =
    let u = units_of false m e f in record { m = suc m; i = shift_of e; digits = u.digits; value = (refl, u.value) }

-- ---- x, with a significand of 53 digits
pow_back : (i p : ℕ) → 2 ^ i < 2 ^ p → i < p
pow_back i p h = lt_of_not-le (λ (g : p ≤ i). lt_irrefl (2 ^ i) (lt_of_lt_of_le h (pow_mono g)))

size-pos : (m : ℕ) → 0 < size (suc m)
size-pos m = lt_of_not-le (λ (g : size (suc m) ≤ 0). not-le_of_lt (lt_of_lt_of_le (size-lt (suc m)) (pow_mono g))
    (native.Mathlib.Nat.zero-lt-suc m))

scaled : (m i : ℕ) → suc m < 2 ^ 53 → suc m * 2 ^ i < 2 ^ 2098
    → Scaled (suc m * 2 ^ i) (suc m * 2 ^ (53 - size (suc m))) (i + (size (suc m) - 1))
scaled m i l u =
    let z = size (suc m) in
    let zp : 0 < z = size-pos m in
    let zm : z ≤ 53 = size-le (suc m) 53 l in
    let r : 2 ^ (z - 1) ≤ suc m = size_reaches (suc m) (z - 1) (omega arith) in
    let e1 : z - 1 + (53 - z) ≡ 52 = omega arith in
    let e2 : z + (53 - z) ≡ 53 = omega arith in
    let e3 : 53 - z + (i + (z - 1)) ≡ i + 52 = omega arith in
    let t : i + (z - 1) < 2098 = pow_back (i + (z - 1)) 2098
    (lt_of_le_of_lt (le_trans (le_of_eq (pow-add 2 i (z - 1) ∙ mul_comm (2 ^ i) (2 ^ (z - 1))))
    (mul-le-mul_right (2 ^ i) r)) u) in
    record {
      value = mul_assoc (suc m) (2 ^ (53 - z)) (2 ^ (i + (z - 1)))
          ∙ ap (λ (x : ℕ). suc m * x) (sym (pow-add 2 (53 - z) (i + (z - 1))) ∙ ap (λ (x : ℕ). 2 ^ x) e3
          ∙ pow-add 2 i 52) ∙ sym (mul_assoc (suc m) (2 ^ i) (2 ^ 52));
      least = le_trans (le_of_eq (ap (λ (x : ℕ). 2 ^ x) (sym e1) ∙ pow-add 2 (z - 1) (53 - z)))
          (mul-le-mul_right (2 ^ (53 - z)) r);
      most = lt_of_lt_of_le (mul-lt-mul_of_pos_right (size-lt (suc m)) (pow_pos (53 - z)))
          (le_of_eq (sym (pow-add 2 z (53 - z)) ∙ ap (λ (x : ℕ). 2 ^ x) e2));
      top = omega arith;
    }

-- ---- from 2 ^ 52 * 2 ^ k units on a value is a multiple of 2 ^ k units
multiple : (m i k : ℕ) → m < 2 ^ 53 → 2 ^ 52 * 2 ^ k ≤ m * 2 ^ i → (c : ℕ) × (m * 2 ^ i ≡ c * 2 ^ k)
multiple m i k l h =
    let g : 52 + k < 53 + i = pow_back (52 + k) (53 + i)
    (lt_of_le_of_lt (le_trans (le_of_eq (pow-add 2 52 k)) h)
    (lt_of_lt_of_le (mul-lt-mul_of_pos_right l (pow_pos i)) (le_of_eq (sym (pow-add 2 53 i))))) in
    let e : i ≡ i - k + k = omega arith in (
      m * 2 ^ (i - k),
      ap (λ (x : ℕ). m * 2 ^ x) e ∙ ap (λ (x : ℕ). m * x) (pow-add 2 (i - k) k)
          ∙ sym (mul_assoc m (2 ^ (i - k)) (2 ^ k)),
    )

-- ---- a number on either side, u being half the step r: F is the radicand, q its whole root, and a the half of q,
-- rounded up
module _ (f q p h : ℕ) (P : 0 < p) (root : IsRoot f q) (strict : q % 2 ≡ 1 → q * q < f) where
  four : (a : ℕ) → 2 * a * (2 * a) ≡ 4 * (a * a)
  four a = sq_twice a

  -- the middle is 2 * t / 2 and more, where t = (2 * a + 1) * p
  pub over : (a : ℕ) → q ≤ 2 * a → (a + 1) * (2 * p) ≤ h → 4 * (f * (p * p)) < (a * (2 * p) + h) * (a * (2 * p) + h)
  over a l g =
      let t = (2 * a + 1) * p in
      let s : f < (2 * a + 1) * (2 * a + 1) = lt_of_lt_of_le root.most (mul-le-mul (more l) (more l)) in
      let w : f * (p * p) < t * t = lt_of_lt_of_le (mul-lt-mul_of_pos_right s (mul-pos P P))
      (le_of_eq (sym (sq_mul (2 * a + 1) p))) in
      let x1 : (a + 1) * (2 * p) ≡ a * (2 * p) + 2 * p = add-mul a 1 (2 * p)
      ∙ ap (λ (z : ℕ). a * (2 * p) + z) (one-mul (2 * p)) in
      let x2 : t ≡ 2 * a * p + p = add-mul (2 * a) 1 p ∙ ap (λ (z : ℕ). 2 * a * p + z) (one-mul p) in
      let x3 : 2 * a * p ≡ 2 * (a * p) = mul_assoc 2 a p in
      let x4 : a * (2 * p) ≡ 2 * (a * p) = mul_left_comm a 2 p in
      let m : 2 * t ≤ a * (2 * p) + h = omega arith in
      lt_of_lt_of_le (mul-lt-mul_of_pos_left w (lit< tt)) (le_trans (le_of_eq (sym (four t))) (mul-le-mul m m))
    where
      more : q ≤ 2 * a → q + 1 ≤ 2 * a + 1
      more k = omega arith

  -- q even: the value is q * p, no more than the root
  pub under-even : (a : ℕ) → q ≡ 2 * a → h < a * (2 * p) → (a * (2 * p) + h) * (a * (2 * p) + h) < 4 * (f * (p * p))
  under-even a e g =
      let t = q * p in
      let x : t ≡ a * (2 * p) = ap (λ (z : ℕ). z * p) e ∙ mul_assoc 2 a p ∙ sym (mul_left_comm a 2 p) in
      let m : a * (2 * p) + h < 2 * t = omega arith in
      lt_of_lt_of_le (sq_lt m) (le_trans (le_of_eq (four t ∙ ap (λ (z : ℕ). 4 * z) (sq_mul q p)))
      (mul-le-mul_left 4 (mul-le-mul_right (p * p) root.least)))

  -- q odd: the value is half a step above q * p, and the next one below is half a step below it
  pub under-odd : (a : ℕ) → q ≡ 2 * a + 1 → h ≤ a * (2 * p)
      → ((a + 1) * (2 * p) + h) * ((a + 1) * (2 * p) + h) < 4 * (f * (p * p))
  under-odd a e g =
      let t = q * p in
      let o : q % 2 ≡ 1 = omega arith in
      let x1 : (a + 1) * (2 * p) ≡ a * (2 * p) + 2 * p = add-mul a 1 (2 * p)
      ∙ ap (λ (z : ℕ). a * (2 * p) + z) (one-mul (2 * p)) in
      let x2 : t ≡ 2 * a * p + p = ap (λ (z : ℕ). z * p) e ∙ add-mul (2 * a) 1 p
      ∙ ap (λ (z : ℕ). 2 * a * p + z) (one-mul p) in
      let x3 : 2 * a * p ≡ 2 * (a * p) = mul_assoc 2 a p in
      let x4 : a * (2 * p) ≡ 2 * (a * p) = mul_left_comm a 2 p in
      let m : (a + 1) * (2 * p) + h ≤ 2 * t = omega arith in
      lt_of_le_of_lt (mul-le-mul m m) (lt_of_le_of_lt (le_of_eq (four t ∙ ap (λ (z : ℕ). 4 * z) (sq_mul q p)))
      (mul-lt-mul_of_pos_left (mul-lt-mul_of_pos_right (strict o) (mul-pos P P)) (lit< tt)))

-- ---- every other value of the format: m * 2 ^ i units, beside (q / 2 + q % 2) * 2 ^ (j + 1)
module _ (f q j m i : ℕ) (root : IsRoot f q) (strict : q % 2 ≡ 1 → q * q < f) (ql : 2 ^ 53 ≤ q) (l : m < 2 ^ 53) where
  abbrev A : ℕ
  A = q / 2 + q % 2

  step : 2 ^ suc j ≡ 2 * 2 ^ j
  step = pow-succ' 2 j

  up-side : A * 2 ^ suc j < m * 2 ^ i → 4 * (f * (2 ^ j * 2 ^ j))
      < (A * 2 ^ suc j + m * 2 ^ i) * (A * 2 ^ suc j + m * 2 ^ i)
  up-side g =
      let k = multiple m i (suc j) l (le_trans (mul-le-mul_right (2 ^ suc j) (half-least q ql)) (le_of_lt g)) in
      let c : A < k.0 = lt_of_mul-lt-mul_right (2 ^ suc j) (lt_of_lt_of_le g (le_of_eq k.1)) in
      let b : (A + 1) * 2 ^ suc j ≤ m * 2 ^ i = le_trans (mul-le-mul_right (2 ^ suc j) (next A k.0 c))
      (le_of_eq (sym k.1)) in
      subst (λ (s : ℕ). 4 * (f * (2 ^ j * 2 ^ j)) < (A * s + m * 2 ^ i) * (A * s + m * 2 ^ i)) (sym step)
      (over f q (2 ^ j) (m * 2 ^ i) (pow_pos j) root strict A twice (subst (λ (s : ℕ). (A + 1) * s ≤ m * 2 ^ i) step b))
    where
      next : (a b : ℕ) → a < b → a + 1 ≤ b
      next a b h = omega arith

      twice : q ≤ 2 * A
      twice = omega arith

  -- at an odd q the next value below is at most a step lower
  lower : q % 2 ≡ 1 → m * 2 ^ i < A * 2 ^ suc j → m * 2 ^ i ≤ q / 2 * 2 ^ suc j
  lower o g = go (dec_le (2 ^ 52 * 2 ^ suc j) (m * 2 ^ i))
    where
      least : 2 ^ 52 ≤ q / 2
      least = omega arith

      down_to : (c : ℕ) → c < A → c ≤ q / 2
      down_to c h = omega arith

      go : Dec (2 ^ 52 * 2 ^ suc j ≤ m * 2 ^ i) → m * 2 ^ i ≤ q / 2 * 2 ^ suc j
      go (yes h) =
          let k = multiple m i (suc j) l h in
          le_trans (le_of_eq k.1) (mul-le-mul_right (2 ^ suc j)
          (down_to k.0 (lt_of_mul-lt-mul_right (2 ^ suc j) (lt_of_le_of_lt (le_of_eq (sym k.1)) g))))
      go (no h) = le_trans (le_of_lt (lt_of_not-le h)) (mul-le-mul_right (2 ^ suc j) least)

  down-side : m * 2 ^ i < A * 2 ^ suc j → (A * 2 ^ suc j + m * 2 ^ i) * (A * 2 ^ suc j + m * 2 ^ i)
      < 4 * (f * (2 ^ j * 2 ^ j))
  down-side g = go (q % 2) refl
    where
      two : (r : ℕ) → q % 2 ≢ suc (suc r)
      two r h = omega arith

      go : (r : ℕ) → q % 2 ≡ r → (A * 2 ^ suc j + m * 2 ^ i) * (A * 2 ^ suc j + m * 2 ^ i) < 4 * (f * (2 ^ j * 2 ^ j))
      go zero e =
          let a : q ≡ 2 * A = omega arith in
          subst (λ (s : ℕ). (A * s + m * 2 ^ i) * (A * s + m * 2 ^ i) < 4 * (f * (2 ^ j * 2 ^ j))) (sym step)
          (under-even f q (2 ^ j) (m * 2 ^ i) (pow_pos j) root strict A a (subst (λ (s : ℕ). m * 2 ^ i < A * s) step g))
      go (suc zero) e =
          let a : q ≡ 2 * (q / 2) + 1 = omega arith in
          let b : A ≡ q / 2 + 1 = omega arith in
          subst (λ (z : ℕ). (z * 2 ^ suc j + m * 2 ^ i) * (z * 2 ^ suc j + m * 2 ^ i) < 4 * (f * (2 ^ j * 2 ^ j)))
          (sym b)
          (subst (λ (s : ℕ). ((q / 2 + 1) * s + m * 2 ^ i) * ((q / 2 + 1) * s + m * 2 ^ i) < 4 * (f * (2 ^ j * 2 ^ j)))
          (sym step)
          (under-odd f q (2 ^ j) (m * 2 ^ i) (pow_pos j) root strict (q / 2) a
          (subst (λ (s : ℕ). m * 2 ^ i ≤ q / 2 * s) step (lower e g))))
      go (suc (suc r)) e = absurd (two r e)

-- ---- the theorem
either : (a b : ℕ) → (a ≢ b) → (a < b) ⊎ (b < a)
either a b n = go (dec_le a b)
  where
    side : a ≤ b → (a ≡ b) ⊎ (a < b) → a < b
    side h (inl e) = absurd (n e)
    side h (inr l) = l

    go : Dec (a ≤ b) → (a < b) ⊎ (b < a)
    go (yes h) = inl (side h (eq-or-lt_of_le h))
    go (no h) = inr (lt_of_not-le h)

-- what is farther than +0 is farther than every value below it
nought : Float
nought = fin false 0 (pos 0)

no_units : units_in binary64 nought ≡ 0
unfolding units_in nought
no_units = refl

zero-fits : T (fits binary64 nought)
unfolding nought fits
zero-fits = tt

zero-plain : T (plain nought)
unfolding nought
zero-plain = tt

not-positive : (r : Float) → T (positive r) → nought ≢ r
unfolding nought
not-positive r p e = subst (λ (v : Float). T (positive v)) (sym e) p

lower_side : (g k h w : ℕ) → k ≡ 0 → ((g < k) × (w < (g + k) * (g + k))) ⊎ ((k < g) × ((g + k) * (g + k) < w))
    → (g - h) * (g - h) < w
lower_side g k h w z (inl a) = absurd (omega (arith, a.0))
lower_side g k h w z (inr a) =
    lt_of_le_of_lt (mul-le-mul {n₁ = g - h} {m₁ = g - h} {n₂ = g + k} {m₂ = g + k} (omega arith) (omega arith)) a.1

pub root_nearest : (x : Float) → T (fits binary64 x) → T (positive x) → NearestRoot binary64 x (square_root binary64 x)
root_nearest nan f p = absurd p
root_nearest (inf s) f p = absurd p
root_nearest (fin true m e) f p = absurd p
root_nearest (fin false zero e) f p = absurd p
root_nearest (fin false (suc m) e) f p =
    let x = fin false (suc m) e in
    let u = units_of false m e f in
    let i = shift_of e in
    let n = suc m * 2 ^ i in
    let v : HasValue x false n (2 ^ 1074) = (refl, u.value) in
    let ex = i + (size (suc m) - 1) in
    let sig = suc m * 2 ^ (53 - size (suc m)) in
    let s = scaled m i u.digits u.under in
    let d = sig * 2 ^ (ex % 2) in
    let q = floor_root (d * 2 ^ 54) in
    let j = ex / 2 + 484 in
    let root : IsRoot (d * 2 ^ 54) q = floor_root-is (d * 2 ^ 54) in
    let ql = digits-least d q (doubled-least n sig ex s) root in
    let qm = digits-most d q (doubled-most n sig ex s) root in
    let rad = radicand n sig ex s in
    let r = root_units binary64 n in
    let rv : HasValue r false ((q / 2 + q % 2) * 2 ^ suc j) (2 ^ 1074) = root_value n d q j rad root ql qm
    (few ex s.top) in
    let rp : T (positive r) = positive_of_value r ((q / 2 + q % 2) * 2 ^ suc j) (2 ^ 1074) rv
    (mul-pos (lt_of_lt_of_le (lit< tt) (half-least q ql)) (pow_pos (suc j))) in
    let near : (y : Float) → T (fits binary64 y) → T (plain y) → (y ≢ r) → Farther binary64 x r y = λ y g k ne.
    let w = held_of y g k in
    farther x r y n ((q / 2 + q % 2) * 2 ^ suc j) (w.m * 2 ^ w.i) v rv w.value (root_fits n) g ne
    (λ h. lt_of_le_of_lt (le_of_eq (ap (λ (z : ℕ). 4 * z) rad))
    (up-side (d * 2 ^ 54) q j w.m w.i root (no_tie d q root) ql w.digits h))
    (λ h. lt_of_lt_of_le (down-side (d * 2 ^ 54) q j w.m w.i root (no_tie d q root) ql w.digits h)
    (le_of_eq (ap (λ (z : ℕ). 4 * z) (sym rad)))) in
    subst (NearestRoot binary64 x) (sym (root_of_value x n v (mul-pos (zero-lt-suc m) (pow_pos i))))
    (record {
      held = root_fits n;
      above = rp;
      nearest = near;
      below = λ y g k. lower_side (units_in binary64 r) (units_in binary64 nought) (units_in binary64 y)
          (4 * (units_in binary64 x * 2 ^ 1074)) no_units (near nought zero-fits zero-plain (not-positive r rp));
    })
  where
    few : (a : ℕ) → a ≤ 2097 → a / 2 + 484 ≤ 1533
    few a h = omega arith

    farther : (x r y : Float) (n g h : ℕ) → HasValue x false n (2 ^ 1074) → HasValue r false g (2 ^ 1074)
        → HasValue y false h (2 ^ 1074) → T (fits binary64 r) → T (fits binary64 y) → (y ≢ r)
        → (g < h → 4 * (n * 2 ^ 1074) < (g + h) * (g + h)) → (h < g → (g + h) * (g + h) < 4 * (n * 2 ^ 1074))
        → Farther binary64 x r y
    farther x r y n g h vx vr vy fr fy ne a b =
        subst (λ (k : ℕ). ((units_in binary64 r < k) ×
        (4 * (units_in binary64 x * 2 ^ 1074) < (units_in binary64 r + k) * (units_in binary64 r + k)))
        ⊎ ((k < units_in binary64 r) ×
        ((units_in binary64 r + k) * (units_in binary64 r + k) < 4 * (units_in binary64 x * 2 ^ 1074))))
        (sym (units-is y h vy))
        (subst (λ (k : ℕ). ((k < h) × (4 * (units_in binary64 x * 2 ^ 1074) < (k + h) * (k + h))) ⊎
        ((h < k) × ((k + h) * (k + h) < 4 * (units_in binary64 x * 2 ^ 1074)))) (sym (units-is r g vr))
        (subst (λ (k : ℕ). ((g < h) × (4 * (k * 2 ^ 1074) < (g + h) * (g + h))) ⊎
        ((h < g) × ((g + h) * (g + h) < 4 * (k * 2 ^ 1074)))) (sym (units-is x n vx))
        (elim (either g h (λ e. ne (same_value y r h fy fr vy (subst (λ (k : ℕ). HasValue r false k (2 ^ 1074)) e vr))))
        [ inl l ↦ inl (l, a l) | inr l ↦ inr (l, b l) ])))

-- ---- there is one such value
both_ways : (a b w : ℕ) → ((a < b) × (w < (a + b) * (a + b))) ⊎ ((b < a) × ((a + b) * (a + b) < w))
    → ((b < a) × (w < (b + a) * (b + a))) ⊎ ((a < b) × ((b + a) * (b + a) < w)) → ⊥
both_ways a b w (inl h) (inl k) = omega (arith, h.0, k.0)
both_ways a b w (inl h) (inr k) = not-le_of_lt k.1
    (le_of_lt (lt_of_lt_of_le h.1 (le_of_eq (ap (λ (z : ℕ). z * z) (native.Mathlib.Nat.add_comm a b)))))
both_ways a b w (inr h) (inl k) = not-le_of_lt h.1
    (le_of_lt (lt_of_lt_of_le k.1 (le_of_eq (ap (λ (z : ℕ). z * z) (native.Mathlib.Nat.add_comm b a)))))
both_ways a b w (inr h) (inr k) = omega (arith, h.0, k.0)

plain_of : (r : Float) → T (positive r) → T (plain r)
plain_of nan p = absurd p
plain_of (inf s) p = absurd p
plain_of (fin true m e) p = absurd p
plain_of (fin false m e) p = tt

-- no second value can be nearest too
pub nearest-one : (x r s : Float) → NearestRoot binary64 x r → NearestRoot binary64 x s → (s ≢ r) → ⊥
nearest-one x r s h k n =
    both_ways (units_in binary64 r) (units_in binary64 s) (4 * (units_in binary64 x * 2 ^ 1074))
    (h.nearest s k.held (plain_of s k.above) n)
    (k.nearest r h.held (plain_of r h.above) (λ e. n (sym e)))

-- ---- and far below where rounding would give the infinity: √x is below 2 ^ emax
pub no_overflow : (x : Float) → T (fits binary64 x) → T (positive x)
    → units_in binary64 x * 2 ^ 1074 < 2 ^ (1074 + 1023) * 2 ^ (1074 + 1023)
no_overflow nan f p = absurd p
no_overflow (inf s) f p = absurd p
no_overflow (fin true m e) f p = absurd p
no_overflow (fin false zero e) f p = absurd p
no_overflow (fin false (suc m) e) f p =
    let u = units_of false m e f in
    lt_of_le_of_lt (le_of_eq (ap (λ (z : ℕ). z * 2 ^ 1074)
    (units-is (fin false (suc m) e) (suc m * 2 ^ shift_of e) (refl, u.value))))
    (lt_of_lt_of_le (mul-lt-mul_of_pos_right u.under (pow_pos 1074)) (lit≤ tt))
