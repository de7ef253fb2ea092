-- The whole numbers next to a float, by which E finds its n. Assumes nothing.
use Rattle.std.proofs.Common.{◌≡◌, ℕ, zero, suc, ◌+◌, ◌-◌, ◌*◌, ◌/◌, ◌%◌, ◌<◌, ◌≤◌, min, Bool, true, false, ◌&&◌, ◌||◌, T, eqb, ltb, ℤ, pos, negsuc, neg_ℤ, sym, refl, ap, ◌∙◌, subst, true≢false, le_trans, le_of_eq, le_of_suc-le-suc, le_of_lt, lt_irrefl, mod-lt, suc-mul, div-lt_iff_lt-mul, lt_of_mul-lt-mul_right, div-add-mod', le-div_iff_mul-le, zero-mul, mul-one, mul_right_comm, le_of_mul-le-mul_right, add-one, arith, lit≤, eqb→eq, ltb→lt, lt→ltb, ltb-false, ltb-true}
use native.Mathlib.Nat.{div-eq_of_lt}
use lib.Arith.{digits_div}
use lib.Ieee.{Float, nan, inf, fin, binary64, up, down, round, lt, le, eq, of_int, of_bits, to_unsigned, neg}
use lib.Ieee.Fits.{down_pos}
use lib.Ieee.Exact.{HasValue}
use lib.Ieee.Back.{round_whole}
use Rattle.base.specs.Floats.{bits}
use Rattle.base.specs.FloatLaws.{round-neg}
use Rattle.powers.specs.Exp.{raised, cut, floor}

less : (n : ℕ) → suc n - 1 ≡ n
less n = omega arith

-- x is m·2^e, above 0 and at most 1080
pub record Small (x : Float) : Type 0 where
  pub m : ℕ
  pub e : ℤ
  pub is : x ≡ fin false m e
  pub above : 0 < m * up e
  pub most : m * up e ≤ 1080 * down e

or-le : (a b : ℕ) (p q : Bool) → (T p → a < b) → (T q → a ≡ b) → T (p || (q && true)) → a ≤ b
or-le a b true q f g h = le_of_lt (f tt)
or-le a b false true f g h = le_of_eq (g tt)
or-le a b false false f g h = absurd h

pub small : (x : Float) → T (lt (bits 0) x) → T (le x (fin false 135 (pos 3))) → Small x
unfolding lt le eq of_bits
small nan p q = absurd p
small (inf true) p q = absurd p
small (inf false) p q = absurd q
small (fin true m e) p q = absurd p
small (fin false m e) p q =
    let N = m * up e in
    record {
      m = m;
      e = e;
      is = refl;
      above =
          subst (λ (z : ℕ). 0 < z) (mul-one N)
          (subst (λ (z : ℕ). z < N * 1) (zero-mul (down e)) (ltb→lt (0 * down e) (N * 1) p));
      most =
          subst (λ (z : ℕ). z ≤ 1080 * down e) (mul-one N)
          (or-le (N * 1) (1080 * down e) (ltb (N * 1) (1080 * down e)) (eqb (N * 1) (1080 * down e))
          (ltb→lt (N * 1) (1080 * down e)) (eqb→eq (N * 1) (1080 * down e)) q);
    }

-- ---- comparing a float whose value is t
cmp_true : (z : Float) (t : ℕ) → HasValue z false t 1 → (m : ℕ) (e : ℤ) → lt z (fin false m e) ≡ true
    → t * down e < m * up e
unfolding lt
cmp_true nan t v m e h = absurd v
cmp_true (inf s) t v m e h = absurd v
cmp_true (fin true p g) t v m e h = absurd (true≢false v.0)
cmp_true (fin false p g) t v m e h =
    let q : p * up g ≡ t * down g = sym (mul-one (p * up g)) ∙ v.1 in
    let l : t * down g * down e < m * up e * down g
    = subst (λ (y : ℕ). y * down e < m * up e * down g) q (ltb-true (p * up g * down e) (m * up e * down g) h) in
    lt_of_mul-lt-mul_right (down g) (subst (λ (y : ℕ). y < m * up e * down g) (mul_right_comm t (down g) (down e)) l)

cmp_false : (z : Float) (t : ℕ) → HasValue z false t 1 → (m : ℕ) (e : ℤ) → lt z (fin false m e) ≡ false
    → m * up e ≤ t * down e
unfolding lt
cmp_false nan t v m e h = absurd v
cmp_false (inf s) t v m e h = absurd v
cmp_false (fin true p g) t v m e h = absurd (true≢false v.0)
cmp_false (fin false p g) t v m e h =
    let q : p * up g ≡ t * down g = sym (mul-one (p * up g)) ∙ v.1 in
    let l : m * up e * down g ≤ t * down g * down e
    = subst (λ (y : ℕ). m * up e * down g ≤ y * down e) q (ltb-false (p * up g * down e) (m * up e * down g) h) in
    le_of_mul-le-mul_right (subst (λ (y : ℕ). m * up e * down g ≤ y) (mul_right_comm t (down g) (down e)) l)
    (down_pos g)

-- ---- the quotient, rounded up
part : (n q d r : ℕ) → 0 < d → q + r ≡ n → q < n → n + (d - 1) ≡ q + d + (r - 1)
part n q d r p e l = omega arith

last : (n q d r : ℕ) → q + r ≡ n → n ≤ q → n + (d - 1) ≡ q + (d - 1)
last n q d r e l = omega arith

fewer : (r d : ℕ) → 0 < d → r < d → r - 1 < d
fewer r d p l = omega arith

pred_lt : (d : ℕ) → 0 < d → d - 1 < d
pred_lt d p = omega arith

up_one : (n d : ℕ) → 0 < d → n / d * d < n → (n + (d - 1)) / d ≡ suc (n / d)
up_one n d p l =
    let t = n / d in
    let e : n + (d - 1) ≡ suc t * d + (n % d - 1)
    = part n (t * d) d (n % d) p (div-add-mod' n d) l ∙ ap (λ (y : ℕ). y + (n % d - 1)) (sym (suc-mul t d)) in
    ap (λ (y : ℕ). y / d) e ∙ digits_div (suc t) (fewer (n % d) d p (mod-lt n p))

up_none : (n d : ℕ) → 0 < d → n ≤ n / d * d → (n + (d - 1)) / d ≡ n / d
up_none n d p l =
    ap (λ (y : ℕ). y / d) (last n (n / d * d) d (n % d) (div-add-mod' n d) l) ∙ digits_div (n / d) (pred_lt d p)

one_of : (n d : ℕ) → 0 < d → 0 < n → 1 * d ≤ n + (d - 1)
one_of n d p l = omega arith

over : (n d : ℕ) → 0 < d → 0 < n → 1 ≤ (n + (d - 1)) / d
over n d p l = (le-div_iff_mul-le p).1 (one_of n d p l)

under : (n d : ℕ) → 0 < d → n ≤ 1080 * d → (n + (d - 1)) / d ≤ 1080
under n d p l = le_of_suc-le-suc ((div-lt_iff_lt-mul p).1 (omega arith))

-- ---- truncation
cut-is : (q : ℕ) → q ≤ 1080 → min q 18446744073709551615 ≡ q
cut-is q h = omega arith

module _ (x : Float) (k : Small x) where
  N : ℕ
  N = k.m * up k.e

  D : ℕ
  D = down k.e

  D-pos : 0 < D
  unfolding D
  D-pos = down_pos k.e

  pub above-minus : T (lt (fin true 1 (pos 0)) x)
  unfolding lt
  above-minus = rw k.is (lt→ltb 0 (1 * down k.e + k.m * up k.e * 1) (omega (arith, k.above)))

  pub below_top : T (lt x (fin false 1 (pos 64)))
  unfolding lt
  below_top =
      rw k.is
      (lt→ltb (k.m * up k.e * 1) (18446744073709551616 * down k.e) (omega (arith, k.most, down_pos k.e)))

  quotient : N / D ≤ 1080
  unfolding N D
  quotient = le_of_suc-le-suc ((div-lt_iff_lt-mul D-pos).1 (omega (arith, k.most, down_pos k.e)))

  truncated : to_unsigned 64 x ≡ N / D
  unfolding to_unsigned N D
  truncated = rw k.is (cut-is (N / D) quotient)

  pub whole_part : to_unsigned 64 x ≤ 1080
  whole_part = rw truncated quotient

  held : HasValue (round binary64 false (N / D) 1) false (N / D) 1
  held = round_whole binary64 false (N / D) (le_trans quotient (lit≤ tt))

  pub raised-more : lt (of_int binary64 (pos (to_unsigned 64 x))) x ≡ true → to_unsigned 64 x + 1 ≡ raised x
  unfolding raised of_int N D
  raised-more h =
      let t = N / D in
      let h1 : lt (of_int binary64 (pos t)) x ≡ true
      = subst (λ (y : ℕ). lt (of_int binary64 (pos y)) x ≡ true) truncated h in
      let h2 : lt (round binary64 false t 1) (fin false k.m k.e) ≡ true
      = subst (λ (y : Float). lt (round binary64 false t 1) y ≡ true) k.is h1 in
      ap (λ (y : ℕ). y + 1) truncated ∙ add-one t
      ∙ sym (up_one N D D-pos (cmp_true (round binary64 false t 1) t held k.m k.e h2)) ∙ sym (ap raised k.is)

  pub raised-same : lt (of_int binary64 (pos (to_unsigned 64 x))) x ≡ false → to_unsigned 64 x ≡ raised x
  unfolding raised of_int N D
  raised-same h =
      let t = N / D in
      let h1 : lt (of_int binary64 (pos t)) x ≡ false
      = subst (λ (y : ℕ). lt (of_int binary64 (pos y)) x ≡ false) truncated h in
      let h2 : lt (round binary64 false t 1) (fin false k.m k.e) ≡ false
      = subst (λ (y : Float). lt (round binary64 false t 1) y ≡ false) k.is h1 in
      truncated ∙ sym (up_none N D D-pos (cmp_false (round binary64 false t 1) t held k.m k.e h2))
      ∙ sym (ap raised k.is)

  pub raised-above : 1 ≤ raised x
  unfolding raised N D
  raised-above = rw k.is (over (k.m * up k.e) (down k.e) (down_pos k.e) k.above)

  pub raised-most : raised x ≤ 1080
  unfolding raised N D
  raised-most = rw k.is (under (k.m * up k.e) (down k.e) (down_pos k.e) k.most)

-- ---- a number below zero
neg_pred : (r : ℕ) → 1 ≤ r → neg_ℤ (pos r) ≡ negsuc (r - 1)
neg_pred zero h = absurd (lt_irrefl 0 h)
neg_pred (suc r) h = ap negsuc (sym (less r))

pub floor-neg : (w : Float) → T (lt (bits 0) (neg w)) → T (le (neg w) (fin false 135 (pos 3)))
    → floor w ≡ negsuc (raised (neg w) - 1)
unfolding lt le eq of_bits neg raised
floor-neg nan p q = absurd p
floor-neg (inf true) p q = absurd q
floor-neg (inf false) p q = absurd p
floor-neg (fin false m e) p q = absurd p
floor-neg (fin true m e) p q =
    neg_pred (raised (fin false m e)) (raised-above (fin false m e) (small (fin false m e) p q))

pub of_int-neg : (c : ℕ) → 1 ≤ c → of_int binary64 (negsuc (c - 1)) ≡ neg (of_int binary64 (pos c))
unfolding of_int
of_int-neg zero h = absurd (lt_irrefl 0 h)
of_int-neg (suc c) h = ap (λ (y : ℕ). round binary64 true (suc y) 1) (less c) ∙ sym (round-neg false (suc c) 1)

-- ---- any other number up to 1024.5
pub record Part (w : Float) : Type 0 where
  pub is : floor w ≡ pos (to_unsigned 64 w)
  pub most : to_unsigned 64 w ≤ 1024
  pub above : T (lt (fin true 1 (pos 0)) w)
  pub below : T (lt w (fin false 1 (pos 64)))

half-most : (n d : ℕ) → 0 < d → n * 2 ≤ 2049 * d → n < 1025 * d
half-most n d p h = omega arith

far : (n d : ℕ) → 0 < d → n * 2 ≤ 2049 * d → n * 1 < 18446744073709551616 * d
far n d p h = omega arith

sum-pos : (a b : ℕ) → 0 < b → 0 < 1 * b + a * 1
sum-pos a b h = omega arith

sum_pos' : (a b : ℕ) → 0 < b → 0 < a * 1 + 18446744073709551616 * b
sum_pos' a b h = omega arith

positive-part : (m : ℕ) (e : ℤ) → T (le (fin false m e) (fin false 2049 (negsuc 0))) → Part (fin false m e)
unfolding lt le eq cut to_unsigned
positive-part m e h =
    let N = m * up e in
    let D = down e in
    let l : N * 2 ≤ 2049 * D
    = or-le (N * 2) (2049 * D) (ltb (N * 2) (2049 * D)) (eqb (N * 2) (2049 * D)) (ltb→lt (N * 2) (2049 * D))
    (eqb→eq (N * 2) (2049 * D)) h in
    let q : N / D ≤ 1024 = le_of_suc-le-suc ((div-lt_iff_lt-mul (down_pos e)).1 (half-most N D (down_pos e) l)) in
    let k : min (N / D) 18446744073709551615 ≡ N / D = cut-is (N / D) (le_trans q (lit≤ tt)) in
    record {
      is = ap pos (sym k);
      most = rw k q;
      above = lt→ltb 0 (1 * D + N * 1) (sum-pos N D (down_pos e));
      below = lt→ltb (N * 1) (18446744073709551616 * D) (far N D (down_pos e) l);
    }

nearly : (n d : ℕ) → 0 < d → n ≤ 0 → n + (d - 1) < d
nearly n d p h = omega arith

none_lt : (n d : ℕ) → 0 < d → n ≤ 0 → n * 1 < 1 * d
none_lt n d p h = omega arith

zero-raised : (n d : ℕ) → 0 < d → n ≤ 0 → (n + (d - 1)) / d ≡ 0
zero-raised n d p h = div-eq_of_lt (nearly n d p h)

zero-part : (m : ℕ) (e : ℤ) → lt (bits 0) (fin false m e) ≡ false → Part (fin true m e)
unfolding lt le eq cut to_unsigned raised of_bits
zero-part m e h =
    let N = m * up e in
    let D = down e in
    let z : N ≤ 0
    = subst (λ (y : ℕ). y ≤ 0) (mul-one N) (subst (λ (y : ℕ). N * 1 ≤ y) (zero-mul D) (ltb-false (0 * D) (N * 1) h)) in
    record {
      is = ap (λ (y : ℕ). neg_ℤ (pos y)) (zero-raised N D (down_pos e) z);
      most = lit≤ tt;
      above = lt→ltb (N * 1) (1 * D) (none_lt N D (down_pos e) z);
      below = lt→ltb 0 (N * 1 + 18446744073709551616 * D) (sum_pos' N D (down_pos e));
    }

pub part_of : (w : Float) → T (le (neg w) (fin false 135 (pos 3))) → T (le w (fin false 2049 (negsuc 0)))
    → lt (bits 0) (neg w) ≡ false → Part w
unfolding le lt eq neg
part_of nan p q h = absurd p
part_of (inf true) p q h = absurd p
part_of (inf false) p q h = absurd q
part_of (fin false m e) p q h = positive-part m e q
part_of (fin true m e) p q h = zero-part m e h
