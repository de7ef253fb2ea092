-- Floats that are equal but for the sign of a zero. Products keep this, and a sum that is not -0 does not see it; and a
-- sum whose first term is not -0 is not -0 either. Assumes nothing.
use Rattle.std.specs.Prelude.{◌≡◌, refl, ◌⊎◌, Bool, true, false, not, ◌&&◌, cond, ℕ, zero, suc, ◌+◌, ◌-◌, ◌*◌, ◌^◌, ◌≤◌, ◌<◌, T, ltb, eqb, ℤ, pos, Float}
use Rattle.std.proofs.Common.{sym, ap, subst, ◌∙◌, inl, inr, mul-pos, zero-mul, mul-zero, suc-mul, add-mul, mul_right_comm, lt_of_mul-lt-mul_right, mul-lt-mul_of_pos_right, zero-lt-suc, mul_comm, mul_assoc, add-zero, one-mul, le_trans, le_of_eq, arith, ltb-true, lt-ltb, le-ltb, lit<, pow_pos}
use Rattle.std.proofs.lemmas.Bool.{false≢true, eqb-false}
use Rattle.std.proofs.Math.Nat.{sub-zero}
use Rattle.std.specs.Float.{nan, inf, fin, binary64}
use Rattle.std.specs.Float.Ieee.{unlike, up, down, odd, units, round, neg, add, mul, div, sum, of_bits, fits}
use Rattle.std.specs.Float.Ieee.Fits.{up_pos, down_pos, round_is, add-fits}
use Rattle.std.specs.Float.Ieee.Order.{round_mono}
use Rattle.std.specs.Float.Ieee.Positive.{positive, above, above_of_le}
use Rattle.base.specs.Floats.{◌⊕◌, ◌⊖◌, ◌⊗◌, ◌⊘◌, +0, sign}
use Rattle.base.specs.FloatLaws.{round-neg, odd-signed}
use Rattle.base.specs.SignLaws.{neg-neg, div-neg-both, sub-neg, round-zero}
use Rattle.base.specs.UnitLaws.{units_of, shift_of}

-- ---- equal but for the sign of a zero
abbrev pub zero_of : Bool → Float
zero_of s = fin s 0 (pos 0)

pub record Zeros (x y : Float) : Type 0 where
  pub left : Bool
  pub right : Bool
  pub left_is : x ≡ zero_of left
  pub right_is : y ≡ zero_of right

abbrev pub Near : Float → Float → Type 0
Near x y = (x ≡ y) ⊎ Zeros x y

-- ---- products
zeros-times : (s t : Bool) (z : Float) → Near (zero_of s ⊗ z) (zero_of t ⊗ z)
unfolding mul
zeros-times s t nan = inl refl
zeros-times s t (inf r) = inl refl
zeros-times s t (fin r n d) =
    let p : 0 < 1 * down d = mul-pos (lit< tt) (down_pos d) in
    inr (record {
      left = unlike s r;
      right = unlike t r;
      left_is = round-zero (unlike s r) (0 * (n * up d)) (1 * down d) (zero-mul (n * up d)) p;
      right_is = round-zero (unlike t r) (0 * (n * up d)) (1 * down d) (zero-mul (n * up d)) p;
    })

times-zeros : (s t : Bool) (z : Float) → Near (z ⊗ zero_of s) (z ⊗ zero_of t)
unfolding mul
times-zeros s t nan = inl refl
times-zeros s t (inf r) = inl refl
times-zeros s t (fin r n d) =
    let p : 0 < down d * 1 = mul-pos (down_pos d) (lit< tt) in
    inr (record {
      left = unlike r s;
      right = unlike r t;
      left_is = round-zero (unlike r s) (n * up d * 0) (down d * 1) (mul-zero (n * up d)) p;
      right_is = round-zero (unlike r t) (n * up d * 0) (down d * 1) (mul-zero (n * up d)) p;
    })

module _ {x y : Float} (h : Near x y) (z : Float) where
  pub near-left : Near (x ⊗ z) (y ⊗ z)
  near-left = elim h [
    | inl e ↦ inl (ap (λ (w : Float). w ⊗ z) e)
    | inr k ↦ subst (λ (w : Float). Near (w ⊗ z) (y ⊗ z)) (sym k.left_is)
        (subst (λ (w : Float). Near (zero_of k.left ⊗ z) (w ⊗ z)) (sym k.right_is)
        (zeros-times k.left k.right z))
  ]

  pub near-right : Near (z ⊗ x) (z ⊗ y)
  near-right = elim h [
    | inl e ↦ inl (ap (λ (w : Float). z ⊗ w) e)
    | inr k ↦ subst (λ (w : Float). Near (z ⊗ w) (z ⊗ y)) (sym k.left_is)
        (subst (λ (w : Float). Near (z ⊗ zero_of k.left) (z ⊗ w)) (sym k.right_is)
        (times-zeros k.left k.right z))
  ]

-- ---- a quotient of a difference, all three signs turned
zeros-over : (s t : Bool) (z : Float) → Near (zero_of s ⊘ neg z) (zero_of t ⊘ z)
unfolding div neg
zeros-over s t nan = inl refl
zeros-over s t (inf r) = inr (record { left = unlike s (not r); right = unlike t r; left_is = refl; right_is = refl })
zeros-over s t (fin r n d) = go (eqb n 0) refl
  where
    some : eqb n 0 ≡ false → 0 < n
    some e = let z = eqb-false n 0 e in omega arith

    go : (b : Bool) → eqb n 0 ≡ b → Near (cond b nan (round binary64 (unlike s (not r)) (0 * down d) (n * up d * 1)))
        (cond b nan (round binary64 (unlike t r) (0 * down d) (n * up d * 1)))
    go true e = inl refl
    go false e =
        let p : 0 < n * up d * 1 = mul-pos (mul-pos (some e) (up_pos d)) (lit< tt) in
        inr (record {
          left = unlike s (not r);
          right = unlike t r;
          left_is = round-zero (unlike s (not r)) (0 * down d) (n * up d * 1) (zero-mul (down d)) p;
          right_is = round-zero (unlike t r) (0 * down d) (n * up d * 1) (zero-mul (down d)) p;
        })

-- a difference that is +0, its terms' signs turned, is a zero
record Some (x : Float) : Type 0 where
  minus : Bool
  is : x ≡ zero_of minus

turned : (x y : Float) → x ⊖ y ≡ +0 → Some (neg x ⊖ neg y)
unfolding of_bits neg
turned x y e = elim (sub-neg (neg x) (neg y)) [
  | inl k ↦
      let a : x ⊖ y ≡ neg (neg x ⊖ neg y) = ap (λ (u : Float). u ⊖ y) (sym (neg-neg x))
      ∙ ap (λ (u : Float). neg (neg x) ⊖ u) (sym (neg-neg y)) ∙ k in
      record { minus = true; is = sym (neg-neg (neg x ⊖ neg y)) ∙ ap neg (sym a ∙ e) }
  | inr k ↦ record { minus = false; is = k }
]

pub quotient-near : (x y z : Float) → Near ((neg x ⊖ neg y) ⊘ neg z) ((x ⊖ y) ⊘ z)
unfolding of_bits
quotient-near x y z = elim (sub-neg x y) [
  | inl e ↦ inl (ap (λ (w : Float). w ⊘ neg z) e ∙ div-neg-both (x ⊖ y) z)
  | inr e ↦
      let k = turned x y e in
      subst (λ (w : Float). Near (w ⊘ neg z) ((x ⊖ y) ⊘ z)) (sym k.is)
      (subst (λ (w : Float). Near (zero_of k.minus ⊘ neg z) (w ⊘ z)) (sym e) (zeros-over k.minus false z))
]

-- ---- what is -0
abbrev pub minus_zero : Float → Bool
minus_zero nan = false
minus_zero (inf s) = false
minus_zero (fin s zero e) = s
minus_zero (fin s (suc m) e) = false

-- a fraction rounded: not with the sign plus, and not one of at least the smallest value
signed_plus : (x : Float) → sign x ≡ false → minus_zero x ≡ false
signed_plus nan h = refl
signed_plus (inf s) h = refl
signed_plus (fin s zero e) h = h
signed_plus (fin s (suc m) e) h = refl

plus_units : (b : Bool) (q k : ℕ) → minus_zero (cond b (odd 54 false q k 1074) (inf false)) ≡ false
plus_units true q k = signed_plus (odd 54 false q k 1074) (odd-signed 54 false q k 1074)
plus_units false q k = refl

units_plus : (q k : ℕ) → minus_zero (units binary64 false q k) ≡ false
unfolding units
units_plus q k = plus_units (ltb (q * 2 ^ k) (2 ^ 2098)) q k

plus_rounded : (a c : ℕ) → minus_zero (round binary64 false a c) ≡ false
plus_rounded a c = ap minus_zero (round_is binary64 false a c) ∙ units_plus _ _

above-not : (x : Float) → T (above x) → minus_zero (neg x) ≡ false
unfolding neg
above-not nan h = absurd h
above-not (inf s) h = refl
above-not (fin true m e) h = absurd h
above-not (fin false zero e) h = absurd h
above-not (fin false (suc m) e) h = refl

least : T (positive (round binary64 false 1 (2 ^ 1074)))
unfolding round
least = tt

some-rounded : (s : Bool) (a c : ℕ) → 0 < c → c ≤ a * 2 ^ 1074 → minus_zero (round binary64 s a c) ≡ false
some-rounded false a c p h = plus_rounded a c
some-rounded true a c p h =
    ap minus_zero (sym (round-neg false a c))
    ∙ above-not (round binary64 false a c)
    (above_of_le (round binary64 false 1 (2 ^ 1074)) (round binary64 false a c) least
    (round_mono binary64 1 (2 ^ 1074) a c (pow_pos 1074) p (le_trans (le_of_eq (one-mul c)) h)))

-- ---- sums
-- a finite value that the format holds is a whole number of its smallest
units_of_lem : (s : Bool) (m : ℕ) (e : ℤ) → T (fits binary64 (fin s m e)) → m * up e * 2 ^ 1074 ≡ m * 2 ^ shift_of e * down e
units_of_lem s zero e f = ap (λ (x : ℕ). x * 2 ^ 1074) (zero-mul (up e))
    ∙ (zero-mul (2 ^ 1074) ∙ sym (ap (λ (x : ℕ). x * down e) (zero-mul (2 ^ shift_of e)) ∙ zero-mul (down e)))
units_of_lem s (suc m) e f = (units_of s m e f).value

-- so two of them, over one denominator c, that differ, differ by at least the smallest
gap : (a b u v c k : ℕ) → a * k ≡ u * c → b * k ≡ v * c → b < a → 0 < k → c ≤ (a - b) * k
gap a b u v c k e g h p =
    let d : a ≡ b + (a - b) = omega arith in
    let s : a * k ≡ b * k + (a - b) * k = ap (λ (x : ℕ). x * k) d ∙ add-mul b (a - b) k in
    let l : b * k < a * k = mul-lt-mul_of_pos_right h p in
    let n : v < u = lt_of_mul-lt-mul_right c (omega (arith, e, g, l)) in
    let w : u ≡ suc v + (u - suc v) = omega arith in
    let t : u * c ≡ suc v * c + (u - suc v) * c = ap (λ (x : ℕ). x * c) w ∙ add-mul (suc v) (u - suc v) c in
    omega (arith, s, t, suc-mul v c, e, g)

unlike_plus : (s t : Bool) (a b u v c : ℕ) → a * 2 ^ 1074 ≡ u * c → b * 2 ^ 1074 ≡ v * c → 0 < c
    → minus_zero (cond (ltb a b) (round binary64 t (b - a) c) (round binary64 (s && ltb b a) (a - b) c)) ≡ false
unlike_plus s t a b u v c e g p = go (ltb a b) (ltb b a) refl refl
  where
    go : (x y : Bool) → ltb a b ≡ x → ltb b a ≡ y
        → minus_zero (cond x (round binary64 t (b - a) c) (round binary64 (s && y) (a - b) c)) ≡ false
    go true y k l = some-rounded t (b - a) c p (gap b a v u c (2 ^ 1074) g e (ltb-true a b k) (pow_pos 1074))
    go false true k l =
        some-rounded (s && true) (a - b) c p (gap a b u v c (2 ^ 1074) e g (ltb-true b a l) (pow_pos 1074))
    go false false k l = ap (λ (z : Bool). minus_zero (round binary64 z (a - b) c)) (none s) ∙ plus_rounded (a - b) c
      where
        none : (z : Bool) → (z && false) ≡ false
        none true = refl
        none false = refl

sum_plus : (s t : Bool) (a b u v c : ℕ) → a * 2 ^ 1074 ≡ u * c → b * 2 ^ 1074 ≡ v * c → 0 < c → (s ≡ true → 0 < a)
    → minus_zero (sum binary64 s a t b c) ≡ false
unfolding sum
sum_plus false false a b u v c e g p h = plus_rounded (a + b) c
sum_plus true true a b u v c e g p h =
    let j : 0 < a = h refl in
    let x : a * 2 ^ 1074 ≤ (a + b) * 2 ^ 1074 = rw (add-mul a b (2 ^ 1074)) (grows (a * 2 ^ 1074) (b * 2 ^ 1074)) in
    let y : c ≤ (a - 0) * 2 ^ 1074 = gap a 0 u 0 c (2 ^ 1074) e (zero-mul (2 ^ 1074) ∙ sym (zero-mul c)) j
    (pow_pos 1074) in
    some-rounded true (a + b) c p (through c a (a + b) (2 ^ 1074) y x)
  where
    grows : (x y : ℕ) → x ≤ x + y
    grows x y = omega arith

    through : (c a b k : ℕ) → c ≤ (a - 0) * k → a * k ≤ b * k → c ≤ b * k
    through c a b k y x = let z : a - 0 ≡ a = omega arith in omega (arith, rw z at y, x)
sum_plus true false a b u v c e g p h = unlike_plus true false a b u v c e g p
sum_plus false true a b u v c e g p h = unlike_plus false true a b u v c e g p

no_minus : (s : Bool) (m : ℕ) (e d : ℤ) → minus_zero (fin s m e) ≡ false → s ≡ true → 0 < m * up e * down d
no_minus s zero e d h k = absurd (false≢true (sym h ∙ k))
no_minus s (suc m) e d h k = mul-pos (mul-pos (zero-lt-suc m) (up_pos e)) (down_pos d)

-- a sum of two values that the format holds is not -0 where the first is not
pub add_plus : (x y : Float) → T (fits binary64 x) → T (fits binary64 y) → minus_zero x ≡ false
    → minus_zero (x ⊕ y) ≡ false
unfolding add
add_plus nan y f g h = refl
add_plus (inf s) nan f g h = refl
add_plus (inf true) (inf true) f g h = refl
add_plus (inf true) (inf false) f g h = refl
add_plus (inf false) (inf true) f g h = refl
add_plus (inf false) (inf false) f g h = refl
add_plus (inf s) (fin t n d) f g h = refl
add_plus (fin s m e) nan f g h = refl
add_plus (fin s m e) (inf t) f g h = refl
add_plus (fin s m e) (fin t n d) f g h =
    sum_plus s t (m * up e * down d) (n * up d * down e) (m * 2 ^ shift_of e) (n * 2 ^ shift_of d) (down e * down d)
    (over (m * up e) (down d) (2 ^ 1074) (m * 2 ^ shift_of e) (down e) (units_of_lem s m e f))
    (over (n * up d) (down e) (2 ^ 1074) (n * 2 ^ shift_of d) (down d) (units_of_lem t n d g)
    ∙ ap (λ (z : ℕ). n * 2 ^ shift_of d * z) (mul_comm (down d) (down e)))
    (mul-pos (down_pos e) (down_pos d)) (no_minus s m e d h)
  where
    over : (a b k u c : ℕ) → a * k ≡ u * c → a * b * k ≡ u * (c * b)
    over a b k u c z = mul_right_comm a b k ∙ (ap (λ (w : ℕ). w * b) z ∙ mul_assoc u c b)

-- and does not see the sign of a zero that is added to it
sum-zero : (r s : Bool) (a c : ℕ) → (r ≡ true → 0 < a) → sum binary64 r a s 0 c ≡ round binary64 r a c
unfolding sum
sum-zero false false a c h = ap (λ (z : ℕ). round binary64 false z c) (add-zero a)
sum-zero true true a c h = ap (λ (z : ℕ). round binary64 true z c) (add-zero a)
sum-zero true false a c h =
    let l = lt-ltb 0 a (h refl) in
    let n : ltb a 0 ≡ false = le-ltb a 0 (omega arith) in
    rw (n, l, sub-zero a) refl
sum-zero false true a c h =
    let n : ltb a 0 ≡ false = le-ltb a 0 (omega arith) in
    rw (n, sub-zero a) refl

zero_added : (x : Float) (s t : Bool) → minus_zero x ≡ false → x ⊕ zero_of s ≡ x ⊕ zero_of t
unfolding add
zero_added nan s t h = refl
zero_added (inf r) s t h = refl
zero_added (fin r m e) s t h =
    let z = zero-mul (down e) in
    let k = no_minus r m e (pos 0) h in
    rw z (sum-zero r s (m * up e * 1) (down e * 1) k ∙ sym (sum-zero r t (m * up e * 1) (down e * 1) k))

pub near_added : (x y z : Float) → minus_zero x ≡ false → Near y z → x ⊕ y ≡ x ⊕ z
near_added x y z h n = elim n [
  | inl e ↦ ap (λ (w : Float). x ⊕ w) e
  | inr k ↦ ap (λ (w : Float). x ⊕ w) k.left_is
      ∙ (zero_added x k.left k.right h ∙ sym (ap (λ (w : Float). x ⊕ w) k.right_is))
]

-- ---- a running sum: a value of the format that is not -0, as +0 is
pub record Running (x : Float) : Type 0 where
  pub held : T (fits binary64 x)
  pub plus : minus_zero x ≡ false

pub running_zero : Running +0
unfolding of_bits fits
running_zero = record { held = tt; plus = refl }

pub running_more : (x y : Float) → T (fits binary64 y) → Running x → Running (x ⊕ y)
running_more x y f r = record { held = add-fits binary64 x y; plus = add_plus x y r.held f r.plus }
