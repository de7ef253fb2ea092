-- The finite values of binary64 in units of the smallest, 2 ^ -1074: m * 2 ^ i with an m below 2 ^ 53. Their patterns.
-- Assumes nothing.
use Rattle.std.specs.Prelude.{◌≡◌, refl, ℕ, zero, suc, ◌+◌, ◌-◌, ◌*◌, ◌/◌, ◌%◌, ◌^◌, ◌≤◌, ◌<◌, Bool, true, false, ◌&&◌, cond, ℤ, pos, negsuc, T, leb, ltb, eqb, Float}
use Rattle.std.proofs.Common.{sym, ap, ◌∙◌, subst, arith, inl, inr, leb→le, ltb→lt, eqb→eq, pow-add, pow_pos, pow_mono}
use native.Mathlib.Nat.{le_refl, le_trans, le_of_eq, le_antisymm, le_of_suc-le-suc, lt_of_lt_of_le, lt_of_le_of_lt, lt_of_not-le, not-le_of_lt, lt_irrefl, mul_comm, mul_assoc, mul_left_comm, mul_right_comm, mul-one, mul-le-mul_right, mul-lt-mul_of_pos_right, lt_of_mul-lt-mul_right, mul-pos, mod-eq_of_lt, pow-succ', mul-div_cancel, eq_of_mul-eq-mul_right}
use Rattle.std.proofs.Math.Dec.{not_T}
use Rattle.std.proofs.Math.Pow.{pow-lt}
use Rattle.std.proofs.lemmas.Nat.{shl-shr}
use Rattle.std.specs.Float.{nan, inf, fin, binary64}
use Rattle.std.specs.Float.Ieee.{up, down, size, odd, of_fields, of_bits, to_bits, fits, hid, top}
use Rattle.std.specs.Float.Ieee.Digits.{size-lt, size-le}
use Rattle.std.specs.Float.Ieee.Fits.{and_l, and_r, down_pos, kept-lt}
use Rattle.std.specs.Float.Ieee.Bits.{of_bits-to_bits, is_false, cond_no}
use Rattle.std.specs.Float.Ieee.Exact.{HasValue, odd_sign}
use Rattle.std.specs.Float.Ieee.Nearest.{div_same}
use Rattle.std.specs.Float.Ieee.Positive.{positive}
use Rattle.base.specs.Floats.{units_in}
use Rattle.base.specs.Split.{units_at}

-- ---- the digits of a number
pub size_is : (z n : ℕ) → 2 ^ z ≤ n → n < 2 ^ suc z → size n ≡ suc z
size_is z n l h = le_antisymm (size-le n (suc z) h)
    (lt_of_not-le (λ (g : size n ≤ z). not-le_of_lt (size-lt n) (le_trans (pow_mono g) l)))

-- ---- the pattern of a value of a * 2 ^ k units, with an a of 53 digits or 2 ^ 53
pub bits_of : (m : ℕ) (e : ℤ) (u : ℕ) → m * up e * 2 ^ 1074 ≡ u * down e
    → to_bits binary64 (fin false m e) ≡ (size u - 53) * 2 ^ 52 + u / 2 ^ (size u - 53)
unfolding to_bits
bits_of m e u h =
    let s : m * up e * 2 ^ 1074 / down e ≡ u = ap (λ (x : ℕ). x / down e) h ∙ mul-div_cancel u (down_pos e) in
    ap (λ (x : ℕ). 0 + (size x - 53) * 2 ^ 52 + x / 2 ^ (size x - 53)) s
    ∙ ap (λ (x : ℕ). x + u / 2 ^ (size u - 53)) (native.Mathlib.Nat.zero-add ((size u - 53) * 2 ^ 52))

packed : (u k : ℕ) (a : ℕ) → size u ≡ 53 + k → u ≡ a * 2 ^ k
    → (size u - 53) * 2 ^ 52 + u / 2 ^ (size u - 53) ≡ k * 2 ^ 52 + a
packed u k a s e =
    let d : size u - 53 ≡ k = ap (λ (x : ℕ). x - 53) s ∙ off k in
    ap (λ (x : ℕ). x * 2 ^ 52 + u / 2 ^ x) d ∙ ap (λ (x : ℕ). k * 2 ^ 52 + x / 2 ^ k) e
    ∙ ap (λ (x : ℕ). k * 2 ^ 52 + x) (shl-shr a k)
  where
    off : (i : ℕ) → 53 + i - 53 ≡ i
    off i = omega arith

packed_at : (a k : ℕ) → 2 ^ 52 ≤ a → a ≤ 2 ^ 53
    → (size (a * 2 ^ k) - 53) * 2 ^ 52 + a * 2 ^ k / 2 ^ (size (a * 2 ^ k) - 53) ≡ k * 2 ^ 52 + a
packed_at a k l m = elim (native.Mathlib.Nat.eq-or-lt_of_le m) [
  | inl e ↦
      let u = a * 2 ^ k in
      let x : u ≡ 2 ^ 52 * 2 ^ suc k = ap (λ (z : ℕ). z * 2 ^ k) e ∙ mul_assoc (2 ^ 52) 2 (2 ^ k)
      ∙ ap (λ (z : ℕ). 2 ^ 52 * z) (sym (pow-succ' 2 k)) in
      let y : u ≡ 2 ^ (53 + k) = ap (λ (z : ℕ). z * 2 ^ k) e ∙ sym (pow-add 2 53 k) in
      let s : size u ≡ 53 + suc k = size_is (53 + k) u (le_of_eq (sym y))
      (lt_of_le_of_lt (le_of_eq y) (pow-lt (le_refl (suc (53 + k))))) ∙ fifty k in
      packed u (suc k) (2 ^ 52) s x ∙ carry k ∙ ap (λ (z : ℕ). k * 2 ^ 52 + z) (sym e)
  | inr h ↦
      let u = a * 2 ^ k in
      let s : size u ≡ 53 + k =
      size_is (52 + k) u (le_trans (le_of_eq (pow-add 2 52 k)) (mul-le-mul_right (2 ^ k) l))
      (lt_of_lt_of_le (mul-lt-mul_of_pos_right h (pow_pos k))
      (le_of_eq (sym (pow-add 2 53 k) ∙ ap (λ (z : ℕ). 2 ^ z) (again k)))) ∙ sym (again k) in
      packed u k a s refl
]
  where
    fifty : (i : ℕ) → suc (53 + i) ≡ 53 + suc i
    fifty i = omega arith

    again : (i : ℕ) → 53 + i ≡ suc (52 + i)
    again i = omega arith

    carry : (i : ℕ) → suc i * 2 ^ 52 + 2 ^ 52 ≡ i * 2 ^ 52 + 2 ^ 53
    carry i = omega arith

pub value_bits : (v : Float) (a k : ℕ) → HasValue v false (a * 2 ^ k) (2 ^ 1074) → 2 ^ 52 ≤ a → a ≤ 2 ^ 53
    → to_bits binary64 v ≡ k * 2 ^ 52 + a
value_bits nan a k h l m = absurd h
value_bits (inf s) a k h l m = absurd h
value_bits (fin s x e) a k h l m =
    ap (λ (t : Bool). to_bits binary64 (fin t x e)) h.0 ∙ bits_of x e (a * 2 ^ k) h.1 ∙ packed_at a k l m

-- ---- the units of a value that the format holds
pub record Units (m i : ℕ) (e : ℤ) : Type 0 where
  pub digits : m < 2 ^ 53
  pub value : m * up e * 2 ^ 1074 ≡ m * 2 ^ i * down e
  pub under : m * 2 ^ i < 2 ^ 2098

pub pow_le_back : (a l : ℕ) → 2 ^ a ≤ 2 ^ l → a ≤ l
pow_le_back a l h = le_of_suc-le-suc (lt_of_not-le (λ (g : suc l ≤ a). lt_irrefl (2 ^ l) (lt_of_lt_of_le (pow-lt g) h)))

pub shift_of : ℤ → ℕ
shift_of (pos a) = a + 1074
shift_of (negsuc a) = 1074 - suc a

shift_value : (m : ℕ) (e : ℤ) → down e ≤ 2 ^ 1074 → m * up e * 2 ^ 1074 ≡ m * 2 ^ shift_of e * down e
unfolding shift_of
shift_value m (pos a) h =
    mul_assoc m (2 ^ a) (2 ^ 1074) ∙ ap (λ (x : ℕ). m * x) (sym (pow-add 2 a 1074)) ∙ sym (mul-one (m * 2 ^ (a + 1074)))
shift_value m (negsuc a) h =
    ap (λ (x : ℕ). x * 2 ^ 1074) (mul-one m) ∙ ap (λ (x : ℕ). m * 2 ^ x) (sym (less a (pow_le_back (suc a) 1074 h)))
    ∙ ap (λ (x : ℕ). m * x) (pow-add 2 (1074 - suc a) (suc a)) ∙ sym (mul_assoc m (2 ^ (1074 - suc a)) (2 ^ suc a))
  where
    less : (b : ℕ) → suc b ≤ 1074 → 1074 - suc b + suc b ≡ 1074
    less b g = omega arith

pub units_of : (s : Bool) (m : ℕ) (e : ℤ) → T (fits binary64 (fin s (suc m) e)) → Units (suc m) (shift_of e) e
unfolding fits
units_of s m e t =
    let a = and_l (eqb (suc m % 2) 1 && ltb (suc m) (2 ^ 53) && leb (down e) (2 ^ 1074))
    (ltb (suc m * up e) (2 ^ 1024 * down e)) t in
    let u = ltb→lt (suc m * up e) (2 ^ 1024 * down e)
    (and_r (eqb (suc m % 2) 1 && ltb (suc m) (2 ^ 53) && leb (down e) (2 ^ 1074))
    (ltb (suc m * up e) (2 ^ 1024 * down e)) t) in
    let d = leb→le (down e) (2 ^ 1074) (and_r (eqb (suc m % 2) 1 && ltb (suc m) (2 ^ 53))
    (leb (down e) (2 ^ 1074)) a) in
    let l = ltb→lt (suc m) (2 ^ 53) (and_r (eqb (suc m % 2) 1) (ltb (suc m) (2 ^ 53))
    (and_l (eqb (suc m % 2) 1 && ltb (suc m) (2 ^ 53)) (leb (down e) (2 ^ 1074)) a)) in
    let v = shift_value (suc m) e d in
    record {
      digits = l;
      value = v;
      under = lt_of_mul-lt-mul_right (down e)
          (lt_of_le_of_lt (le_of_eq (sym v))
          (lt_of_lt_of_le (mul-lt-mul_of_pos_right u (pow_pos 1074))
          (le_of_eq (mul_right_comm (2 ^ 1024) (down e) (2 ^ 1074)))));
    }

-- ---- the pattern of a value above zero is below the infinity's
few : (z : ℕ) → z ≤ 2098 → (z - 53) * 2 ^ 52 ≤ 2045 * 2 ^ 52
few z h = omega arith

joined : (a b : ℕ) → a ≤ 2045 * 2 ^ 52 → b < 2 ^ 53 → a + b < 9218868437227405312
joined a b h k = omega arith

pub bits-under : (x : Float) → T (fits binary64 x) → T (positive x) → to_bits binary64 x < 9218868437227405312
bits-under nan f p = absurd p
bits-under (inf s) f p = absurd p
bits-under (fin true m e) f p = absurd p
bits-under (fin false zero e) f p = absurd p
bits-under (fin false (suc m) e) f p =
    let u = units_of false m e f in
    let n = suc m * 2 ^ shift_of e in
    lt_of_le_of_lt (le_of_eq (bits_of (suc m) e n u.value))
    (joined ((size n - 53) * 2 ^ 52) (n / 2 ^ (size n - 53)) (few (size n) (size-le n 2098 u.under))
    (kept-lt 53 n))

-- ---- what a pattern below the infinity's stands for
of_bits_is : (b : ℕ) → of_bits binary64 b ≡ of_fields binary64 (leb 9223372036854775808 b)
    (b % 9223372036854775808 / 2 ^ 52) (b % 2 ^ 52)
unfolding of_bits
of_bits_is b = refl

pub clear : (b : ℕ) → b < 9218868437227405312 → of_bits binary64 b ≡ of_fields binary64 false (b / 2 ^ 52) (b % 2 ^ 52)
clear b h =
    let l : b < 9223372036854775808 = omega arith in
    of_bits_is b
    ∙ ap (λ (s : Bool). of_fields binary64 s (b % 9223372036854775808 / 2 ^ 52) (b % 2 ^ 52))
    (is_false (leb 9223372036854775808 b)
    (not_T (leb 9223372036854775808 b) (λ (u : T (leb 9223372036854775808 b)). not-le_of_lt l
    (leb→le 9223372036854775808 b u))))
    ∙ ap (λ (x : ℕ). of_fields binary64 false (x / 2 ^ 52) (b % 2 ^ 52)) (mod-eq_of_lt l)

fields_value : (x t : ℕ) → x < 2047 → HasValue (of_fields binary64 false x t) false
    (cond (eqb x 0) t ((2 ^ 52 + t) * 2 ^ (x - 1))) (2 ^ 1074)
unfolding of_fields
fields_value zero t h =
    subst (λ (n : ℕ). HasValue (odd 53 false t 0 1074) false n (2 ^ 1074)) (mul-one t) (odd_sign 53 false t 0 1074)
fields_value (suc x) t h =
    subst (λ (v : Float). HasValue v false (cond (eqb (suc x) 0) t ((2 ^ 52 + t) * 2 ^ (suc x - 1))) (2 ^ 1074))
    (sym (cond_no (eqb (suc x) 2047) (cond (eqb t 0) (inf false) nan) (odd 53 false (2 ^ 52 + t) x 1074)
    (not_T (eqb (suc x) 2047) (λ (u : T (eqb (suc x) 2047)). differ x h (eqb→eq (suc x) 2047 u)))))
    (subst (λ (n : ℕ). HasValue (odd 53 false (2 ^ 52 + t) x 1074) false n (2 ^ 1074)) (sym this)
    (odd_sign 53 false (2 ^ 52 + t) x 1074))
  where
    differ : (y : ℕ) → suc y < 2047 → suc y ≡ 2047 → ⊥
    differ y g e = omega arith

    back : (y : ℕ) → suc y - 1 ≡ y
    back y = omega arith

    none : (y : ℕ) → suc y ≡ 0 → ⊥
    none y e = omega arith

    this : cond (eqb (suc x) 0) t ((2 ^ 52 + t) * 2 ^ (suc x - 1)) ≡ (2 ^ 52 + t) * 2 ^ x
    this = cond_no (eqb (suc x) 0) t ((2 ^ 52 + t) * 2 ^ (suc x - 1))
        (not_T (eqb (suc x) 0) (λ (u : T (eqb (suc x) 0)). none x (eqb→eq (suc x) 0 u)))
        ∙ ap (λ (y : ℕ). (2 ^ 52 + t) * 2 ^ y) (back x)

pub bits_value : (b : ℕ) → b < 9218868437227405312 → HasValue (of_bits binary64 b) false (units_at b) (2 ^ 1074)
unfolding units_at
bits_value b h = subst (λ (v : Float). HasValue v false
    (cond (eqb (b / 2 ^ 52) 0) (b % 2 ^ 52) ((2 ^ 52 + b % 2 ^ 52) * 2 ^ (b / 2 ^ 52 - 1))) (2 ^ 1074))
    (sym (clear b h)) (fields_value (b / 2 ^ 52) (b % 2 ^ 52) (omega arith))

pub own-units : (x : Float) → T (fits binary64 x) → to_bits binary64 x < 9218868437227405312
    → HasValue x false (units_at (to_bits binary64 x)) (2 ^ 1074)
own-units x f h = subst (λ (v : Float). HasValue v false (units_at (to_bits binary64 x)) (2 ^ 1074))
    (of_bits-to_bits binary64 x f) (bits_value (to_bits binary64 x) h)

pub bits_above : (x : Float) → T (fits binary64 x) → T (positive x) → 0 < to_bits binary64 x
bits_above x f p = elim (native.Mathlib.Nat.eq-zero-or-pos (to_bits binary64 x)) [
  | inl z ↦ absurd (zero-not (subst (λ (v : Float). T (positive v))
      (sym (of_bits-to_bits binary64 x f) ∙ ap (of_bits binary64) z) p))
  | inr h ↦ h
]
  where
    zero-not : T (positive (of_bits binary64 0)) → ⊥
    zero-not t = unfold of_bits in t

-- ---- the units of a finite value
pub units-is : (x : Float) (a : ℕ) → HasValue x false a (2 ^ 1074) → units_in binary64 x ≡ a
unfolding units_in
units-is nan a v = absurd v
units-is (inf s) a v = absurd v
units-is (fin s m e) a v = ap (λ (x : ℕ). x / down e) v.1 ∙ mul-div_cancel a (down_pos e)

-- ---- two values of one sign and size are one
pattern-same : (s : Bool) (m : ℕ) (e : ℤ) (n : ℕ) (d : ℤ) → m * up e * down d ≡ n * up d * down e
    → to_bits binary64 (fin s m e) ≡ to_bits binary64 (fin s n d)
unfolding to_bits
pattern-same s m e n d h =
    ap (λ (x : ℕ). cond s (top binary64) 0 + (size x - 53) * hid binary64 + x / 2 ^ (size x - 53))
    (div_same (m * up e * 2 ^ 1074) (down e) (n * up d * 2 ^ 1074) (down d) (down_pos e) (down_pos d)
    (mul_right_comm (m * up e) (2 ^ 1074) (down d) ∙ ap (λ (x : ℕ). x * 2 ^ 1074) h
    ∙ mul_right_comm (n * up d) (down e) (2 ^ 1074)))

crossed : (M D N D' a c a' c' : ℕ) → M * c ≡ a * D → N * c' ≡ a' * D' → a * c' ≡ a' * c
    → M * D' * (c * c') ≡ N * D * (c * c')
crossed M D N D' a c a' c' v w h =
    let one : M * D' * (c * c') ≡ M * c * (D' * c') = simp (mul_assoc, mul_left_comm) in
    let two : a * D * (D' * c') ≡ a * c' * (D * D') = simp (mul_assoc, mul_comm, mul_left_comm) in
    let three : a' * c * (D * D') ≡ a' * D' * (D * c) = simp (mul_assoc, mul_comm, mul_left_comm) in
    let four : N * c' * (D * c) ≡ N * D * (c * c') = simp (mul_assoc, mul_comm, mul_left_comm) in
    one ∙ ap (λ (x : ℕ). x * (D' * c')) v ∙ two ∙ ap (λ (x : ℕ). x * (D * D')) h ∙ three
    ∙ ap (λ (x : ℕ). x * (D * c)) (sym w) ∙ four

pub unique : (x y : Float) (s : Bool) (a c a' c' : ℕ) → 0 < c → 0 < c' → T (fits binary64 x) → T (fits binary64 y)
    → HasValue x s a c → HasValue y s a' c' → a * c' ≡ a' * c → x ≡ y
unique nan y s a c a' c' p q f g v w h = absurd v
unique (inf t) y s a c a' c' p q f g v w h = absurd v
unique (fin t m e) nan s a c a' c' p q f g v w h = absurd w
unique (fin t m e) (inf u) s a c a' c' p q f g v w h = absurd w
unique (fin t m e) (fin u n d) s a c a' c' p q f g v w h =
    let tu : t ≡ u = v.0 ∙ sym w.0 in
    let cross : m * up e * down d ≡ n * up d * down e = eq_of_mul-eq-mul_right (c * c') (mul-pos p q)
    (m * up e * down d) (n * up d * down e)
    (crossed (m * up e) (down e) (n * up d) (down d) a c a' c' v.1 w.1 h) in
    let f' : T (fits binary64 (fin u m e)) = subst (λ (z : Bool). T (fits binary64 (fin z m e))) tu f in
    ap (λ (z : Bool). fin z m e) tu ∙ sym (of_bits-to_bits binary64 (fin u m e) f')
    ∙ ap (of_bits binary64) (pattern-same u m e n d cross) ∙ of_bits-to_bits binary64 (fin u n d) g
