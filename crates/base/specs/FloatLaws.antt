-- Laws of floats that the proofs of several crates cite: NaN, the sign, the infinities as code writes them, and the
-- cases that tests tell apart. Assumes nothing.
use Rattle.std.specs.Prelude.{◌≡◌, refl, ◌⊎◌, Bool, true, false, not, ◌&&◌, ◌||◌, cond, ℕ, zero, suc, ◌+◌, ◌*◌, ◌/◌, ◌%◌, ◌^◌, ◌≤◌, ◌<◌, T, leb, ltb, eqb, ℤ, Float}
use Rattle.std.proofs.Common.{sym, ap, ◌∙◌, subst, inl, inr, true≢false, zero-le, le_trans, le_of_eq, lt_of_lt_of_le, not-le_of_lt, lt_irrefl, zero-mul, mul-pos, zero-lt-suc, arith, lt-ltb, eqb→eq, ltb→lt, lt→ltb, nltb→le, lit<}
use Rattle.std.specs.Bool.{beq}
use Rattle.std.proofs.lemmas.Bool.{false≢true}
use Rattle.std.proofs.Math.Arith.{le→nltb}
use Rattle.std.specs.Float.{nan, inf, fin, binary64}
use Rattle.std.specs.Float.Ieee.{prec, low, hid, top, ones, up, down, units, odd, round, of_fields, of_bits, to_bits, nan_bits, fits, is_nan, eq, ne, lt, neg, div, level}
use Rattle.std.specs.Float.Ieee.Compare.{differs_from_itself}
use Rattle.std.specs.Float.Ieee.Bits.{is_false, of_bits-to_bits, nan_bits_is, nan_bits_above}
use Rattle.std.specs.Float.Ieee.Fits.{round_is, up_pos}
use Rattle.std.specs.Float.Ieee.Positive.{positive}
use Rattle.base.specs.Floats.{bits, sign, signed, abs}

-- ---- NaN
pub is-nan : (x : Float) → ne x x ≡ true → x ≡ nan
is-nan x h = differs_from_itself x (subst T (sym h) tt)

pub no_nan : (x : Float) → ne x x ≡ false → T (not (is_nan x))
unfolding ne is_nan
no_nan nan h = absurd (true≢false h)
no_nan (inf s) h = tt
no_nan (fin s m e) h = tt

-- the test by which code finds a NaN
pub nan_test : (x : Float) → ne x x ≡ is_nan x
unfolding is_nan
nan_test x = by (ne x x) refl
  where
    by : (b : Bool) → ne x x ≡ b → b ≡ is_nan x
    by true h = sym (ap is_nan (is-nan x h))
    by false h = sym (is_false (is_nan x) (no_nan x h))

pub positive_no_nan : (x : Float) → T (positive x) → T (not (is_nan x))
unfolding is_nan
positive_no_nan nan h = absurd h
positive_no_nan (inf s) h = tt
positive_no_nan (fin s m e) h = tt

only_nan : (x : Float) → is_nan x ≡ true → x ≡ nan
unfolding is_nan
only_nan nan e = refl
only_nan (inf s) e = absurd (false≢true e)
only_nan (fin s m e) h = absurd (false≢true h)

-- 7FF0.., the pattern of +inf, is the largest below the sign bit that is no NaN's
pub nan-above : (n : ℕ) → 0x7FF0_0000_0000_0000 < n % 0x8000_0000_0000_0000 → of_bits binary64 n ≡ nan
nan-above n h = only_nan (of_bits binary64 n) (sym (nan_bits_is binary64 n) ∙ nan_bits_above binary64 n ∙ lt-ltb _ _ h)

pub no_nan_at : (n : ℕ) → n % 0x8000_0000_0000_0000 ≤ 0x7FF0_0000_0000_0000 → T (not (nan_bits binary64 n))
no_nan_at n h = subst (λ (b : Bool). T (not b)) (sym (nan_bits_above binary64 n))
    (le→nltb 9218868437227405312 (n % 9223372036854775808) h)

pub no_nan-below : (n : ℕ) → n ≤ 9218868437227405312 → T (not (nan_bits binary64 n))
no_nan-below n h = no_nan_at n (omega arith)

-- ---- NaN and the infinities as code writes them
pub zero-over-zero : div binary64 (of_bits binary64 0) (of_bits binary64 0) ≡ nan
unfolding div of_bits
zero-over-zero = refl

pub one-over-zero : div binary64 (of_bits binary64 4607182418800017408) (of_bits binary64 0) ≡ inf false
unfolding div of_bits
one-over-zero = refl

pub minus-one-over-zero : div binary64 (neg (of_bits binary64 4607182418800017408)) (of_bits binary64 0) ≡ inf true
unfolding div of_bits neg
minus-one-over-zero = refl

-- ---- the sign
pub odd-signed : (d : ℕ) (s : Bool) (q k l : ℕ) → sign (odd d s q k l) ≡ s
unfolding odd
odd-signed d s zero k l = refl
odd-signed d s (suc q) k l = refl

infinite-signed : (b c : Bool) (s : Bool) (y : Float) → sign y ≡ s → T (not (is_nan (cond b (cond c (inf s) nan) y)))
    → sign (cond b (cond c (inf s) nan) y) ≡ s
unfolding is_nan
infinite-signed true true s y h n = refl
infinite-signed true false s y h n = absurd n
infinite-signed false c s y h n = h

fields_signed : (s : Bool) (x t : ℕ) → T (not (is_nan (of_fields binary64 s x t))) → sign (of_fields binary64 s x t) ≡ s
unfolding of_fields
fields_signed s zero t n = odd-signed (prec binary64) s t 0 (low binary64)
fields_signed s (suc x) t n = infinite-signed (eqb (suc x) (ones binary64)) (eqb t 0) s _
    (odd-signed (prec binary64) s (hid binary64 + t) x (low binary64)) n

-- the highest bit of a float's pattern is its sign
pub sign_bit : (x : Float) → T (fits binary64 x) → T (not (is_nan x))
    → leb 0x8000_0000_0000_0000 (to_bits binary64 x) ≡ sign x
unfolding of_bits
sign_bit x f n =
    let e : of_bits binary64 (to_bits binary64 x) ≡ x = of_bits-to_bits binary64 x f in
    let b = to_bits binary64 x in
    let n' : T (not (is_nan (of_bits binary64 (to_bits binary64 x)))) = rw e n in
    sym (fields_signed (leb (top binary64) b) (b % top binary64 / hid binary64) (b % hid binary64) n') ∙ ap sign e

-- the absolute value is the value with its own sign put upon it
pub abs-signed : (x : Float) → signed x x ≡ abs x
unfolding signed abs neg
abs-signed nan = refl
abs-signed (inf true) = refl
abs-signed (inf false) = refl
abs-signed (fin true m e) = refl
abs-signed (fin false m e) = refl

-- ---- a rounded fraction's sign is turned by turning the fraction's
units-neg : (b : Bool) (s : Bool) (q k : ℕ)
    → neg (cond b (odd 54 s q k 1074) (inf s)) ≡ cond b (odd 54 (not s) q k 1074) (inf (not s))
unfolding neg odd
units-neg true s zero k = refl
units-neg true s (suc q) k = refl
units-neg false s q k = refl

units_negated : (s : Bool) (q k : ℕ) → neg (units binary64 s q k) ≡ units binary64 (not s) q k
unfolding units
units_negated s q k = units-neg (ltb (q * 2 ^ k) (2 ^ 2098)) s q k

pub round-neg : (s : Bool) (a b : ℕ) → neg (round binary64 s a b) ≡ round binary64 (not s) a b
round-neg s a b = ap neg (round_is binary64 s a b) ∙ units_negated s _ _ ∙ sym (round_is binary64 (not s) a b)

-- ---- the cases that tests against zero tell apart
nothing : (m : ℕ) (e : ℤ) → suc m * up e * 1 ≡ 0 * 1 * down e → ⊥
nothing m e h = lt_irrefl 0 (lt_of_lt_of_le (mul-pos (mul-pos (zero-lt-suc m) (up_pos e)) (lit< tt))
    (le_of_eq (h ∙ zero-mul (down e))))

both : (a b : Bool) → (a && b) ≡ true → T a
both true b h = tt
both false b h = absurd (false≢true h)

-- what equals zero is a zero
pub record Zero (x : Float) : Type 0 where
  pub minus : Bool
  pub place : ℤ
  pub same : x ≡ fin minus 0 place

pub is_zero : (x : Float) → eq x (bits 0) ≡ true → Zero x
unfolding eq of_bits
is_zero nan h = absurd (false≢true h)
is_zero (inf s) h = absurd (false≢true h)
is_zero (fin s zero e) h = record { minus = s; place = e; same = refl }
is_zero (fin s (suc m) e) h = absurd (nothing m e
    (eqb→eq (suc m * up e * 1) (0 * 1 * down e)
    (both (eqb (suc m * up e * 1) (0 * 1 * down e)) (beq s false || eqb (suc m * up e * 1) 0) h)))

not-under : (a : ℕ) (e : ℤ) → ltb a (0 * 1 * down e) ≡ true → ⊥
not-under a e h =
    not-le_of_lt (ltb→lt a (0 * 1 * down e) (subst T (sym h) tt)) (le_trans (le_of_eq (zero-mul (down e))) zero-le)

no_zero : (e : ℤ) → ltb 0 (0 * up e * 1 + 0 * 1 * down e) ≡ true → ⊥
no_zero e h = lt_irrefl 0 (subst (λ (n : ℕ). 0 < n)
    (ap (λ (n : ℕ). n * 1 + 0 * down e) (zero-mul (up e)) ∙ ap (λ (n : ℕ). 0 + n) (zero-mul (down e)))
    (ltb→lt 0 (0 * up e * 1 + 0 * 1 * down e) (subst T (sym h) tt)))

-- what is below zero is the lower infinity, or finite and not zero
pub data Below : Float → Type 0 where
  lower-inf : Below (inf true)
  finite : (m : ℕ) (e : ℤ) → Below (fin true (suc m) e)

pub is_below : (x : Float) → lt x (bits 0) ≡ true → Below x
unfolding lt of_bits
is_below nan h = absurd (false≢true h)
is_below (inf true) h = lower-inf
is_below (inf false) h = absurd (false≢true h)
is_below (fin true zero e) h = absurd (no_zero e h)
is_below (fin true (suc m) e) h = finite m e
is_below (fin false m e) h = absurd (not-under (m * up e * 1) e h)

zero_equal : (s : Bool) (e : ℤ) → level s (0 * up e * 1) false (0 * 1 * down e) ≡ false → ⊥
zero_equal s e h = true≢false (sym (ap (λ (a : ℕ). level s (a * 1) false (0 * down e)) (zero-mul (up e)) ∙ ap
    (λ (b : ℕ). level s 0 false b) (zero-mul (down e)) ∙ last s) ∙ h)
  where
    last : (t : Bool) → level t 0 false 0 ≡ true
    last true = refl
    last false = refl

negative_below : (m : ℕ) (e : ℤ) → ltb 0 (suc m * up e * 1 + 0 * 1 * down e) ≡ false → ⊥
negative_below m e h = not-le_of_lt (mul-pos (mul-pos (zero-lt-suc m) (up_pos e)) (lit< tt))
    (le_trans (le-add (suc m * up e * 1) (0 * 1 * down e)) (none (suc m * up e * 1 + 0 * 1 * down e) h))
  where
    le-add : (a b : ℕ) → a ≤ a + b
    le-add a b = omega arith

    none : (a : ℕ) → ltb 0 a ≡ false → a ≤ 0
    none a g = nltb→le 0 a (subst (λ (b : Bool). T (not b)) (sym g) tt)

-- what is left: the infinity, and what is finite and above zero
pub the_rest : (x : Float) → ne x x ≡ false → eq x (bits 0) ≡ false → lt x (bits 0) ≡ false
    → (x ≡ inf false) ⊎ T (positive x)
unfolding ne eq lt of_bits
the_rest nan a b c = absurd (true≢false a)
the_rest (inf true) a b c = absurd (true≢false c)
the_rest (inf false) a b c = inl refl
the_rest (fin s zero e) a b c = absurd (zero_equal s e b)
the_rest (fin true (suc m) e) a b c = absurd (negative_below m e c)
the_rest (fin false (suc m) e) a b c = inr (lt→ltb 0 (suc m) (zero-lt-suc m))

-- what equals the infinity is it, so what does not is finite
pub is-inf : (x : Float) → eq x (inf false) ≡ true → x ≡ inf false
unfolding eq
is-inf nan h = absurd (false≢true h)
is-inf (inf true) h = absurd (false≢true h)
is-inf (inf false) h = refl
is-inf (fin s m e) h = absurd (false≢true h)

pub is_positive : (x : Float) → ne x x ≡ false → eq x (bits 0) ≡ false → lt x (bits 0) ≡ false
    → eq x (inf false) ≡ false → T (positive x)
unfolding eq
is_positive x a b c d = elim (the_rest x a b c) [
  | inl e ↦ absurd (true≢false (sym (ap (λ (y : Float). eq y (inf false)) e) ∙ d))
  | inr p ↦ p
]
