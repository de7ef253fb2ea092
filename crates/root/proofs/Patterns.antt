-- The patterns that lanes work on, and the roots that they make of them, on plain values. Assumes nothing.
use Rattle.std.proofs.Common.{◌≡◌, ℕ, zero, suc, ◌+◌, ◌-◌, ◌*◌, ◌/◌, ◌%◌, ◌^◌, ◌<◌, ◌≤◌, Bool, true, false, cond, not, T, eqb, ltb, ◌⊎◌, ℤ, sym, refl, ap, ◌∙◌, subst, inl, inr, le_trans, le_of_eq, lt_of_lt_of_le, le_of_lt, lt_irrefl, mul-le-mul_right, zero-lt-suc, mul_assoc, eq-or-lt_of_le, zero-mul, mul-one, not-le_of_lt, le_of_mul-le-mul_right, arith, lit<, eqb→eq, ltb→lt, lt→ltb, pow_pos, pow_mono, pow-add, shl_lt}
use mathlib.Core.Bool.{false≢true}
use lib.Dec.{not_T}
use lib.Bits.{bit_and, bit_or, and_mask, and_zero_r}
use lib.Ieee.{Float, nan, inf, fin, binary64, of_bits, to_bits, fits, is_nan, lt, up, down}
use lib.Ieee.Bits.{cond_no}
use lib.Ieee.Positive.{positive}
use Rattle.base.specs.Floats.{bits}
use Rattle.base.specs.Split.{Scaled, units_at}
use Rattle.base.specs.OrderLaws.{lt-nan}
use Rattle.base.specs.UnitLaws.{bits-under, bits_value, own-units}
use Rattle.base.specs.Ranges.{Within}
use Rattle.base.specs.RangeLaws.{value_within, within_value, within_positive}
use Rattle.root.specs.Root.{square_root, Rounded}
use Rattle.root.proofs.Confirms.{guessed}
use Rattle.root.proofs.Checks.{below_or}
use Rattle.root.proofs.Assemble.{low_bit, root_made}

-- ---- what is above something is no NaN; what is above zero has a pattern up to the infinity's
pub over_no_nan : (y x : Float) → lt y x ≡ true → T (not (is_nan x))
unfolding is_nan
over_no_nan y nan h = absurd (false≢true (sym (lt-nan y) ∙ h))
over_no_nan y (inf s) h = tt
over_no_nan y (fin s m e) h = tt

pub zero_no_nan : T (not (is_nan (bits 0)))
unfolding is_nan of_bits
zero_no_nan = tt

pub one_no_nan : T (not (is_nan (bits 4607182418800017408)))
unfolding is_nan of_bits
one_no_nan = tt

not-above : (e : ℤ) → ltb (0 * 1 * down e) (0 * up e * 1) ≡ true → ⊥
not-above e h =
    lt_irrefl 0
    (subst (λ (z : ℕ). z < 0) (zero-mul (down e))
    (subst (λ (z : ℕ). 0 * down e < z * 1) (zero-mul (up e))
    (ltb→lt (0 * 1 * down e) (0 * up e * 1) (subst T (sym h) tt))))

above_zero : (x : Float) → lt (bits 0) x ≡ true → (x ≡ inf false) ⊎ T (positive x)
unfolding lt of_bits
above_zero nan h = absurd (false≢true h)
above_zero (inf true) h = absurd (false≢true h)
above_zero (inf false) h = inl refl
above_zero (fin true m e) h = absurd (false≢true h)
above_zero (fin false zero e) h = absurd (not-above e h)
above_zero (fin false (suc m) e) h = inr (lt→ltb 0 (suc m) (zero-lt-suc m))

inf_bits : to_bits binary64 (inf false) ≡ 9218868437227405312
unfolding to_bits
inf_bits = refl

zero_bits : to_bits binary64 (bits 0) ≡ 0
unfolding to_bits of_bits
zero_bits = refl

bits_most : (x : Float) → T (fits binary64 x) → (x ≡ inf false) ⊎ T (positive x)
    → to_bits binary64 x ≤ 9218868437227405312
bits_most x f (inl e) = le_of_eq (ap (to_bits binary64) e ∙ inf_bits)
bits_most x f (inr p) = le_of_lt (bits-under x f p)

pub raised-bits : (x r : Float) → T (fits binary64 x) → (r ≡ bits 0) ⊎ ((lt (bits 0) x ≡ true) × (r ≡ x))
    → (to_bits binary64 r ≤ 9218868437227405312) × ((to_bits binary64 r ≡ 0) ⊎ (to_bits binary64 r ≡ to_bits binary64 x))
raised-bits x r f (inl e) =
    let z = ap (to_bits binary64) e ∙ zero_bits in (subst (λ (n : ℕ). n ≤ 9218868437227405312) (sym z) (low 0), inl z)
  where
    low : (n : ℕ) → 0 ≤ 9218868437227405312
    low n = omega arith
raised-bits x r f (inr p) =
    let z = ap (to_bits binary64) p.1 in
    (subst (λ (n : ℕ). n ≤ 9218868437227405312) (sym z) (bits_most x f (above_zero x p.0)), inr z)

-- ---- `sig + (sig & (0 - odd))`
pub double : (sig odd m : ℕ) → sig < 2 ^ 53 → odd < 2 → m < 2 ^ 64 → (m + odd) % 2 ^ 64 ≡ 0
    → sig + bit_and sig m ≡ sig * 2 ^ odd
double sig zero m s o h e =
    let z : m ≡ 0 = omega arith in
    let k : bit_and sig m ≡ 0 = ap (bit_and sig) z ∙ and_zero_r sig in
    let l = mul-one sig in
    omega arith
double sig (suc zero) m s o h e =
    let z : m ≡ 2 ^ 64 - 1 = omega arith in
    let k : bit_and sig m ≡ sig % 2 ^ 64 = ap (bit_and sig) z ∙ and_mask sig 64 in
    omega arith
double sig (suc (suc odd)) m s o h e = absurd (two o)
  where
    two : suc (suc odd) < 2 → ⊥
    two k = omega arith

-- ---- a normal value's significand and exponent
normal-units : (b : ℕ) → 2 ^ 52 ≤ b → units_at b ≡ (2 ^ 52 + b % 2 ^ 52) * 2 ^ (b / 2 ^ 52 - 1)
unfolding units_at
normal-units b l =
    cond_no (eqb (b / 2 ^ 52) 0) (b % 2 ^ 52) ((2 ^ 52 + b % 2 ^ 52) * 2 ^ (b / 2 ^ 52 - 1))
    (not_T (eqb (b / 2 ^ 52) 0) (λ (u : T (eqb (b / 2 ^ 52) 0)). none (eqb→eq (b / 2 ^ 52) 0 u)))
  where
    none : b / 2 ^ 52 ≡ 0 → ⊥
    none e = omega arith

pub normal : (b : ℕ) → 2 ^ 52 ≤ b → b < 9218868437227405312 → Scaled (units_at b) (2 ^ 52 + b % 2 ^ 52) (b / 2 ^ 52 + 51)
normal b l h =
    let s = 2 ^ 52 + b % 2 ^ 52 in
    let f = b / 2 ^ 52 in
    let p : f + 51 ≡ f - 1 + 52 = omega arith in
    record {
      value =
          ap (λ (z : ℕ). s * z) (ap (λ (z : ℕ). 2 ^ z) p ∙ pow-add 2 (f - 1) 52)
          ∙ sym (mul_assoc s (2 ^ (f - 1)) (2 ^ 52))
          ∙ ap (λ (z : ℕ). z * 2 ^ 52) (sym (normal-units b l));
      least = omega arith;
      most = omega arith;
      top = omega arith;
    }

-- ---- the root that a lane makes
own : (x : Float) (b : ℕ) → (b ≡ 0) ⊎ (b ≡ to_bits binary64 x) → 2 ^ 52 ≤ b → b ≡ to_bits binary64 x
own x b (inl e) l = absurd (none e l)
  where
    none : b ≡ 0 → 2 ^ 52 ≤ b → ⊥
    none z k = omega arith
own x b (inr e) l = e

root_at : (x : Float) (b a : ℕ) → T (fits binary64 x) → (b ≡ 0) ⊎ (b ≡ to_bits binary64 x) → 2 ^ 52 ≤ b
    → b < 9218868437227405312 → Rounded ((2 ^ 52 + b % 2 ^ 52) * 2 ^ ((b / 2 ^ 52 + 51) % 2)) a
    → of_bits binary64 (((b / 2 ^ 52 + 51) / 2 + 485) * 2 ^ 52 % 2 ^ 64 + a) ≡ square_root binary64 x
root_at x b a f o l h r = root_made x b (2 ^ 52 + b % 2 ^ 52) (b / 2 ^ 52 + 51) a f (own x b o l) h (normal b l h) r

pub any_root : (x : Float) (b d a : ℕ) → T (fits binary64 x) → (b ≡ 0) ⊎ (b ≡ to_bits binary64 x)
    → (2 ^ 52 ≤ b) × (b < 9218868437227405312)
    → d ≡ bit_or (bit_and b 4503599627370495) 4503599627370496 * 2 ^ bit_and (b / 2 ^ 52 + 51) 1 → Rounded d a
    → of_bits binary64 (((b / 2 ^ 52 + 51) / 2 + 485) * 2 ^ 52 % 2 ^ 64 + a) ≡ square_root binary64 x
any_root x b d a f o h e r =
    root_at x b a f o h.0 h.1
    (subst (λ (z : ℕ). Rounded z a)
    (e ∙ ap (λ (z : ℕ). z * 2 ^ bit_and (b / 2 ^ 52 + 51) 1) (guessed b)
    ∙ ap (λ (z : ℕ). (2 ^ 52 + b % 2 ^ 52) * 2 ^ z) (low_bit (b / 2 ^ 52 + 51))) r)

-- ---- from 1 to 2: the pattern of such a value, and the value of such a pattern
units-most : (b : ℕ) → units_at b < 2 ^ (53 + (b / 2 ^ 52 - 1))
unfolding units_at
units-most b = go (eqb (b / 2 ^ 52) 0)
  where
    go : (t : Bool) → cond t (b % 2 ^ 52) ((2 ^ 52 + b % 2 ^ 52) * 2 ^ (b / 2 ^ 52 - 1)) < 2 ^ (53 + (b / 2 ^ 52 - 1))
    go true = let s : b % 2 ^ 52 < 2 ^ 53 = omega arith in lt_of_lt_of_le s (pow_mono {i = 53} (omega arith))
    go false = shl_lt 53 (b / 2 ^ 52 - 1) (omega arith)

field_least : (b : ℕ) → 2 ^ 1074 ≤ units_at b → 1023 ≤ b / 2 ^ 52
field_least b h = elim (below_or (b / 2 ^ 52) 1023) [
  | inl l ↦ absurd (not-le_of_lt (lt_of_lt_of_le (units-most b) (pow_mono {j = 1074} (omega arith))) h)
  | inr l ↦ l
]

field_most : (b : ℕ) → units_at b ≤ 2 * 2 ^ 1074 → b / 2 ^ 52 ≤ 1024
field_most b h = elim (below_or 1024 (b / 2 ^ 52)) [
  | inl l ↦ absurd (not-le_of_lt (lit< tt) (le_trans (more l) h))
  | inr l ↦ l
]
  where
    more : 1024 < b / 2 ^ 52 → 2 ^ 1076 ≤ units_at b
    more l =
        let x = b / 2 ^ 52 - 1 in
        let k : 2 ^ 52 ≤ b = omega arith in
        let s : 2 ^ 52 ≤ 2 ^ 52 + b % 2 ^ 52 = omega arith in
        le_trans (pow_mono {i = 1076} {j = 52 + x} (omega arith))
        (le_trans (le_of_eq (pow-add 2 52 x))
        (le_trans (mul-le-mul_right (2 ^ x) s) (le_of_eq (sym (normal-units b k)))))

-- at 2 no digit follows the leading one
digits-none : (b : ℕ) → b / 2 ^ 52 ≡ 1024 → units_at b ≤ 2 * 2 ^ 1074 → b % 2 ^ 52 ≡ 0
digits-none b e h =
    let k : 2 ^ 52 ≤ b = omega arith in
    let s : 2 ^ 52 + b % 2 ^ 52 ≤ 2 ^ 52
    = le_of_mul-le-mul_right
    (le_trans (le_of_eq (ap (λ (z : ℕ). (2 ^ 52 + b % 2 ^ 52) * 2 ^ (z - 1)) (sym e) ∙ sym (normal-units b k))) h)
    (pow_pos 1023) in
    omega arith

unit_range : (b : ℕ) → (1 * 2 ^ 1074 ≤ units_at b) × (units_at b ≤ 2 * 2 ^ 1074)
    → (4607182418800017408 ≤ b) × (b ≤ 4611686018427387904)
unit_range b h = (
  least (field_least b h.0),
  elim (eq-or-lt_of_le (field_most b h.1)) [
    | inl e ↦ last e (digits-none b e h.1)
    | inr l ↦ under l
  ],
)
  where
    least : 1023 ≤ b / 2 ^ 52 → 4607182418800017408 ≤ b
    least l = omega arith

    last : b / 2 ^ 52 ≡ 1024 → b % 2 ^ 52 ≡ 0 → b ≤ 4611686018427387904
    last e z = omega arith

    under : b / 2 ^ 52 < 1024 → b ≤ 4611686018427387904
    under l = omega arith

-- the units of the patterns from that of 1 to that of 2
unit_units : (a : ℕ) → 2 ^ 52 ≤ a → a ≤ 2 ^ 53 → units_at (4602678819172646912 + a) ≡ a * 2 ^ 1022
unit_units a l m = elim (eq-or-lt_of_le m) [
  | inl e ↦ subst (λ (z : ℕ). units_at (4602678819172646912 + z) ≡ z * 2 ^ 1022) (sym e)
      (normal-units (4602678819172646912 + 2 ^ 53) (le_of_lt (lit< tt)))
  | inr h ↦ under h
]
  where
    under : a < 2 ^ 53 → units_at (4602678819172646912 + a) ≡ a * 2 ^ 1022
    under h =
        let b = 4602678819172646912 + a in
        let f : b / 2 ^ 52 ≡ 1023 = omega arith in
        let s : 2 ^ 52 + b % 2 ^ 52 ≡ a = omega arith in
        let k : 2 ^ 52 ≤ b = omega arith in
        normal-units b k ∙ ap (λ (z : ℕ). z * 2 ^ (b / 2 ^ 52 - 1)) s ∙ ap (λ (z : ℕ). a * 2 ^ (z - 1)) f

pub unit_within : (a : ℕ) → 2 ^ 52 ≤ a → a ≤ 2 ^ 53 → Within 1 2 (of_bits binary64 (4602678819172646912 + a))
unit_within a l m =
    value_within 1 2 (units_at (4602678819172646912 + a)) (2 ^ 1074) (of_bits binary64 (4602678819172646912 + a))
    (bits_value (4602678819172646912 + a) (omega arith)) (pow_pos 1074)
    (subst (λ (z : ℕ). 1 * 2 ^ 1074 ≤ z) (sym (unit_units a l m)) (mul-le-mul_right (2 ^ 1022) l))
    (subst (λ (z : ℕ). z ≤ 2 * 2 ^ 1074) (sym (unit_units a l m)) (mul-le-mul_right (2 ^ 1022) m))

pub unit_bits : (x : Float) → T (fits binary64 x) → Within 1 2 x
    → (4607182418800017408 ≤ to_bits binary64 x) × (to_bits binary64 x ≤ 4611686018427387904)
unit_bits x f h =
    let b = to_bits binary64 x in
    let u = bits-under x f (within_positive 1 2 x (lit< tt) h) in
    unit_range b (within_value 1 2 (units_at b) (2 ^ 1074) x (own-units x f u) h)

-- ---- the root of such a value, d being its pattern without that of 2 ^ -1
unit_at : (x : Float) (b a : ℕ) → T (fits binary64 x) → b ≡ to_bits binary64 x
    → (4607182418800017408 ≤ b) × (b ≤ 4611686018427387904) → Rounded (b - 4602678819172646912) a
    → of_bits binary64 (4602678819172646912 + a) ≡ square_root binary64 x
unit_at x b a f o h r = elim (eq-or-lt_of_le h.1) [
  | inl k ↦ root_at x 4611686018427387904 a f (inr (sym k ∙ o)) (le_of_lt (lit< tt)) (lit< tt)
      (subst (λ (z : ℕ). Rounded (z - 4602678819172646912) a) k r)
  | inr k ↦ under h.0 k
]
  where
    under : 4607182418800017408 ≤ b → b < 4611686018427387904
        → of_bits binary64 (4602678819172646912 + a) ≡ square_root binary64 x
    under l k =
        let q : b / 2 ^ 52 ≡ 1023 = omega arith in
        let s : b - 4602678819172646912 ≡ 2 ^ 52 + b % 2 ^ 52 = omega arith in
        let l' : 2 ^ 52 ≤ b = omega arith in
        let h' : b < 9218868437227405312 = omega arith in
        subst (λ (z : ℕ). of_bits binary64 (((z + 51) / 2 + 485) * 2 ^ 52 % 2 ^ 64 + a) ≡ square_root binary64 x) q
        (root_at x b a f (inr o) l' h'
        (subst (λ (z : ℕ). Rounded ((2 ^ 52 + b % 2 ^ 52) * 2 ^ ((z + 51) % 2)) a) (sym q)
        (subst (λ (z : ℕ). Rounded z a) (s ∙ sym (mul-one (2 ^ 52 + b % 2 ^ 52))) r)))

pub unit_root : (x : Float) (a : ℕ) → T (fits binary64 x) → Within 1 2 x
    → Rounded (to_bits binary64 x - 4602678819172646912) a
    → of_bits binary64 (4602678819172646912 + a) ≡ square_root binary64 x
unit_root x a f h r = unit_at x (to_bits binary64 x) a f refl (unit_bits x f h) r
