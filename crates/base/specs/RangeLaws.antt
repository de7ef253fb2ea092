-- Sums, products and quotients stay between the whole numbers that the exact ones lie between, since rounding keeps the
-- order and these numbers round to themselves. Assumes nothing.
use Rattle.std.specs.Prelude.{◌≡◌, refl, Bool, true, false, ◌&&◌, ◌||◌, cond, ℕ, ◌+◌, ◌*◌, ◌^◌, ◌≤◌, ◌<◌, T, ltb, eqb, Float}
use Rattle.std.proofs.Common.{sym, ap, ◌∙◌, subst, true≢false, le_trans, le_of_eq, le_of_lt, lt_of_lt_of_le, lt_irrefl, mul-one, one-mul, zero-mul, mul_comm, mul_right_comm, mul-pos, add-mul, mul-le-mul, mul-le-mul_right, le_of_mul-le-mul_right, arith, ltb-true, eqb-true, eqb→eq, lt→ltb, lit<}
use Rattle.std.proofs.Math.Dec.{not_T}
use Rattle.std.specs.Float.{nan, inf, fin, binary64}
use Rattle.std.specs.Float.Ieee.{up, down, round, mul, add, div, sum, lt, le, eq, of_bits}
use Rattle.std.specs.Float.Ieee.Bits.{cond_no}
use Rattle.std.specs.Float.Ieee.Fits.{down_pos}
use Rattle.std.specs.Float.Ieee.Exact.{HasValue}
use Rattle.std.specs.Float.Ieee.Back.{round_whole}
use Rattle.std.specs.Float.Ieee.Order.{round_mono}
use Rattle.std.specs.Float.Ieee.Positive.{positive, first_pos}
use Rattle.std.specs.Float.Ieee.Scale.{grid, round_val, round_under, finite}
use Rattle.base.specs.Floats.{◌⊕◌, ◌⊗◌, ◌⊘◌}
use Rattle.base.specs.Constants.{one}
use Rattle.base.specs.Ranges.{Within, AtLeast}

-- ---- a value between two floats that are whole numbers
at_most : (p q : ℕ) (x y : Bool) → ltb p q ≡ x → eqb p q ≡ y → T (x || y && true) → p ≤ q
at_most p q true y h k t = le_of_lt (ltb-true p q h)
at_most p q false true h k t = le_of_eq (eqb-true p q k)
at_most p q false false h k t = absurd t

-- the test of `le` on two values whose sign is plus
pub ordered : (p q : ℕ) → T (ltb p q || eqb p q && true) → p ≤ q
ordered p q = at_most p q (ltb p q) (eqb p q) refl refl

-- n / d is the whole number a; what is at least or at most n / d is so of a
over : (n d a p q : ℕ) → 0 < d → n * 1 ≡ a * d → n * q ≤ p * d → a * q ≤ p
over n d a p q D e h =
    le_of_mul-le-mul_right (le_trans (le_of_eq (mul_right_comm a q d ∙ ap (λ (z : ℕ). z * q) (sym e ∙ mul-one n))) h) D

under : (n d b p q : ℕ) → 0 < d → n * 1 ≡ b * d → p * d ≤ n * q → p ≤ b * q
under n d b p q D e h = le_of_mul-le-mul_right
    (le_trans h (le_of_eq (ap (λ (z : ℕ). z * q) (sym (mul-one n) ∙ e) ∙ mul_right_comm b d q))) D

between : (a b c d : ℕ) (lo x hi : Float) → HasValue lo false a 1 → HasValue hi false b 1
    → (T (finite x) → HasValue x false c d) → T (le lo x) → T (le x hi) → Within a b x
unfolding le lt eq
between a b c d nan x hi p q s h k = absurd p
between a b c d (inf t) x hi p q s h k = absurd p
between a b c d (fin true n f) x hi p q s h k = absurd (true≢false p.0)
between a b c d (fin false n f) x nan p q s h k = absurd q
between a b c d (fin false n f) x (inf t) p q s h k = absurd q
between a b c d (fin false n f) x (fin true i j) p q s h k = absurd (true≢false q.0)
between a b c d (fin false n f) nan (fin false i j) p q s h k = absurd h
between a b c d (fin false n f) (inf true) (fin false i j) p q s h k = absurd h
between a b c d (fin false n f) (inf false) (fin false i j) p q s h k = absurd k
between a b c d (fin false n f) (fin true m e) (fin false i j) p q s h k = absurd (true≢false (s tt).0)
between a b c d (fin false n f) (fin false m e) (fin false i j) p q s h k = (
  refl,
  over (n * up f) (down f) a
      (m * up e) (down e) (down_pos f) p.1 (ordered (n * up f * down e) (m * up e * down f) h),
  under (i * up j)
      (down j) b (m * up e) (down e) (down_pos j) q.1 (ordered (m * up e * down j) (i * up j * down e) k),
)

-- ---- a fraction that is rounded
pub round_within : (a b num den : ℕ) → a ≤ 2 ^ 53 → b ≤ 2 ^ 53 → 0 < den → a * den ≤ num → num ≤ b * den
    → Within a b (round binary64 false num den)
round_within a b num den A B D h k =
    let x = round binary64 false num den in
    between a b (grid binary64 num den) (2 ^ 1074) (round binary64 false a 1) x (round binary64 false b 1)
    (round_whole binary64 false a A) (round_whole binary64 false b B)
    (λ (t : T (finite x)). round_val binary64 num den (round_under binary64 num den t))
    (round_mono binary64 a 1 num den (lit< tt) D (le_trans h (le_of_eq (sym (mul-one num)))))
    (round_mono binary64 num den b 1 D (lit< tt) (le_trans (le_of_eq (mul-one num)) k))

-- ---- operations
product : (p q i j : ℕ) → p ≤ 1 * i → q ≤ 1 * j → p * q ≤ 1 * (i * j)
product p q i j h k = le_trans (mul-le-mul h k)
    (le_of_eq (ap (λ (z : ℕ). z * (1 * j)) (one-mul i) ∙ ap (λ (z : ℕ). i * z) (one-mul j) ∙ sym (one-mul (i * j))))

pub square_within : (v : Float) → Within 0 1 v → Within 0 1 (v ⊗ v)
unfolding mul
square_within nan h = absurd h
square_within (inf s) h = absurd h
square_within (fin true m e) h = absurd (true≢false h.0)
square_within (fin false m e) h = round_within 0 1 (m * up e * (m * up e)) (down e * down e) (omega arith)
    (omega arith) (mul-pos (down_pos e) (down_pos e)) (omega (arith, zero-mul (down e * down e)))
    (product (m * up e) (m * up e) (down e) (down e) h.2 h.2)

pub one_plus_within : (a b : ℕ) (x : Float) → a < 2 ^ 53 → b < 2 ^ 53 → Within a b x → Within (1 + a) (1 + b) (one ⊕ x)
unfolding add sum of_bits
one_plus_within a b nan A B h = absurd h
one_plus_within a b (inf s) A B h = absurd h
one_plus_within a b (fin true m e) A B h = absurd (true≢false h.0)
one_plus_within a b (fin false m e) A B h = round_within (1 + a) (1 + b) (1 * down e + m * up e * 1) (1 * down e)
    (omega arith) (omega arith) (one_more (down_pos e)) (more a (down e) (m * up e) h.1)
    (fewer b (down e) (m * up e) h.2)
  where
    one_more : 0 < down e → 0 < 1 * down e
    one_more k = omega arith

    more : (i c n : ℕ) → i * c ≤ n → (1 + i) * (1 * c) ≤ 1 * c + n * 1
    more i c n k = omega (arith, add-mul 1 i (1 * c))

    fewer : (i c n : ℕ) → n ≤ i * c → 1 * c + n * 1 ≤ (1 + i) * (1 * c)
    fewer i c n k = omega (arith, add-mul 1 i (1 * c))

pub quotient_within : (v u : Float) → Within 0 1 v → AtLeast 1 u → Within 0 1 (v ⊘ u)
unfolding div
quotient_within nan u h k = absurd h
quotient_within (inf s) u h k = absurd h
quotient_within (fin true m e) u h k = absurd (true≢false h.0)
quotient_within (fin false m e) nan h k = absurd k
quotient_within (fin false m e) (inf s) h k = absurd k
quotient_within (fin false m e) (fin true n d) h k = absurd (true≢false k.0)
quotient_within (fin false m e) (fin false n d) h k =
    subst (Within 0 1) (sym (cond_no (eqb n 0) (cond (eqb m 0) nan (inf false))
    (round binary64 false (m * up e * down d) (n * up d * down e))
    (not_T (eqb n 0) (λ (t : T (eqb n 0)). lt_irrefl 0 (subst (λ (z : ℕ). 0 < z) (eqb→eq n 0 t) some)))))
    (round_within 0 1 (m * up e * down d) (n * up d * down e) (omega arith) (omega arith) (mul-pos large (down_pos e))
    (omega (arith, zero-mul (n * up d * down e)))
    (le_trans (product (m * up e) (down d) (down e) (n * up d) h.2
    (le_trans (le_of_eq (sym (one-mul (down d)))) (le_trans k.1 (le_of_eq (sym (one-mul (n * up d)))))))
    (le_of_eq (ap (λ (z : ℕ). 1 * z) (mul_comm (down e) (n * up d))))))
  where
    large : 0 < n * up d
    large = lt_of_lt_of_le (down_pos d) (le_trans (le_of_eq (sym (one-mul (down d)))) k.1)

    some : 0 < n
    some = first_pos n (up d) large

pub at_least : (a b c : ℕ) (x : Float) → c ≤ a → Within a b x → AtLeast c x
at_least a b c nan l h = absurd h
at_least a b c (inf s) l h = absurd h
at_least a b c (fin s m e) l h = (h.0, le_trans (mul-le-mul_right (down e) l) h.1)

-- ---- the same of a value that is given as a fraction
pub value_within : (a b n c : ℕ) (x : Float) → HasValue x false n c → 0 < c → a * c ≤ n → n ≤ b * c → Within a b x
value_within a b n c nan v C h k = absurd v
value_within a b n c (inf s) v C h k = absurd v
value_within a b n c (fin s m e) v C h k = (
  v.0,
  le_of_mul-le-mul_right (le_trans (le_of_eq (mul_right_comm a (down e) c))
      (le_trans (mul-le-mul_right (down e) h) (le_of_eq (sym v.1)))) C,
  le_of_mul-le-mul_right (le_trans (le_of_eq v.1)
      (le_trans (mul-le-mul_right (down e) k) (le_of_eq (mul_right_comm b c (down e))))) C,
)

pub within_value : (a b n c : ℕ) (x : Float) → HasValue x false n c → Within a b x → (a * c ≤ n) × (n ≤ b * c)
within_value a b n c nan v h = absurd v
within_value a b n c (inf s) v h = absurd v
within_value a b n c (fin s m e) v h = (
  le_of_mul-le-mul_right (le_trans (le_of_eq (mul_right_comm a c (down e)))
      (le_trans (mul-le-mul_right c h.1) (le_of_eq v.1))) (down_pos e),
  le_of_mul-le-mul_right (le_trans (le_of_eq (sym v.1))
      (le_trans (mul-le-mul_right c h.2) (le_of_eq (mul_right_comm b (down e) c)))) (down_pos e),
)

pub within_positive : (a b : ℕ) (x : Float) → 0 < a → Within a b x → T (positive x)
within_positive a b nan p h = absurd h
within_positive a b (inf s) p h = absurd h
within_positive a b (fin true m e) p h = absurd (true≢false h.0)
within_positive a b (fin false m e) p h =
    lt→ltb 0 m (first_pos m (up e) (lt_of_lt_of_le (mul-pos p (down_pos e)) h.1))
