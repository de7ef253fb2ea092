-- A product with a power of two is a scaling, and two of them are one where the first is exact: so E is rounded once.
-- Assumes nothing.
use Rattle.std.proofs.Common.{◌≡◌, ℕ, zero, suc, ◌+◌, ◌-◌, ◌*◌, ◌/◌, ◌%◌, ◌^◌, ◌<◌, ◌≤◌, Bool, true, false, ◌&&◌, T, eqb, ltb, leb, ℤ, pos, negsuc, sym, refl, ap, ◌∙◌, subst, zero-le, le_trans, lt_of_lt_of_le, add-zero, le_of_lt, lt_irrefl, mul-le-mul_right, mul_assoc, mul_comm, mul-le-mul, lt_of_mul-lt-mul_right, mul-le-mul_left, mul-lt-mul_of_pos_right, mul-pos, one-mul, zero-mul, mul-one, mul_right_comm, mul_left_comm, arith, lit≤, ltb→lt, leb→le, pow_pos, pow_mono, pow-add, ltb-false, ltb-true, leb-false, leb-true}
use native.Mathlib.Nat.{eq_of_mul-eq-mul_right, div-eq_of_lt}
use Rattle.std.proofs.Common.{◌+ℤ◌, ◌≤ℤ◌, ◌<ℤ◌}
use Rattle.std.proofs.lemmas.Int.{ints}
use lib.Ieee.{Float, nan, inf, fin, binary64, unlike, up, down, round, mul, le, lt, eq, neg, units, odd, size, fits, of_bits}
use lib.Ieee.Fits.{down_pos, round_is}
use lib.Ieee.Exact.{HasValue, round_exact}
use lib.Ieee.Order.{round_mono}
use lib.Ieee.Scale.{round_same}
use lib.Ieee.Nearest.{closest, closest_mono}
use lib.Arith.{le-zero}
use Rattle.base.specs.Floats.{abs}
use Rattle.base.specs.FloatLaws.{round-neg}
use Rattle.base.specs.UnitLaws.{pow_le_back}
use Rattle.powers.specs.Exp.{scale}

unlike-false : (s : Bool) → unlike s false ≡ s
unlike-false true = refl
unlike-false false = refl

pub mul_pow : (a : Float) (n : ℤ) → mul binary64 a (fin false 1 n) ≡ scale a n
unfolding mul scale
mul_pow nan n = refl
mul_pow (inf s) n = ap inf (unlike-false s)
mul_pow (fin s m e) n = rw (unlike-false s, one-mul)

-- ---- the exponents of `up` and `down`
upx : ℤ → ℕ
upx (pos k) = k
upx (negsuc k) = 0

downx : ℤ → ℕ
downx (pos k) = 0
downx (negsuc k) = suc k

up_is : (e : ℤ) → up e ≡ 2 ^ upx e
unfolding upx
up_is (pos k) = refl
up_is (negsuc k) = refl

down_is : (e : ℤ) → down e ≡ 2 ^ downx e
unfolding downx
down_is (pos k) = refl
down_is (negsuc k) = refl

-- ---- a scaling that loses nothing: no digit below 2^-1074, and below 2^1024
exact : (s : Bool) (m : ℕ) (e i : ℤ) → m < 2 ^ 53 → downx e + downx i ≤ 1074
    → m * up e * up i < 2 ^ 1024 * (down e * down i)
    → HasValue (scale (fin s m e) i) s (m * up e * up i) (down e * down i)
unfolding scale
exact s m e i small fine under =
    let num = m * up e * up i in
    let den = down e * down i in
    let j = upx e + upx i + 1074 - (downx e + downx i) in
    let sum : j + (downx e + downx i) ≡ upx e + upx i + 1074 = omega arith in
    let pw : up e * up i * 2 ^ 1074 ≡ 2 ^ j * den =
    rw (up_is e, up_is i, down_is e, down_is i)
    (ap (λ (y : ℕ). y * 2 ^ 1074) (sym (pow-add 2 (upx e) (upx i))) ∙ sym (pow-add 2 (upx e + upx i) 1074)
    ∙ ap (λ (y : ℕ). 2 ^ y) (sym sum) ∙ pow-add 2 j (downx e + downx i)
    ∙ ap (λ (y : ℕ). 2 ^ j * y) (pow-add 2 (downx e) (downx i))) in
    let eq : num * 2 ^ 1074 ≡ m * 2 ^ j * den =
    ap (λ (y : ℕ). y * 2 ^ 1074) (mul_assoc m (up e) (up i)) ∙ mul_assoc m (up e * up i) (2 ^ 1074)
    ∙ ap (λ (y : ℕ). m * y) pw ∙ sym (mul_assoc m (2 ^ j) den) in
    let dp : 0 < den = mul-pos (down_pos e) (down_pos i) in
    let far : num * 2 ^ 1074 < 2 ^ 1024 * den * 2 ^ 1074 = mul-lt-mul_of_pos_right under (pow_pos 1074) in
    let cap : m * 2 ^ j < 2 ^ 2098
    = lt_of_mul-lt-mul_right den
    (rw (← eq) (subst (λ (y : ℕ). num * 2 ^ 1074 < y) (mul_right_comm (2 ^ 1024) den (2 ^ 1074)) far)) in
    round_exact binary64 s num den m j dp small cap eq

ring : (P D di M ui G uj un dn dj : ℕ) → P * (D * di) ≡ M * ui * G → ui * uj * dn ≡ un * (di * dj)
    → P * uj * (D * dn) * di ≡ M * un * (G * dj) * di
ring P D di M ui G uj un dn dj a b =
    let one : P * uj * (D * dn) * di ≡ P * (D * di) * (uj * dn) = simp (mul_assoc, mul_comm, mul_left_comm) in
    let two : M * ui * G * (uj * dn) ≡ M * G * (ui * uj * dn) = simp (mul_assoc, mul_left_comm) in
    let three : M * G * (un * (di * dj)) ≡ M * un * (G * dj) * di = simp (mul_assoc, mul_comm, mul_left_comm) in
    one ∙ ap (λ (x : ℕ). x * (uj * dn)) a ∙ two ∙ ap (λ (x : ℕ). M * G * x) b ∙ three

-- the value of x is a·2^i exactly, so x·2^j is a·2^n
again : (x : Float) (s : Bool) (m : ℕ) (e i j n : ℤ) → up i * up j * down n ≡ up n * (down i * down j)
    → HasValue x s (m * up e * up i) (down e * down i) → scale x j ≡ scale (fin s m e) n
unfolding scale
again nan s m e i j n h v = absurd v
again (inf t) s m e i j n h v = absurd v
again (fin t p g) s m e i j n h v =
    let cross : p * up g * up j * (down e * down n) ≡ m * up e * up n * (down g * down j) =
    eq_of_mul-eq-mul_right (down i) (down_pos i) _ _
    (ring (p * up g) (down e) (down i) (m * up e) (up i) (down g) (up j) (up n) (down n) (down j) v.1 h) in
    rw v.0
    (round_same binary64 s (p * up g * up j) (down g * down j) (m * up e * up n) (down e * down n)
    (mul-pos (down_pos g) (down_pos j)) (mul-pos (down_pos e) (down_pos n)) cross)

-- ---- at the ends of the range
le-inf : (x : Float) → T (le (inf false) x) → x ≡ inf false
unfolding le lt eq
le-inf nan h = absurd h
le-inf (inf true) h = absurd h
le-inf (inf false) h = refl
le-inf (fin s m e) h = absurd h

inf-above : (a b : ℕ) → 0 < b → 2 ^ 1024 * b ≤ a → round binary64 false a b ≡ inf false
unfolding round
inf-above a b B h =
    le-inf (round binary64 false a b) (round_mono binary64 (2 ^ 1024) 1 a b (pow_pos 0) B (rw (mul-one a) h))

round-inf : (s : Bool) (a b : ℕ) → 0 < b → 2 ^ 1024 * b ≤ a → round binary64 s a b ≡ inf s
unfolding neg
round-inf false a b B h = inf-above a b B h
round-inf true a b B h = sym (round-neg false a b) ∙ ap neg (inf-above a b B h)

double-lt : (n b : ℕ) → 0 < b → n * 2 ≤ b → n < b
double-lt n b p h = omega arith

round-zero : (s : Bool) (a b : ℕ) → 0 < b → a * 2 ^ 1074 * 2 ≤ b → round binary64 s a b ≡ fin s 0 (pos 0)
unfolding size units odd
round-zero s a b B h =
    let n = a * 2 ^ 1074 in
    let z : n / b ≡ 0 = div-eq_of_lt (double-lt n b B h) in
    let c : closest n (b * 1) ≡ 0
    = le-zero (closest_mono n (b * 1) 1 2 (rw (mul-one b) B) (pow_pos 1) (rw (one-mul, mul-one b) h)) in
    round_is binary64 s a b ∙ ap (λ (y : ℕ). units binary64 s (closest n (b * 2 ^ (size y - 53))) (size y - 53)) z
    ∙ ap (λ (y : ℕ). units binary64 s y 0) c

-- ---- what `fits` says of a number other than zero
four : (a b c d : Bool) → T (a && b && c && d) → T b × T c × T d
four true true true d h = (tt, tt, h)
four true true false d h = absurd h
four true false c d h = absurd h
four false b c d h = absurd h

facts : (s : Bool) (m : ℕ) (e : ℤ) → T (fits binary64 (fin s (suc m) e))
    → (suc m < 2 ^ 53) × (down e ≤ 2 ^ 1074) × (suc m * up e < 2 ^ 1024 * down e)
unfolding fits
facts s m e h =
    let f = four (eqb (suc m % 2) 1) (ltb (suc m) (2 ^ 53)) (leb (down e) (2 ^ 1074))
    (ltb (suc m * up e) (2 ^ 1024 * down e)) h in (
      ltb→lt (suc m) (2 ^ 53) f.0,
      leb→le (down e) (2 ^ 1074) f.1,
      ltb→lt (suc m * up e) (2 ^ 1024 * down e) f.2,
    )

-- zero stays zero
scale-zero : (s : Bool) (e i : ℤ) → scale (fin s 0 e) i ≡ fin s 0 (pos 0)
unfolding scale
scale-zero s e i =
    let z : 0 * up e * up i ≡ 0 = ap (λ (x : ℕ). x * up i) (zero-mul (up e)) ∙ zero-mul (up i) in
    round-zero s (0 * up e * up i) (down e * down i) (mul-pos (down_pos e) (down_pos i)) (rw z zero-le)

-- ---- 2^1024 in two steps
module _ (s : Bool) (m : ℕ) (e : ℤ) (h : T (fits binary64 (fin s (suc m) e))) where
  up-over : 2 ^ 1024 * (down e * 1) ≤ suc m * up e * 2 ^ 1023
      → scale (scale (fin s (suc m) e) (pos 1023)) (pos 1) ≡ scale (fin s (suc m) e) (pos 1024)
  unfolding scale
  up-over over =
      let p : 0 < down e * 1 = mul-pos (down_pos e) (pow_pos 0) in
      let first : scale (fin s (suc m) e) (pos 1023) ≡ inf s
      = round-inf s (suc m * up e * 2 ^ 1023) (down e * 1) p over in
      let at_once : scale (fin s (suc m) e) (pos 1024) ≡ inf s
      = round-inf s (suc m * up e * 2 ^ 1024) (down e * 1) p
      (le_trans over (mul-le-mul_left (suc m * up e) (lit≤ tt))) in
      ap (λ (x : Float). scale x (pos 1)) first ∙ sym at_once

  up-exact : suc m * up e * 2 ^ 1023 < 2 ^ 1024 * (down e * 1)
      → scale (scale (fin s (suc m) e) (pos 1023)) (pos 1) ≡ scale (fin s (suc m) e) (pos 1024)
  unfolding downx
  up-exact under =
      let f = facts s m e h in
      let d : downx e + 0 ≤ 1074 = rw add-zero (pow_le_back (downx e) 1074 (rw (← down_is e) f.1)) in
      again (scale (fin s (suc m) e) (pos 1023)) s (suc m) e (pos 1023) (pos 1) (pos 1024) refl
      (exact s (suc m) e (pos 1023) f.0 d under)

  up-some : (b : Bool) → leb (2 ^ 1024 * (down e * 1)) (suc m * up e * 2 ^ 1023) ≡ b
      → scale (scale (fin s (suc m) e) (pos 1023)) (pos 1) ≡ scale (fin s (suc m) e) (pos 1024)
  up-some true t = up-over (leb-true (2 ^ 1024 * (down e * 1)) (suc m * up e * 2 ^ 1023) t)
  up-some false t = up-exact (leb-false (2 ^ 1024 * (down e * 1)) (suc m * up e * 2 ^ 1023) t)

pub up-two : (a : Float) → T (fits binary64 a) → scale (scale a (pos 1023)) (pos 1) ≡ scale a (pos 1024)
unfolding scale
up-two nan h = refl
up-two (inf s) h = refl
up-two (fin s zero e) h =
    ap (λ (x : Float). scale x (pos 1)) (scale-zero s e (pos 1023)) ∙ scale-zero s (pos 0) (pos 1)
    ∙ sym (scale-zero s e (pos 1024))
up-two (fin s (suc m) e) h = up-some s m e h (leb (2 ^ 1024 * (down e * 1)) (suc m * up e * 2 ^ 1023)) refl

-- ---- below 2^-1022 in two steps
-- 2^-900
abbrev tiny : Float
tiny = of_bits binary64 0x07b0_0000_0000_0000

large : (s : Bool) (m : ℕ) (e : ℤ) → lt (abs (fin s m e)) tiny ≡ false → down e ≤ m * up e * 2 ^ 900
unfolding lt abs of_bits
large s m e h = rw one-mul at (ltb-false (m * up e * 2 ^ 900) (1 * down e) h)

small : (s : Bool) (m : ℕ) (e : ℤ) → lt (abs (fin s m e)) tiny ≡ true → m * up e * 2 ^ 900 < down e
unfolding lt abs of_bits
small s m e h = rw one-mul at (ltb-true (m * up e * 2 ^ 900) (1 * down e) h)

coarse : (m : ℕ) (e : ℤ) → m < 2 ^ 53 → down e ≤ m * up e * 2 ^ 900 → downx e ≤ 953
unfolding downx
coarse m (pos k) l h = zero-le
coarse m (negsuc k) l h =
    pow_le_back (suc k) 953
    (le_trans h (mul-le-mul_right (2 ^ 900) (subst (λ (x : ℕ). x ≤ 2 ^ 53) (sym (mul-one m)) (le_of_lt l))))

none : (u : ℕ) → 0 * u * 2 ^ 900 ≡ 0
none u = ap (λ (x : ℕ). x * 2 ^ 900) (zero-mul u) ∙ zero-mul (2 ^ 900)

split : (c : ℕ) → 1022 < c → suc (c - 1022 - 1) + 1022 ≡ suc (c - 1)
split c l = omega arith

reach : (c x : ℕ) → 1022 < c → c ≤ 1080 → x ≤ 953 → x + suc (c - 1022 - 1) ≤ 1074
reach c x l u d = omega arith

grown : (d k : ℕ) → d ≤ d * 2 ^ k
grown d k = subst (λ (x : ℕ). x ≤ d * 2 ^ k) (mul-one d) (mul-le-mul_left d (pow_pos k))

pub down-two : (a : Float) (c : ℕ) → T (fits binary64 a) → 1022 < c → c ≤ 1080 → lt (abs a) tiny ≡ false
    → scale (scale a (negsuc (c - 1022 - 1))) (negsuc 1021) ≡ scale a (negsuc (c - 1))
unfolding scale downx
down-two nan c f l u t = refl
down-two (inf s) c f l u t = refl
down-two (fin s zero e) c f l u t =
    absurd (lt_irrefl 0 (lt_of_lt_of_le (down_pos e) (subst (λ (x : ℕ). down e ≤ x) (none (up e)) (large s 0 e t))))
down-two (fin s (suc m) e) c f l u t =
    let k = c - 1022 - 1 in
    let w = facts s m e f in
    let d : downx e ≤ 953 = coarse (suc m) e w.0 (large s (suc m) e t) in
    let pw : 1 * 1 * 2 ^ suc (c - 1) ≡ 1 * (2 ^ suc k * 2 ^ 1022)
    = ap (λ (x : ℕ). 1 * 2 ^ x) (sym (split c l)) ∙ ap (λ (x : ℕ). 1 * x) (pow-add 2 (suc k) 1022) in
    again (scale (fin s (suc m) e) (negsuc k)) s (suc m) e (negsuc k) (negsuc 1021) (negsuc (c - 1)) pw
    (exact s (suc m) e (negsuc k) w.0 (reach c (downx e) l u d)
    (subst (λ (x : ℕ). x < 2 ^ 1024 * (down e * 2 ^ suc k)) (sym (mul-one (suc m * up e)))
    (lt_of_lt_of_le w.2 (mul-le-mul_left (2 ^ 1024) (grown (down e) (suc k))))))

zero_of : (s : Bool) (m : ℕ) (e : ℤ) (k : ℕ) → 175 ≤ k → m * up e * 2 ^ 900 < down e
    → round binary64 s (m * up e * 1) (down e * 2 ^ k) ≡ fin s 0 (pos 0)
zero_of s m e k l h =
    let n = m * up e in
    let r : n * 1 * 2 ^ 1074 * 2 ≡ n * 2 ^ 900 * 2 ^ 175
    = ap (λ (x : ℕ). x * 2 ^ 1074 * 2) (mul-one n) ∙ mul_assoc n (2 ^ 1074) 2 ∙ sym (mul_assoc n (2 ^ 900) (2 ^ 175)) in
    round-zero s (n * 1) (down e * 2 ^ k) (mul-pos (down_pos e) (pow_pos k))
    (subst (λ (x : ℕ). x ≤ down e * 2 ^ k) (sym r) (mul-le-mul (le_of_lt h) (pow_mono l)))

high : (c : ℕ) → 1022 < c → 175 ≤ suc (c - 1)
high c l = omega arith

pub down-tiny : (a : Float) (c : ℕ) → 1022 < c → lt (abs a) tiny ≡ true
    → scale a (negsuc 1021) ≡ scale a (negsuc (c - 1))
unfolding scale
down-tiny nan c l t = refl
down-tiny (inf s) c l t = refl
down-tiny (fin s m e) c l t =
    zero_of s m e 1022 (lit≤ tt) (small s m e t) ∙ sym (zero_of s m e (suc (c - 1)) (high c l) (small s m e t))

-- ---- the cases of a whole number c
pub at_top : (a : Float) (c : ℤ) → T (fits binary64 a) → pos 1023 <ℤ c → c ≤ℤ pos 1024
    → scale (scale a (pos 1023)) (pos 1) ≡ scale a c
at_top a (pos n) f l h = let e : n ≡ 1024 = omega (arith, ints) in rw e (up-two a f)
at_top a (negsuc n) f l h = absurd (omega (arith, ints))

last : (n : ℕ) → negsuc (n + 1 - 1) ≡ negsuc n
last n = ap negsuc (omega arith)

pub too_small : (a : Float) (c : ℤ) → c <ℤ negsuc 1021 → lt (abs a) tiny ≡ true → scale a (negsuc 1021) ≡ scale a c
too_small a (pos n) l t = absurd (omega (arith, ints))
too_small a (negsuc n) l t = rw (last n) at (down-tiny a (n + 1) (omega (arith, ints)) t)

pub in_two : (a : Float) (c r : ℤ) → T (fits binary64 a) → r ≡ c +ℤ pos 1022 → negsuc 1079 ≤ℤ c → c <ℤ negsuc 1021
    → lt (abs a) tiny ≡ false
    → scale (scale a r) (negsuc 1021) ≡ scale a c
in_two a (pos n) r f e l h t = absurd (omega (arith, ints))
in_two a (negsuc n) r f e l h t =
    let k : r ≡ negsuc (n + 1 - 1022 - 1) = omega (arith, ints) in
    rw k (rw (last n) at (down-two a (n + 1) f (omega (arith, ints)) (omega (arith, ints)) t))
