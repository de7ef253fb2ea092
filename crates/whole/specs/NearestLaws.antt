-- `nearest` on plain numbers: how far off it is, that equal fractions have one, and how great it is. Assumes nothing.
use Rattle.std.specs.Prelude.{◌≡◌, refl, Bool, true, false, cond, ◌⊎◌, ℕ, suc, ◌+◌, ◌-◌, ◌*◌, ◌/◌, ◌%◌, ◌≤◌, ◌<◌, ltb, eqb}
use Rattle.std.proofs.Common.{sym, ap, subst, ◌∙◌, inl, inr, mul_comm, mul_assoc, mul_right_comm, add-mul, suc-mul, div-add-mod', mod-lt, mod-eq_of_lt, lt_of_mul-lt-mul_right, mul-le-mul_right, mul-lt-mul_of_pos_right, arith, ltb-true, ltb-false, lt-ltb, le-ltb, eqb-true}
use Rattle.std.proofs.Math.Nat.{div-eq_of_lt}
use Rattle.std.proofs.Math.Decide.{dec_lt}
use Rattle.std.proofs.lemmas.Bool.{eqb-false}
use Rattle.std.specs.Float.Ieee.Nearest.{div_same}
use Rattle.whole.specs.Whole.{nearest}

-- how far two numbers are apart
abbrev pub apart : ℕ → ℕ → ℕ
apart a b = (a - b) + (b - a)

-- r is within a half of n / d, and even where it is a half off
pub record Near (n d r : ℕ) : Type 0 where
  pub near : 2 * apart n (r * d) ≤ d
  pub even : 2 * apart n (r * d) ≡ d → r % 2 ≡ 0

even_up : (q : ℕ) → (q + q % 2) % 2 ≡ 0
even_up q = omega arith

tie_low : (n d r u : ℕ) → u + r ≡ n → 2 * r ≡ d → 2 * apart n u ≤ d
tie_low n d r u e h = omega arith

tie_high : (n d r u : ℕ) → u + r ≡ n → 2 * r ≡ d → 2 * apart n (u + d) ≤ d
tie_high n d r u e h = omega arith

pub nearest-is : (n d : ℕ) → 0 < d → Near n d (nearest n d)
unfolding nearest
nearest-is n d p = go (ltb (2 * r) d) (ltb d (2 * r)) refl refl
  where
    q : ℕ
    q = n / d

    r : ℕ
    r = n % d

    whole : n / d * d + n % d ≡ n
    whole = div-add-mod' n d

    low : n % d < d
    low = mod-lt n p

    step : (n / d + 1) * d ≡ n / d * d + d
    step = omega arith

    odd-or : (k : ℕ) → (k % 2 ≡ 0) ⊎ (k % 2 ≡ 1)
    odd-or k = go2 (dec_lt (k % 2) 1)
      where
        go2 : Dec (k % 2 < 1) → (k % 2 ≡ 0) ⊎ (k % 2 ≡ 1)
        go2 (yes l) = inl (omega arith)
        go2 (no l) = inr (omega arith)

    go : (a b : Bool) → ltb (2 * (n % d)) d ≡ a → ltb d (2 * (n % d)) ≡ b
        → Near n d (cond a (n / d) (cond b (n / d + 1) (n / d + n / d % 2)))
    go true b e f =
        let h = ltb-true (2 * (n % d)) d e in
        record { near = omega (arith, whole, low); even = λ z. absurd (omega (arith, whole, low)) }
    go false true e f =
        let h = ltb-true d (2 * (n % d)) f in
        record { near = omega (arith, whole, low, step); even = λ z. absurd (omega (arith, whole, low, step)) }
    go false false e f =
        let h : 2 * (n % d) ≡ d = omega (arith, ltb-false (2 * (n % d)) d e, ltb-false d (2 * (n % d)) f) in
        record {
          near = elim (odd-or (n / d)) [
            | inl z ↦ rw z (let x : (n / d + 0) * d
                ≡ n / d * d = omega arith in rw x (tie_low n d (n % d) (n / d * d) whole h))
            | inr z ↦ rw z (rw step (tie_high n d (n % d) (n / d * d) whole h))
          ];
          even = λ z. even_up (n / d);
        }

-- ---- every other whole number is farther off, or as far and then r is even
half-off : (n d u v : ℕ) → 2 * apart n u ≤ d → (u + d ≤ v) ⊎ (v + d ≤ u)
    → (apart n u < apart n v) ⊎ ((apart n u ≡ apart n v) × (2 * apart n u ≡ d))
half-off n d u v h (inl g) = go (dec_lt (apart n u) (apart n v))
  where
    go : Dec (apart n u < apart n v) → (apart n u < apart n v) ⊎ ((apart n u ≡ apart n v) × (2 * apart n u ≡ d))
    go (yes l) = inl l
    go (no l) = inr (omega arith, omega arith)
half-off n d u v h (inr g) = go (dec_lt (apart n u) (apart n v))
  where
    go : Dec (apart n u < apart n v) → (apart n u < apart n v) ⊎ ((apart n u ≡ apart n v) × (2 * apart n u ≡ d))
    go (yes l) = inl l
    go (no l) = inr (omega arith, omega arith)

above : (d r k : ℕ) → r < k → r * d + d ≤ k * d
above d r k h = subst (λ (x : ℕ). x ≤ k * d) (suc-mul r d) (mul-le-mul_right d h)

other : (d r k : ℕ) → (k ≡ r → ⊥) → (r * d + d ≤ k * d) ⊎ (k * d + d ≤ r * d)
other d r k h = go (dec_lt r k)
  where
    go : Dec (r < k) → (r * d + d ≤ k * d) ⊎ (k * d + d ≤ r * d)
    go (yes l) = inl (above d r k l)
    go (no l) = inr (above d k r (differ l h))
      where
        differ : (r < k → ⊥) → (k ≡ r → ⊥) → k < r
        differ a b = go2 (dec_lt k r)
          where
            go2 : Dec (k < r) → k < r
            go2 (yes z) = z
            go2 (no z) = absurd (b (omega arith))

pub near-least : (n d r : ℕ) → Near n d r → (k : ℕ) → (k ≡ r → ⊥)
    → (apart n (r * d) < apart n (k * d)) ⊎ ((apart n (r * d) ≡ apart n (k * d)) × (r % 2 ≡ 0))
near-least n d r g k h = elim (half-off n d (r * d) (k * d) g.near (other d r k h)) [
  | inl l ↦ inl l
  | inr z ↦ inr (z.0, g.even z.1)
]

-- k, of which the same holds, is r
between : (n d u v : ℕ) → u + (d + d) ≤ v → 2 * apart n u ≡ d → 2 * apart n v ≡ d → 0 < d → ⊥
between n d u v h a b p = omega arith

two-on : (d r k : ℕ) → r < k → r % 2 ≡ 0 → k % 2 ≡ 0 → r * d + (d + d) ≤ k * d
two-on d r k h a b =
    let l : suc r < k = omega arith in
    omega (arith, above d (suc r) k l, suc-mul r d)

both-even : (n d r k : ℕ) → 0 < d → 2 * apart n (r * d) ≡ d → 2 * apart n (k * d) ≡ d → r % 2 ≡ 0 → k % 2 ≡ 0
    → (k ≡ r → ⊥) → ⊥
both-even n d r k p a b e f h = go (dec_lt r k) (dec_lt k r)
  where
    go : Dec (r < k) → Dec (k < r) → ⊥
    go (yes l) x = between n d (r * d) (k * d) (two-on d r k l e f) a b p
    go (no l) (yes x) = between n d (k * d) (r * d) (two-on d k r x f e) b a p
    go (no l) (no x) = h (omega arith)

pub near_only : (n d r k : ℕ) → 0 < d → Near n d r
    → ((k ≡ r → ⊥) → (apart n (k * d) < apart n (r * d)) ⊎ ((apart n (k * d) ≡ apart n (r * d)) × (k % 2 ≡ 0))) → k ≡ r
near_only n d r k p g f = go (eqb k r) refl
  where
    go2 : (h : k ≡ r → ⊥) → (apart n (k * d) < apart n (r * d)) ⊎ ((apart n (k * d) ≡ apart n (r * d)) × (k % 2 ≡ 0))
        → (apart n (r * d) < apart n (k * d)) ⊎ ((apart n (r * d) ≡ apart n (k * d)) × (2 * apart n (r * d) ≡ d)) → ⊥
    go2 h (inl x) (inl y) = omega arith
    go2 h (inl x) (inr y) = omega (arith, y.0)
    go2 h (inr x) (inl y) = omega (arith, x.0)
    go2 h (inr x) (inr y) = both-even n d r k p y.1 (ap (λ (t : ℕ). 2 * t) x.0 ∙ y.1) (g.even y.1) x.1 h

    go : (b : Bool) → eqb k r ≡ b → k ≡ r
    go true e = eqb-true k r e
    go false e =
        let h = eqb-false k r e in absurd (go2 h (f h) (half-off n d (r * d) (k * d) g.near (other d r k h)))

-- ---- small and great
pub nearest-none : (n d : ℕ) → 2 * n < d → nearest n d ≡ 0
unfolding nearest
nearest-none n d h =
    let l : n < d = omega arith in
    let m : n % d ≡ n = mod-eq_of_lt l in
    rw (m, lt-ltb (2 * n) d h) (div-eq_of_lt l)

too_far : (n d b u : ℕ) → n ≤ b → 2 * apart n u ≤ d → 0 < d → b + d ≤ u → ⊥
too_far n d b u h g p l = omega arith

pub nearest-most : (n d b : ℕ) → 0 < d → n ≤ b * d → nearest n d ≤ b
nearest-most n d b p h = go (dec_lt b (nearest n d))
  where
    go : Dec (b < nearest n d) → nearest n d ≤ b
    go (yes l) = absurd (too_far n d (b * d) (nearest n d * d) h (nearest-is n d p).near p (above d b (nearest n d) l))
    go (no l) = omega arith

-- ---- equal fractions: a / b and c / d
rest-same : (a b c d q : ℕ) → q * b + a % b ≡ a → q * d + c % d ≡ c → a * d ≡ c * b → a % b * d ≡ c % d * b
rest-same a b c d q e f h =
    let x : (q * b + a % b) * d ≡ (q * d + c % d) * b = ap (λ (t : ℕ). t * d) e ∙ h ∙ ap (λ (t : ℕ). t * b) (sym f) in
    let y : q * b * d + a % b * d ≡ q * d * b + c % d * b = sym (add-mul (q * b) (a % b) d) ∙ x
    ∙ add-mul (q * d) (c % d) b in
    let z : q * b * d ≡ q * d * b = mul_right_comm q b d in
    plain (q * b * d) (q * d * b) (a % b * d) (c % d * b) z y
  where
    plain : (s t u v : ℕ) → s ≡ t → s + u ≡ t + v → u ≡ v
    plain s t u v i j = omega arith

-- x / b and u / d are one fraction: they stand alike to 1
like : (x b u d : ℕ) → 0 < b → 0 < d → x * d ≡ u * b → x < b → u < d
like x b u d p q h l = lt_of_mul-lt-mul_right b
    (subst (λ (t : ℕ). t < d * b) h (subst (λ (t : ℕ). x * d < t) (mul_comm b d) (mul-lt-mul_of_pos_right l q)))

like-over : (x b u d : ℕ) → 0 < b → 0 < d → x * d ≡ u * b → b < x → d < u
like-over x b u d p q h l = lt_of_mul-lt-mul_right b
    (subst (λ (t : ℕ). d * b < t) h (subst (λ (t : ℕ). t < x * d) (mul_comm b d) (mul-lt-mul_of_pos_right l q)))

same_test : (a b c d : ℕ) → (a < b → c < d) → (c < d → a < b) → ltb a b ≡ ltb c d
same_test a b c d f g = go (dec_lt a b)
  where
    go : Dec (a < b) → ltb a b ≡ ltb c d
    go (yes l) = lt-ltb a b l ∙ sym (lt-ltb c d (f l))
    go (no l) = le-ltb a b (omega arith) ∙ sym (le-ltb c d (back (λ z. l (g z))))
      where
        back : (c < d → ⊥) → d ≤ c
        back n = omega arith

pub nearest-same : (a b c d : ℕ) → 0 < b → 0 < d → a * d ≡ c * b → nearest a b ≡ nearest c d
unfolding nearest
nearest-same a b c d p q h =
    let e : a / b ≡ c / d = div_same a b c d p q h in
    let f : a / b * d + c % d ≡ c = ap (λ (t : ℕ). t * d + c % d) e ∙ div-add-mod' c d in
    let r = rest-same a b c d (a / b) (div-add-mod' a b) f h in
    let t : 2 * (a % b) * d ≡ 2 * (c % d) * b = mul_assoc 2 (a % b) d ∙ ap (λ (z : ℕ). 2 * z) r
    ∙ sym (mul_assoc 2 (c % d) b) in
    let u : ltb (2 * (a % b)) b ≡ ltb (2 * (c % d)) d = same_test (2 * (a % b)) b (2 * (c % d)) d
    (like (2 * (a % b)) b (2 * (c % d)) d p q t) (like (2 * (c % d)) d (2 * (a % b)) b q p (sym t)) in
    let v : ltb b (2 * (a % b)) ≡ ltb d (2 * (c % d)) = same_test b (2 * (a % b)) d (2 * (c % d))
    (like-over (2 * (a % b)) b (2 * (c % d)) d p q t) (like-over (2 * (c % d)) d (2 * (a % b)) b q p (sym t)) in
    λ i. cond (u i) (e i) (cond (v i) (e i + 1) (e i + e i % 2))
