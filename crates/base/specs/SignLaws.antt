-- Products, quotients and differences of floats whose signs are turned. Only a difference that is exactly zero keeps
-- its sign. Assumes nothing.
use Rattle.std.specs.Prelude.{◌≡◌, refl, ◌⊎◌, Bool, true, false, not, ◌&&◌, cond, ℕ, ◌+◌, ◌-◌, ◌*◌, ◌≤◌, ◌<◌, ltb, eqb, pos, Float}
use Rattle.std.proofs.Common.{sym, ap, ◌∙◌, inl, inr, mul-pos, zero-mul, arith, ltb-false, lit<}
use Rattle.std.proofs.lemmas.Bool.{false≢true, eqb-false}
use Rattle.std.specs.Float.{nan, inf, fin, binary64}
use Rattle.std.specs.Float.Ieee.{unlike, up, down, round, neg, add, sub, mul, div, sum, lt, of_bits}
use Rattle.std.specs.Float.Ieee.Fits.{up_pos, down_pos}
use Rattle.std.specs.Float.Ieee.Scale.{round_same}
use Rattle.base.specs.Floats.{◌⊖◌, ◌⊗◌, ◌⊘◌, +0, abs}
use Rattle.base.specs.FloatLaws.{round-neg}

pub neg-neg : (x : Float) → neg (neg x) ≡ x
unfolding neg
neg-neg nan = refl
neg-neg (inf true) = refl
neg-neg (inf false) = refl
neg-neg (fin true m e) = refl
neg-neg (fin false m e) = refl

pub abs_neg : (x : Float) → abs (neg x) ≡ abs x
unfolding abs neg
abs_neg nan = refl
abs_neg (inf s) = refl
abs_neg (fin s m e) = refl

-- an absolute value is the value or its negative
pub abs-either : (x : Float) → (abs x ≡ x) ⊎ (abs x ≡ neg x)
unfolding abs neg
abs-either nan = inl refl
abs-either (inf true) = inr refl
abs-either (inf false) = inl refl
abs-either (fin true m e) = inr refl
abs-either (fin false m e) = inl refl

-- ---- products and quotients
unlike-left : (s t : Bool) → unlike (not s) t ≡ not (unlike s t)
unlike-left true true = refl
unlike-left true false = refl
unlike-left false true = refl
unlike-left false false = refl

unlike-both : (s t : Bool) → unlike (not s) (not t) ≡ unlike s t
unlike-both true true = refl
unlike-both true false = refl
unlike-both false true = refl
unlike-both false false = refl

infinite-left : (b s t : Bool) → cond b nan (inf (unlike (not s) t)) ≡ neg (cond b nan (inf (unlike s t)))
unfolding neg
infinite-left true s t = refl
infinite-left false s t = ap inf (unlike-left s t)

pub mul-neg-left : (x y : Float) → neg x ⊗ y ≡ neg (x ⊗ y)
unfolding mul neg
mul-neg-left nan y = refl
mul-neg-left (inf s) nan = refl
mul-neg-left (inf s) (inf t) = ap inf (unlike-left s t)
mul-neg-left (inf s) (fin t n d) = infinite-left (eqb n 0) s t
mul-neg-left (fin s m e) nan = refl
mul-neg-left (fin s m e) (inf t) = infinite-left (eqb m 0) s t
mul-neg-left (fin s m e) (fin t n d) = ap (λ (z : Bool). round binary64 z (m * up e * (n * up d)) (down e * down d))
    (unlike-left s t) ∙ sym (round-neg (unlike s t) (m * up e * (n * up d)) (down e * down d))

pub mul-neg-both : (x y : Float) → neg x ⊗ neg y ≡ x ⊗ y
unfolding mul neg
mul-neg-both nan y = refl
mul-neg-both (inf s) nan = refl
mul-neg-both (inf s) (inf t) = ap inf (unlike-both s t)
mul-neg-both (inf s) (fin t n d) = ap (λ (z : Bool). cond (eqb n 0) nan (inf z)) (unlike-both s t)
mul-neg-both (fin s m e) nan = refl
mul-neg-both (fin s m e) (inf t) = ap (λ (z : Bool). cond (eqb m 0) nan (inf z)) (unlike-both s t)
mul-neg-both (fin s m e) (fin t n d) =
    ap (λ (z : Bool). round binary64 z (m * up e * (n * up d)) (down e * down d)) (unlike-both s t)

pub mul-neg-right : (x y : Float) → x ⊗ neg y ≡ neg (x ⊗ y)
mul-neg-right x y = ap (λ (z : Float). z ⊗ neg y) (sym (neg-neg x)) ∙ mul-neg-both (neg x) y ∙ mul-neg-left x y

pub div-neg-both : (x y : Float) → neg x ⊘ neg y ≡ x ⊘ y
unfolding div neg
div-neg-both nan y = refl
div-neg-both (inf s) nan = refl
div-neg-both (inf s) (inf t) = refl
div-neg-both (inf s) (fin t n d) = ap inf (unlike-both s t)
div-neg-both (fin s m e) nan = refl
div-neg-both (fin s m e) (inf t) = ap (λ (z : Bool). fin z 0 (pos 0)) (unlike-both s t)
div-neg-both (fin s m e) (fin t n d) = ap
    (λ (z : Bool). cond (eqb n 0) (cond (eqb m 0) nan (inf z))
    (round binary64 z (m * up e * down d) (n * up d * down e))) (unlike-both s t)

-- ---- a fraction of 0
zero-rounded : (s : Bool) → round binary64 s 0 1 ≡ fin s 0 (pos 0)
unfolding round
zero-rounded true = refl
zero-rounded false = refl

pub round-zero : (s : Bool) (n d : ℕ) → n ≡ 0 → 0 < d → round binary64 s n d ≡ fin s 0 (pos 0)
round-zero s n d e h =
    round_same binary64 s n d 0 1 h (lit< tt) (ap (λ (k : ℕ). k * 1) e ∙ sym (zero-mul d)) ∙ zero-rounded s

-- ---- differences
level : (a b : ℕ) → b ≤ a → a ≤ b → a - b ≡ 0
level a b h k = omega arith

-- a sum of two unlike signs, by how its parts compare
apart : (s p q : Bool) (a b c : ℕ) → 0 < c → ltb a b ≡ p → ltb b a ≡ q
    → (cond p (round binary64 s (b - a) c) (round binary64 (not s && q) (a - b) c)
    ≡ neg (cond p (round binary64 (not s) (b - a) c) (round binary64 (s && q) (a - b) c)))
    ⊎ (cond p (round binary64 (not s) (b - a) c) (round binary64 (s && q) (a - b) c) ≡ +0)
unfolding of_bits
apart true true q a b c h k l = inl (sym (round-neg false (b - a) c))
apart false true q a b c h k l = inl (sym (round-neg true (b - a) c))
apart true false true a b c h k l = inl (sym (round-neg true (a - b) c))
apart false false true a b c h k l = inl (sym (round-neg false (a - b) c))
apart true false false a b c h k l = inr (round-zero false (a - b) c (level a b (ltb-false a b k) (ltb-false b a l)) h)
apart false false false a b c h k l = inr (round-zero false (a - b) c (level a b (ltb-false a b k) (ltb-false b a l)) h)

sum-neg : (s t : Bool) (a b c : ℕ) → 0 < c
    → (sum binary64 (not s) a (not t) b c ≡ neg (sum binary64 s a t b c)) ⊎ (sum binary64 s a t b c ≡ +0)
unfolding sum
sum-neg true true a b c h = inl (sym (round-neg true (a + b) c))
sum-neg false false a b c h = inl (sym (round-neg false (a + b) c))
sum-neg true false a b c h = apart true (ltb a b) (ltb b a) a b c h refl refl
sum-neg false true a b c h = apart false (ltb a b) (ltb b a) a b c h refl refl

pub sub-neg : (x y : Float) → (neg x ⊖ neg y ≡ neg (x ⊖ y)) ⊎ (x ⊖ y ≡ +0)
unfolding sub add neg
sub-neg nan y = inl refl
sub-neg (inf s) nan = inl refl
sub-neg (inf true) (inf true) = inl refl
sub-neg (inf true) (inf false) = inl refl
sub-neg (inf false) (inf true) = inl refl
sub-neg (inf false) (inf false) = inl refl
sub-neg (inf s) (fin t n d) = inl refl
sub-neg (fin s m e) nan = inl refl
sub-neg (fin s m e) (inf t) = inl refl
sub-neg (fin s m e) (fin t n d) =
    sum-neg s (not t) (m * up e * down d) (n * up d * down e) (down e * down d) (mul-pos (down_pos e) (down_pos d))

-- ---- a quotient above zero
zero-not-above : (s : Bool) → lt +0 (fin s 0 (pos 0)) ≡ true → ⊥
unfolding lt of_bits
zero-not-above true h = false≢true h
zero-not-above false h = false≢true h

zero-over : (z : Float) → lt +0 (+0 ⊘ z) ≡ true → ⊥
unfolding div lt of_bits
zero-over nan h = false≢true h
zero-over (inf s) h = zero-not-above (unlike false s) h
zero-over (fin t n d) h = go (eqb n 0) refl h
  where
    some : eqb n 0 ≡ false → 0 < n
    some e = let z = eqb-false n 0 e in omega arith

    go : (b : Bool) → eqb n 0 ≡ b → lt +0
        (cond b nan (round binary64 (unlike false t) (0 * 1 * down d) (n * up d * 1))) ≡ true → ⊥
    go true e k = false≢true k
    go false e k = zero-not-above (unlike false t)
        (sym
        (ap (lt +0)
        (round-zero (unlike false t) (0 * 1 * down d) (n * up d * 1) (zero-mul (down d))
        (mul-pos (mul-pos (some e) (up_pos d)) (lit< tt))))
        ∙ k)

-- it is the same with all three signs turned
pub quotient-neg : (x y z : Float) → lt +0 ((x ⊖ y) ⊘ z) ≡ true → (neg x ⊖ neg y) ⊘ neg z ≡ (x ⊖ y) ⊘ z
quotient-neg x y z h = elim (sub-neg x y) [
  | inl e ↦ ap (λ (w : Float). w ⊘ neg z) e ∙ div-neg-both (x ⊖ y) z
  | inr e ↦ absurd (zero-over z (sym (ap (λ (w : Float). lt +0 (w ⊘ z)) e) ∙ h))
]
