-- Each token reads back what was printed, and reads nothing else. Assumes nothing.
use Rattle.std.specs.Prelude.{◌≡◌, refl, Bool, true, false, cond, ℕ, zero, suc, ◌+◌, ◌-◌, ◌*◌, ◌/◌, ◌%◌, ◌^◌, ◌<◌, ◌≤◌, ltb, leb, eqb}
use Rattle.std.proofs.Common.{sym, ap, subst, ◌∙◌, zero-add, add-zero, pow-suc, mod-eq_of_lt, arith, lt-ltb, le-ltb, le-leb, eq-eqb, ne_eqb, ltb-true, ltb-false, leb-true, eqb-true}
use mathlib.Core.List.{List, [], ◌∷◌, ◌++◌, append_assoc}
use Rattle.std.proofs.Math.Nat.{mul-add-div_right, mul-add-mod_self_right, div-eq_of_lt}
use Rattle.std.proofs.lemmas.Bool.{eqb-false}
use Rattle.text.specs.Text.{Text, lost, left, Got, strip, keep_if, digit, pattern, pattern_from, missing, decimal, decimal_from}
use Rattle.text.specs.Print.{glyph, digits, length_from_lem, decimal_length, decimal_text, pattern_text}

-- ---- literals

-- p printed reads back, and the rest is left
pub literal-back : (p r : List ℕ) → strip p (p ++ r) ≡ left r
literal-back [] r = refl
literal-back (a ∷ p) r = rw (eq-eqb a a refl) (literal-back p r)

abbrev Is-left : Text → Type 0
Is-left lost = ⊥
Is-left (left l) = Unit {0}

-- lost is no text
pub not_lost : {A : Type 0} {r : List ℕ} → lost ≡ left r → A
not_lost e = absurd (subst Is-left (sym e) tt)

-- what a literal was read from is the literal, and the rest
pub literal_inv : (p l r : List ℕ) → strip p l ≡ left r → l ≡ p ++ r
literal_inv [] l r e = cc
literal_inv (a ∷ p) [] r e = not_lost e
literal_inv (a ∷ p) (b ∷ l) r e = go (eqb b a) refl e (λ f. literal_inv p l r f)
  where
    go : (t : Bool) → eqb b a ≡ t → keep_if t (strip p l) ≡ left r → (strip p l ≡ left r → l ≡ p ++ r)
        → b ∷ l ≡ a ∷ (p ++ r)
    go true q f ih = let u = eqb-true b a q in let v = ih f in cc
    go false q f ih = not_lost f

-- ---- digits

digit_glyph : (d : ℕ) → d < 16 → digit (glyph d) ≡ d
digit_glyph d h = go (ltb d 10) refl
  where
    go : (b : Bool) → ltb d 10 ≡ b → digit (cond b (48 + d) (55 + d)) ≡ d
    go true e =
        let l : d < 10 = ltb-true d 10 e in
        rw (le-ltb (48 + d) 48 (omega arith), lt-ltb (48 + d) 58 (omega arith)) (omega arith)
    go false e =
        let l : 10 ≤ d = ltb-false d 10 e in
        rw (
          le-ltb (55 + d) 48 (omega arith),
          le-ltb (55 + d) 58 (omega arith),
          le-ltb (55 + d) 65
              (omega arith),
          lt-ltb (55 + d) 71 (omega arith),
        ) (omega arith)

glyph-digit : (b : ℕ) → digit b < 16 → glyph (digit b) ≡ b
glyph-digit b h = go (ltb b 48) (ltb b 58) (ltb b 65) (ltb b 71) refl refl refl refl h
  where
    go : (p q r t : Bool) → ltb b 48 ≡ p → ltb b 58 ≡ q → ltb b 65 ≡ r → ltb b 71 ≡ t
        → cond p 16 (cond q (b - 48) (cond r 16 (cond t (b - 55) 16))) < 16
        → glyph (cond p 16 (cond q (b - 48) (cond r 16 (cond t (b - 55) 16)))) ≡ b
    go true q r t e f g k h = absurd (omega arith)
    go false true r t e f g k h =
        let x = ltb-false b 48 e in let y = ltb-true b 58 f in rw (lt-ltb (b - 48) 10 (omega arith)) (omega arith)
    go false false true t e f g k h = absurd (omega arith)
    go false false false true e f g k h =
        let x = ltb-false b 65 g in let y = ltb-true b 71 k in rw (le-ltb (b - 55) 10 (omega arith)) (omega arith)
    go false false false false e f g k h = absurd (omega arith)

-- the digits of v and then the digit b
module _ (base : ℕ) (v b : ℕ) (h : digit b < base) (small : base ≤ 16) where
  over : (v * base + digit b) / base ≡ v
  over = mul-add-div_right (omega arith) v (digit b) ∙ rw (div-eq_of_lt h) (add-zero v)

  under : (v * base + digit b) % base ≡ digit b
  under = mul-add-mod_self_right v base (digit b) ∙ mod-eq_of_lt h

  digits-snoc : (j : ℕ) (l : List ℕ) → digits base (suc j) (v * base + digit b) ++ l ≡ digits base j v ++ (b ∷ l)
  unfolding digits
  digits-snoc j l =
      append_assoc (digits base j ((v * base + digit b) / base)) (glyph ((v * base + digit b) % base) ∷ []) l
      ∙ (λ i. digits base j (over i) ++ ((ap glyph under ∙ glyph-digit b (omega arith)) i ∷ l))

-- ---- 16 hexadecimal digits

-- k digits of n, and j more after them
pattern-digits : (k j n : ℕ) (r : List ℕ) → n < 16 ^ k
    → pattern_from (k + j) 0 (left (digits 16 k n ++ r)) ≡ pattern_from j n (left r)
unfolding digits pattern_from
pattern-digits zero j n r h = let e : n ≡ 0 = omega arith in rw (e, zero-add)
pattern-digits (suc k) j n r h =
    let e : suc k + j ≡ k + suc j = omega arith in
    let u : n < 16 ^ k * 16 = rw pow-suc at h in
    let d : n % 16 < 16 = omega arith in
    let v : n / 16 * 16 + n % 16 ≡ n = omega arith in
    (λ i. pattern_from (e i) 0 (left (append_assoc (digits 16 k (n / 16)) (glyph (n % 16) ∷ []) r i)))
    ∙ pattern-digits k (suc j) (n / 16) (glyph (n % 16) ∷ r) (omega arith)
    ∙ rw (digit_glyph (n % 16) d, lt-ltb _ _ d, v)

pub pattern-back : (n : ℕ) (r : List ℕ) → n < 2 ^ 64
    → pattern (left (pattern_text n ++ r)) ≡ record { val = n; text = left r }
unfolding pattern_text pattern_from
pattern-back n r h = pattern-digits 16 0 n r h

-- j digits make v, and k more of l make n
pattern-from : (k j v n : ℕ) (l r : List ℕ) → v < 16 ^ j → pattern_from k v (left l) ≡ record { val = n; text = left r }
    → (digits 16 j v ++ l ≡ digits 16 (j + k) n ++ r) × (n < 16 ^ (j + k))
unfolding pattern_from
pattern-from zero j v n l r h f =
    let a : left l ≡ left r = ap (λ (g : Got ℕ). g.text) f in
    let b : v ≡ n = ap (λ (g : Got ℕ). g.val) f in
    let d : l ≡ r = cc in
    rw (add-zero j) ((λ i. digits 16 j (b i) ++ d i), rw (sym b) h)
pattern-from (suc k) j v n [] r h f = not_lost (ap (λ (g : Got ℕ). g.text) f)
pattern-from (suc k) j v n (b ∷ l) r h f =
    go (ltb (digit b) 16) refl f (λ u e. pattern-from k (suc j) (v * 16 + digit b) n l r u e)
  where
    go : (t : Bool) → ltb (digit b) 16 ≡ t
        → cond t (pattern_from k (v * 16 + digit b) (left l)) missing ≡ record { val = n; text = left r }
        → (v * 16 + digit b < 16 ^ suc j → pattern_from k (v * 16 + digit b) (left l) ≡ record { val = n; text = left r }
        → (digits 16 (suc j) (v * 16 + digit b) ++ l ≡ digits 16 (suc j + k) n ++ r) × (n < 16 ^ (suc j + k)))
        → (digits 16 j v ++ (b ∷ l) ≡ digits 16 (j + suc k) n ++ r) × (n < 16 ^ (j + suc k))
    go true q e ih =
        let s : suc j + k ≡ j + suc k = omega arith in
        let d : digit b < 16 = ltb-true _ _ q in
        let x = ih (rw pow-suc (omega arith)) e in
        (sym (digits-snoc 16 v b d (omega arith) j l) ∙ x.0 ∙ (λ i. digits 16 (s i) n ++ r), rw (sym s) x.1)
    go false q e ih = not_lost (ap (λ (g : Got ℕ). g.text) e)

pub pattern_inv : (n : ℕ) (l r : List ℕ) → pattern (left l) ≡ record { val = n; text = left r }
    → (l ≡ pattern_text n ++ r) × (n < 2 ^ 64)
unfolding pattern_from digits pattern_text
pattern_inv n l r e = pattern-from 16 0 0 n l r (omega arith) e

-- ---- decimal numbers

-- a text that does not go on with a digit
abbrev pub NoDigit : List ℕ → Type 0
NoDigit [] = Unit {0}
NoDigit (b ∷ r) = 10 ≤ digit b

decimal_stop : (most n : ℕ) (r : List ℕ) → NoDigit r → decimal_from most n r ≡ record { val = n; text = left r }
decimal_stop most n [] h = refl
decimal_stop most n (b ∷ r) h = rw (le-ltb _ _ h)

decimal-one : (most n : ℕ) (r : List ℕ) → 0 < n → n < 10
    → decimal most (left (digits 10 1 n ++ r)) ≡ decimal_from most n r
unfolding digits decimal
decimal-one most n r p h =
    let e : n % 10 ≡ n = omega arith in
    rw (e, digit_glyph n (omega arith), lt-ltb n 10 h, ne_eqb n 0 (λ z. omega arith))

decimal-digits : (f most n : ℕ) (r : List ℕ) → 0 < n → n ≤ most → n < 10 ^ suc f
    → decimal most (left (digits 10 (length_from_lem f n) n ++ r)) ≡ decimal_from most n r
unfolding digits length_from_lem
decimal-digits zero most n r p m h = decimal-one most n r p (omega arith)
decimal-digits (suc f) most n r p m h =
    go (ltb n 10) refl (λ (k : ℕ) (s : List ℕ) a b c. decimal-digits f most k s a b c)
  where
    go : (b : Bool) → ltb n 10 ≡ b
        → ((k : ℕ) (s : List ℕ) → 0 < k → k ≤ most → k < 10 ^ suc f
        → decimal most (left (digits 10 (length_from_lem f k) k ++ s)) ≡ decimal_from most k s)
        → decimal most (left (digits 10 (cond b 1 (suc (length_from_lem f (n / 10)))) n ++ r)) ≡ decimal_from most n r
    go true e ih = decimal-one most n r p (ltb-true n 10 e)
    go false e ih =
        let l : 10 ≤ n = ltb-false n 10 e in
        let u : n < 10 ^ suc f * 10 = rw (pow-suc 10 (suc f)) at h in
        let d : n % 10 < 10 = omega arith in
        let v : n / 10 * 10 + n % 10 ≡ n = omega arith in
        (λ i. decimal most (left (append_assoc (digits 10 (length_from_lem f (n / 10)) (n / 10)) (glyph (n % 10) ∷ []) r i)))
        ∙ ih (n / 10) (glyph (n % 10) ∷ r) (omega arith) (omega arith) (omega arith)
        ∙ rw (digit_glyph (n % 10) (omega arith), lt-ltb _ _ d, v, le-leb _ _ m)

decimal-nought : (most n : ℕ) (r : List ℕ) → n ≡ 0
    → decimal most (left (digits 10 (length_from_lem 19 n) n ++ r)) ≡ record { val = n; text = left r }
unfolding digits length_from_lem decimal
decimal-nought most n r e = rw e

pub decimal-back : (most n : ℕ) (r : List ℕ) → n ≤ most → most < 2 ^ 64 → NoDigit r
    → decimal most (left (decimal_text n ++ r)) ≡ record { val = n; text = left r }
unfolding decimal_text decimal_length
decimal-back most n r m h e = go (eqb n 0) refl
  where
    go : (b : Bool) → eqb n 0 ≡ b → decimal most (left (digits 10 (length_from_lem 19 n) n ++ r))
        ≡ record { val = n; text = left r }
    go true q = decimal-nought most n r (eqb-true n 0 q)
    go false q =
        let z : n ≡ 0 → ⊥ = eqb-false n 0 q in
        decimal-digits 19 most n r (omega arith) m (omega arith) ∙ decimal_stop most n r e

length_more : (f v : ℕ) → v < 10 ^ suc f → length_from_lem f v ≡ length_from_lem (suc f) v
unfolding length_from_lem
length_more zero v h = let l : v < 10 = omega arith in rw (lt-ltb v 10 l)
length_more (suc f) v h =
    let u : v < 10 ^ suc f * 10 = rw (pow-suc 10 (suc f)) at h in
    (λ i. cond (ltb v 10) 1 (suc (length_more f (v / 10) (omega arith) i)))

decimal_snoc : (v b : ℕ) (l : List ℕ) → digit b < 10 → 0 < v → v * 10 + digit b < 2 ^ 64
    → decimal_text (v * 10 + digit b) ++ l ≡ decimal_text v ++ (b ∷ l)
unfolding length_from_lem decimal_text decimal_length
decimal_snoc v b l h z m =
    let w = v * 10 + digit b in
    let p : w / 10 ≡ v = omega arith in
    let s : length_from_lem 18 (w / 10) ≡ length_from_lem 19 v = ap (length_from_lem 18) p ∙ length_more 18 v (omega arith) in
    let n : length_from_lem 19 w ≡ suc (length_from_lem 19 v) = rw (le-ltb w 10 (omega arith)) (ap suc s) in
    (λ i. digits 10 (n i) w ++ l) ∙ digits-snoc 10 v b h (omega arith) (length_from_lem 19 v) l

decimal-from : (most v n : ℕ) (l r : List ℕ) → 0 < v → v ≤ most → most < 2 ^ 64
    → decimal_from most v l ≡ record { val = n; text = left r } → (decimal_text v ++ l ≡ decimal_text n ++ r) × (n ≤ most)
decimal-from most v n [] r z m w e =
    let a : left [] ≡ left r = ap (λ (g : Got ℕ). g.text) e in
    let b : v ≡ n = ap (λ (g : Got ℕ). g.val) e in
    let d : [] ≡ r = cc in
    ((λ i. decimal_text (b i) ++ d i), omega arith)
decimal-from most v n (b ∷ l) r z m w e =
    go (ltb (digit b) 10) (leb (v * 10 + digit b) most) refl refl e
    (λ p q f. decimal-from most (v * 10 + digit b) n l r p q w f)
  where
    go : (s t : Bool) → ltb (digit b) 10 ≡ s → leb (v * 10 + digit b) most ≡ t
        → cond s (cond t (decimal_from most (v * 10 + digit b) l) missing) (record { val = v; text = left (b ∷ l) })
        ≡ record { val = n; text = left r }
        →
        (0 < v * 10 + digit b → v * 10 + digit b ≤ most
        → decimal_from most (v * 10 + digit b) l ≡ record { val = n; text = left r }
        → (decimal_text (v * 10 + digit b) ++ l ≡ decimal_text n ++ r) × (n ≤ most))
        → (decimal_text v ++ (b ∷ l) ≡ decimal_text n ++ r) × (n ≤ most)
    go true true p q f ih =
        let y = leb-true _ _ q in
        let i = ih (omega arith) y f in
        (sym (decimal_snoc v b l (ltb-true _ _ p) z (omega arith)) ∙ i.0, i.1)
    go true false p q f ih = not_lost (ap (λ (g : Got ℕ). g.text) f)
    go false t p q f ih =
        let a : left (b ∷ l) ≡ left r = ap (λ (g : Got ℕ). g.text) f in
        let x : v ≡ n = ap (λ (g : Got ℕ). g.val) f in
        let d : b ∷ l ≡ r = cc in
        ((λ i. decimal_text (x i) ++ d i), omega arith)

decimal_digit : (b : ℕ) (l : List ℕ) → digit b < 10 → b ∷ l ≡ decimal_text (digit b) ++ l
unfolding digits length_from_lem decimal_text decimal_length
decimal_digit b l h =
    let q : digit b % 10 ≡ digit b = omega arith in
    rw (lt-ltb (digit b) 10 h, q, glyph-digit b (omega arith))

pub decimal_inv : (most n : ℕ) (l r : List ℕ) → 9 ≤ most → most < 2 ^ 64
    → decimal most (left l) ≡ record { val = n; text = left r } → (l ≡ decimal_text n ++ r) × (n ≤ most)
unfolding decimal
decimal_inv most n [] r m w e = not_lost (ap (λ (g : Got ℕ). g.text) e)
decimal_inv most n (b ∷ l) r m w e = go (ltb (digit b) 10) (eqb (digit b) 0) refl refl e
  where
    go : (s t : Bool) → ltb (digit b) 10 ≡ s → eqb (digit b) 0 ≡ t
        → cond s (cond t (record { val = 0; text = left l }) (decimal_from most (digit b) l)) missing
        ≡ record { val = n; text = left r }
        → (b ∷ l ≡ decimal_text n ++ r) × (n ≤ most)
    go true true p q f =
        let a : left l ≡ left r = ap (λ (g : Got ℕ). g.text) f in
        let x : 0 ≡ n = ap (λ (g : Got ℕ). g.val) f in
        let d : l ≡ r = cc in
        let y : digit b ≡ n = eqb-true _ _ q ∙ x in
        (decimal_digit b l (ltb-true _ _ p) ∙ (λ i. decimal_text (y i) ++ d i), omega arith)
    go true false p q f =
        let h = ltb-true (digit b) 10 p in
        let z : digit b ≡ 0 → ⊥ = eqb-false (digit b) 0 q in
        let i = decimal-from most (digit b) n l r (omega arith) (omega arith) w f in
        (decimal_digit b l h ∙ i.0, i.1)
    go false t p q f = not_lost (ap (λ (g : Got ℕ). g.text) f)
