-- How many digits a number takes; a text of a form has no more bytes than the form's longest. Assumes nothing.
use Rattle.std.specs.Prelude.{◌≡◌, refl, List, ◌++◌, Bool, true, false, cond, ◌⊎◌, ℕ, zero, suc, ◌+◌, ◌*◌, ◌/◌, ◌^◌, ◌<◌, ◌≤◌, max, ltb, length}
use Rattle.std.proofs.Common.{sym, ap, ◌∙◌, inl, inr, zero-add, pow-suc, arith, lt-ltb, le-ltb, length-append}
use Rattle.std.proofs.Math.Nat.{pow-succ', div-div-eq-div-mul, le-max_left, le-max_right}
use Rattle.text.specs.Print.{length_from_lem, decimal_length, decimal_text, pattern_text}
use Rattle.text.specs.Form.{Form, end, word, number, real, either, Vals, Spells}
use Rattle.text.specs.WriteLaws.{length_digits}

-- the most bytes that a text of the form has
abbrev pub longest : Form → ℕ
longest end = 0
longest (word p f) = length p + longest f
longest (number most f) = 20 + longest f
longest (real f) = 16 + longest f
longest (either a b f) = max (longest a) (longest b) + longest f

-- ---- how many digits

-- below 10 ^ (k + 1) no more than k + 1
length-under : (f k n : ℕ) → n < 10 ^ suc k → length_from_lem f n ≤ suc k
unfolding length_from_lem
length-under zero k n h = omega arith
length-under (suc f) zero n h = let l : n < 10 = omega arith in rw (lt-ltb n 10 l) (omega arith)
length-under (suc f) (suc k) n h = go (ltb n 10) (length-under f k (n / 10) less)
  where
    less : n / 10 < 10 ^ suc k
    less = let u : n < 10 ^ suc k * 10 = rw (pow-suc 10 (suc k)) at h in omega arith

    go : (b : Bool) → length_from_lem f (n / 10) ≤ suc k → cond b 1 (suc (length_from_lem f (n / 10))) ≤ suc (suc k)
    go true i = omega arith
    go false i = omega arith

pub digits-under : (k n : ℕ) → n < 10 ^ suc k → decimal_length n ≤ suc k
unfolding decimal_length
digits-under k n h = length-under 19 k n h

some : (k : ℕ) → 0 < 10 ^ k
some zero = omega arith
some (suc k) = let h = some k in rw pow-suc (omega arith)

-- and from 10 ^ k on as many
length_some : (f k n : ℕ) → k ≤ f → n < 10 ^ suc k → (k ≡ 0) ⊎ (10 ^ k ≤ n) → length_from_lem f n ≡ suc k
unfolding length_from_lem
length_some zero zero n h l g = refl
length_some zero (suc k) n h l g = absurd (omega arith)
length_some (suc f) zero n h l g = rw (lt-ltb n 10 l) refl
length_some (suc f) (suc k) n h l (inl z) = absurd (omega arith)
length_some (suc f) (suc k) n h l (inr g) =
    let a : 10 ^ k * 10 ≤ n = rw pow-suc at g in
    let b : n < 10 ^ suc k * 10 = rw (pow-suc 10 (suc k)) at l in
    let z : 0 < 10 ^ k = some k in
    rw (le-ltb n 10 (omega arith)) (ap suc (length_some f k (n / 10) (omega arith) (omega arith) (inr (omega arith))))

pub one-digit : (n : ℕ) → n < 10 → 1 ≡ decimal_length n
unfolding decimal_length
one-digit n h = sym (length_some 19 0 n (omega arith) h (inl refl))

pub some-digits : (k n : ℕ) → k ≤ 19 → n < 10 ^ suc k → 10 ^ k ≤ n → suc k ≡ decimal_length n
unfolding decimal_length
some-digits k n h l g = sym (length_some 19 k n h l (inr g))

-- j more where the last j are cut off
length_cut : (f j n : ℕ) → 10 ^ j ≤ n → length_from_lem (j + f) n ≡ j + length_from_lem f (n / 10 ^ j)
unfolding length_from_lem
length_cut f zero n h = let e : n / 1 ≡ n = omega arith in rw (zero-add, zero-add, e) refl
length_cut f (suc j) n h =
    let a : 10 ^ j * 10 ≤ n = rw pow-suc at h in
    let z : 0 < 10 ^ j = some j in
    let e : suc j + f ≡ suc (j + f) = omega arith in
    let d : suc j + length_from_lem f (n / 10 / 10 ^ j) ≡ suc (j + length_from_lem f (n / 10 / 10 ^ j)) = omega arith in
    let k : n / 10 / 10 ^ j ≡ n / 10 ^ suc j = div-div-eq-div-mul n 10 (10 ^ j)
    ∙ ap (λ (x : ℕ). n / x) (sym (pow-succ' 10 j)) in
    rw (e, le-ltb n 10 (omega arith)) (ap suc (length_cut f j (n / 10) (omega arith)) ∙ sym d
    ∙ (λ i. suc j + length_from_lem f (k i)))

-- room for more digits than there are
length_room : (f g n : ℕ) → n < 10 ^ suc f → length_from_lem f n ≡ length_from_lem (f + g) n
unfolding length_from_lem
length_room zero zero n h = refl
length_room zero (suc g) n h = let l : n < 10 = omega arith in rw (zero-add, lt-ltb n 10 l) refl
length_room (suc f) g n h =
    let e : suc f + g ≡ suc (f + g) = omega arith in
    let u : n < 10 ^ suc f * 10 = rw (pow-suc 10 (suc f)) at h in
    rw e (λ i. cond (ltb n 10) 1 (suc (length_room f g (n / 10) (omega arith) i)))

pub ten-more : (n : ℕ) → n < 2 ^ 64 → 10 ^ 10 ≤ n → 10 + decimal_length (n / 10 ^ 10) ≡ decimal_length n
unfolding decimal_length
ten-more n h l = sym (length_cut 9 10 n l ∙ (λ i. 10 + length_room 9 10 (n / 10 ^ 10) (omega arith) i))

length_from : (f n : ℕ) → length_from_lem f n ≤ suc f
unfolding length_from_lem
length_from zero n = omega arith
length_from (suc f) n = go (ltb n 10) (length_from f (n / 10))
  where
    go : (b : Bool) → length_from_lem f (n / 10) ≤ suc f → cond b 1 (suc (length_from_lem f (n / 10))) ≤ suc (suc f)
    go true h = omega arith
    go false h = omega arith

pub decimal-most : (n : ℕ) → decimal_length n ≤ 20
unfolding decimal_length
decimal-most n = length_from 19 n

pub decimal-length : (n : ℕ) → length (decimal_text n) ≡ decimal_length n
unfolding decimal_text
decimal-length n = length_digits 10 (decimal_length n) n

length-decimal : (n : ℕ) → length (decimal_text n) ≤ 20
length-decimal n = rw (decimal-length n) (decimal-most n)

pub length-pattern : (n : ℕ) → length (pattern_text n) ≡ 16
unfolding pattern_text
length-pattern n = length_digits 16 16 n

-- u and then m
joined : {l : List ℕ} (u m : List ℕ) → l ≡ u ++ m → length l ≡ length u + length m
joined u m e = ap length e ∙ length-append u m

pub at_most : (f : Form) (v : Vals f) (l r : List ℕ) → Spells f v l r → length l ≤ longest f + length r
at_most end v l r s = omega (arith, ap length s)
at_most (word p f) v l r s = omega (arith, joined p s.0 s.1, at_most f v s.0 r s.2)
at_most (number most f) v l r s =
    omega (arith, joined (decimal_text v.0) s.0 s.1, length-decimal v.0, at_most f v.1 s.0 r s.3)
at_most (real f) v l r s =
    omega (arith, joined (pattern_text s.0) s.1 s.2, length-pattern s.0, at_most f v.1 s.1 r s.5)
at_most (either a b f) (inl v, w) l r s =
    omega (arith, le-max_left (longest a) (longest b), at_most a v l s.0 s.1, at_most f w s.0 r s.2)
at_most (either a b f) (inr v, w) l r s =
    omega (arith, le-max_right (longest a) (longest b), at_most b v l s.0 s.1, at_most f w s.0 r s.2)

-- what stands after a form is no longer than the text
pub at_least : (f : Form) (v : Vals f) (l r : List ℕ) → Spells f v l r → length r ≤ length l
at_least end v l r s = omega (arith, ap length s)
at_least (word p f) v l r s = omega (arith, joined p s.0 s.1, at_least f v s.0 r s.2)
at_least (number most f) v l r s =
    omega (arith, joined (decimal_text v.0) s.0 s.1, at_least f v.1 s.0 r s.3)
at_least (real f) v l r s = omega (arith, joined (pattern_text s.0) s.1 s.2, at_least f v.1 s.1 r s.5)
at_least (either a b f) (inl v, w) l r s = omega (arith, at_least a v l s.0 s.1, at_least f w s.0 r s.2)
at_least (either a b f) (inr v, w) l r s = omega (arith, at_least b v l s.0 s.1, at_least f w s.0 r s.2)
