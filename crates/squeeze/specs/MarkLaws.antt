-- Laws of marks and ranks: digits of words say which vertices are used, and counts of digits are their new numbers.
-- Assumes nothing.
use Rattle.std.specs.Prelude.{◌≡◌, Bool, true, false, ◌||◌, cond, List, [], ◌∷◌, ◌++◌, eqb, length, set, take}
use Rattle.std.specs.Prelude.{replicate}
use Rattle.std.proofs.Math.Path.{refl}
use Rattle.std.proofs.Common.{sym, ap, ◌∙◌, one-mul, lt_trans, mod-lt, mod-eq_of_lt, add-zero, add-one, pow_pos}
use Rattle.std.proofs.Common.{length-set, get_or-set_same, get_or-set_other, take-suc, eq-eqb, ne_eqb, eqb-true}
use Rattle.std.proofs.Math.Bool.{or-false, or_assoc}
use Prim.Native.Nat.{ℕ, zero, suc, ◌+◌, ◌-◌, ◌*◌, ◌/◌, ◌%◌, ◌^◌, ◌≤◌, ◌<◌}
use Rattle.std.proofs.Math.Nat.{mod-one}
use native.Mathlib.Omega.{arith}
use Rattle.std.proofs.Math.Pow.{pow-lt}
use Rattle.std.proofs.lemmas.Nat.{mod-pow-add, and_mask, or_shr, or_mod, or_lt, ones_cat, ones-le}
use Rattle.std.specs.Int.Bits.{bit_and, bit_or}
use Rattle.std.specs.Int.Count.{ones, ones_in}
use Rattle.std.proofs.Math.ListN.{get_or}
use Rattle.std.proofs.lemmas.List.{length-replicate, get_or-replicate}
use Rattle.std.proofs.lemmas.Bool.{eqb-false}
use Rattle.base.specs.Loops.{every}
use Rattle.base.specs.LoopLaws.{every_at}
use Rattle.squeeze.specs.Squeeze.{used, rank}
use Rattle.squeeze.specs.Marks.{word_limit, digit, Marked, ones_to, Ranked, number_of}

dec_eq : (a b : ℕ) → Dec (a ≡ b)
dec_eq a b = go (eqb a b) refl
  where
    go : (t : Bool) → eqb a b ≡ t → Dec (a ≡ b)
    go true e = yes (eqb-true a b e)
    go false e = no (eqb-false a b e)

-- ---- digits
pub one_shifted : (b : ℕ) → b < 32 → 1 * 2 ^ b % 4294967296 ≡ 2 ^ b
one_shifted b h = rw (one-mul (2 ^ b)) (mod-eq_of_lt {n = 2 ^ b} {m = 4294967296} (pow-lt {i = b} {j = 32} h))

-- the digits below b, and how many are set
pub below_mask : (x b : ℕ) → b < 32 → x < 4294967296
    → (ones (bit_and x (1 * 2 ^ b % 4294967296 - 1)) ≡ ones (x % 2 ^ b))
    × (ones (bit_and x (1 * 2 ^ b % 4294967296 - 1)) ≤ 32)
below_mask x b h f =
    let e : bit_and x (1 * 2 ^ b % 4294967296 - 1) ≡ x % 2 ^ b = rw (one_shifted b h) (and_mask x b) in
    (ap ones e, rw e (ones-le 32 (x % 2 ^ b) (lt_trans (mod-lt x (pow_pos b)) (pow-lt {i = b} {j = 32} h))))

digit_or : (x y c : ℕ) → digit (bit_or x y) c ≡ bit_or (digit x c) (digit y c)
digit_or x y c = ap (λ (z : ℕ). z % 2) (or_shr x y c) ∙ or_mod (x / 2 ^ c) (y / 2 ^ c) 1

-- by trying them all
power-digit : (b c : ℕ) → b < 32 → c < 32 → digit (2 ^ b) c ≡ cond (eqb b c) 1 0
unfolding every
power-digit b c hb hc = eqb-true (digit (2 ^ b) c) (cond (eqb b c) 1 0)
    (every_at (test b) 32 c hc (every_at (λ n. every (test n) 32) 32 b hb refl))
  where
    test : ℕ → ℕ → Bool
    test n k = eqb (digit (2 ^ n) k) (cond (eqb n k) 1 0)

or-cond : (s t : Bool) → bit_or (cond s 1 0) (cond t 1 0) ≡ cond (s || t) 1 0
or-cond true true = refl
or-cond true false = refl
or-cond false true = refl
or-cond false false = refl

-- ---- one corner more, behind
pub used_snoc : (ks : List ℕ) (k i : ℕ) → used (ks ++ (k ∷ [])) i ≡ (used ks i || eqb k i)
unfolding used
used_snoc [] k i = or-false (eqb k i)
used_snoc (x ∷ ks) k i =
    ap (λ (t : Bool). eqb x i || t) (used_snoc ks k i) ∙ sym (or_assoc (eqb x i) (used ks i) (eqb k i))

-- ---- marks
zero-digit : (b : ℕ) → b < 32 → digit 0 b ≡ 0
unfolding every
zero-digit b hb = eqb-true (digit 0 b) 0 (every_at (λ k. eqb (digit 0 k) 0) 32 b hb refl)

pub none_marked : (n : ℕ) → n ≡ word_limit → Marked [] (replicate n 0)
unfolding used
none_marked n h =
    record {
      long = length-replicate {A = ℕ} n 0 ∙ h;
      bit = λ j b hj hb. rw (get_or-replicate {A = ℕ} n j 0 0 (omega arith)) (zero-digit b hb);
      fits = λ j. zero-fits n j;
    }
  where
    zero-fits : (n j : ℕ) → get_or (replicate n 0) j 0 < 4294967296
    zero-fits zero j = omega arith
    zero-fits (suc n) zero = omega arith
    zero-fits (suc n) (suc j) = zero-fits n j

same-digit : (k j b : ℕ) → b < 32 → j ≡ k / 32 → eqb (k % 32) b ≡ eqb k (32 * j + b)
same-digit k j b hb e = go (dec_eq (k % 32) b)
  where
    go : Dec (k % 32 ≡ b) → eqb (k % 32) b ≡ eqb k (32 * j + b)
    go (yes h) = eq-eqb (k % 32) b h ∙ sym (eq-eqb k (32 * j + b) (omega arith))
    go (no h) = ne_eqb (k % 32) b h ∙ sym (ne_eqb k (32 * j + b) (λ z. h (omega arith)))

module _ (ks ms : List ℕ) (k : ℕ) (m : Marked ks ms) (h : k < 1048576) where
  l : length ms ≡ word_limit
  l = m.long

  abbrev more : List ℕ
  more = set ms (k / 32) (bit_or (get_or ms (k / 32) 0) (2 ^ (k % 32)))

  more-bit : (j b : ℕ) → j < word_limit → b < 32
      → digit (get_or more j 0) b ≡ cond (used (ks ++ (k ∷ [])) (32 * j + b)) 1 0
  more-bit j b hj hb = go (dec_eq j (k / 32))
    where
      go : Dec (j ≡ k / 32) → digit (get_or more j 0) b ≡ cond (used (ks ++ (k ∷ [])) (32 * j + b)) 1 0
      go (yes e) =
          let g : get_or more j 0 ≡ bit_or (get_or ms j 0) (2 ^ (k % 32)) = rw e
          (get_or-set_same ms (k / 32) (bit_or (get_or ms (k / 32) 0) (2 ^ (k % 32))) 0 (omega (arith, l))) in
          rw (
            g,
            digit_or (get_or ms j 0) (2 ^ (k % 32)) b,
            m.bit j b hj hb,
            power-digit (k % 32) b
                (omega arith) hb,
            same-digit k j b hb e,
            used_snoc ks k (32 * j + b),
          )
          (or-cond (used ks (32 * j + b)) (eqb k (32 * j + b)))
      go (no e) =
          rw (
            get_or-set_other ms (k / 32) j
                (bit_or (get_or ms (k / 32) 0) (2 ^ (k % 32))) 0 e,
            m.bit j b hj hb,
            used_snoc ks k (32 * j + b),
            ne_eqb k
                (32 * j + b) (λ z. e (omega arith)),
            or-false (used ks (32 * j + b)),
          ) refl

  more-fits : (j : ℕ) → get_or more j 0 < 4294967296
  more-fits j = go (dec_eq j (k / 32))
    where
      go : Dec (j ≡ k / 32) → get_or more j 0 < 4294967296
      go (yes e) =
          let g : get_or more j 0 ≡ bit_or (get_or ms (k / 32) 0) (2 ^ (k % 32)) = rw e
          (get_or-set_same ms (k / 32) (bit_or (get_or ms (k / 32) 0) (2 ^ (k % 32))) 0 (omega (arith, l))) in
          rw g (or_lt 32 (get_or ms (k / 32) 0) (2 ^ (k % 32)) (m.fits (k / 32))
          (pow-lt {i = k % 32} {j = 32} (omega arith)))
      go (no e) = rw (get_or-set_other ms (k / 32) j (bit_or (get_or ms (k / 32) 0) (2 ^ (k % 32))) 0 e) (m.fits j)

  pub one_marked : Marked (ks ++ (k ∷ [])) more
  one_marked =
      record {
        long = length-set ms (k / 32) (bit_or (get_or ms (k / 32) 0) (2 ^ (k % 32))) ∙ l;
        bit = more-bit;
        fits = more-fits;
      }

-- corner i of ks
pub next_marked : (ks ms : List ℕ) (i k x : ℕ) → Marked (take i ks) ms → i < length ks → k < 1048576 → k ≡ get_or ks i 0
    → x ≡ bit_or (get_or ms (k / 32) 0) (2 ^ (k % 32))
    → Marked (take (i + 1) ks) (set ms (k / 32) x)
next_marked ks ms i k x m hi hk e d = rw (add-one, take-suc ks i 0 hi, ← e, d) (one_marked (take i ks) ms k m hk)

-- ---- counts
pub ones_bound : (x : ℕ) → x < 4294967296 → ones x ≤ 32
ones_bound x h = ones-le 32 x h

ones-cond : (t : Bool) → ones (cond t 1 0) ≡ cond t 1 0
unfolding ones ones_in
ones-cond true = refl
ones-cond false = refl

ones-more : (x b : ℕ) (t : Bool) → digit x b ≡ cond t 1 0 → ones (x % 2 ^ suc b) ≡ ones (x % 2 ^ b) + cond t 1 0
ones-more x b t e =
    let s : 1 + b ≡ suc b = omega arith in
    let p : x % 2 ^ suc b ≡ digit x b * 2 ^ b + x % 2 ^ b = rw s at (mod-pow-add x 1 b) in
    let c = ones_cat b (digit x b) (x % 2 ^ b) (mod-lt x (pow_pos b)) in
    rw (p, c, e, ones-cond t) (omega arith)

pub rank-le : (ks : List ℕ) (n : ℕ) → rank ks n ≤ n
unfolding rank
rank-le ks zero = omega arith
rank-le ks (suc n) = go (used ks n) (rank-le ks n)
  where
    go : (t : Bool) → rank ks n ≤ n → rank ks n + cond t 1 0 ≤ suc n
    go true h = omega arith
    go false h = omega arith

module _ (ks ms : List ℕ) (m : Marked ks ms) where
  in-word : (j b : ℕ) → j < word_limit → b ≤ 32 → rank ks (32 * j + b) ≡ rank ks (32 * j) + ones (get_or ms j 0 % 2 ^ b)
  unfolding rank
  in-word j zero hj hb = rw (add-zero (32 * j), mod-one (get_or ms j 0)) (omega (arith, ones-cond false))
  in-word j (suc b) hj hb =
      let s : 32 * j + suc b ≡ suc (32 * j + b) = omega arith in
      let i = in-word j b hj (omega arith) in
      let o = ones-more (get_or ms j 0) b (used ks (32 * j + b)) (m.bit j b hj hb) in
      rw (s, i, o) (omega arith)

  pub words_ranked : (j : ℕ) → j ≤ word_limit → ones_to ms j ≡ rank ks (32 * j)
  unfolding ones_to rank
  words_ranked zero h = refl
  words_ranked (suc j) h =
      let s : 32 * suc j ≡ 32 * j + 32 = omega arith in
      let i = words_ranked j (omega arith) in
      let w = rw (mod-eq_of_lt {n = get_or ms j 0} {m = 4294967296} (m.fits j)) at (in-word j 32 h (omega arith)) in
      rw (s, w, i) refl

  module _ (rs : List ℕ) (n : ℕ) (r : Ranked ms rs n) (hn : n ≤ word_limit) (k : ℕ) (hk : k < 32 * n) where
    before : get_or rs (k / 32) 0 ≡ rank ks (32 * (k / 32))
    before = r.at (k / 32) (omega arith) ∙ words_ranked (k / 32) (omega arith)

    pub number_is : number_of ms rs k ≡ rank ks k
    number_is =
        let e : 32 * (k / 32) + k % 32 ≡ k = omega arith in
        rw before (sym (in-word (k / 32) (k % 32) (omega arith) (omega arith)) ∙ ap (rank ks) e)

    pub number_small : (k < 1048576) × (k / 32 < n) × (get_or rs (k / 32) 0 ≤ 1048576)
    number_small = (omega arith, omega arith, omega (arith, before, rank-le ks (32 * (k / 32))))

-- ---- the loop that sums
pub none_ranked : (ms rs : List ℕ) → Ranked ms rs 0
none_ranked ms rs = record { at = λ j h. absurd (omega arith) }

pub one_ranked : (ms rs : List ℕ) (j t : ℕ) → Ranked ms rs j → j < length rs → t ≡ ones_to ms j
    → Ranked ms (set rs j t) (j + 1)
one_ranked ms rs j t r h e = record { at = at }
  where
    at : (i : ℕ) → i < j + 1 → get_or (set rs j t) i 0 ≡ ones_to ms i
    at i l = go (dec_eq i j)
      where
        go : Dec (i ≡ j) → get_or (set rs j t) i 0 ≡ ones_to ms i
        go (yes q) = rw (q, get_or-set_same rs j t 0 h) e
        go (no q) = get_or-set_other rs j i t 0 q ∙ r.at i (omega arith)

pub ones_next : (ms : List ℕ) (j t x : ℕ) → t ≡ ones_to ms j → x ≡ ones (get_or ms j 0) → t + x ≡ ones_to ms (j + 1)
unfolding ones_to
ones_next ms j t x e d = rw (add-one, e, d) refl

-- ---- what the functions need
pub ruleset digits = (one_shifted, below_mask, pow_pos)

pub ruleset ranks = (none_ranked, one_ranked, ones_next, ones_bound)
