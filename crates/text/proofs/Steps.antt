-- One step of a token at a position: what `rest` is there, and what the token's definition makes of it.
-- Assumes nothing.
use mathlib.Core.Path.{◌≡◌, refl, sym, ap}
use mathlib.Core.List.{List, [], ◌∷◌}
use mathlib.Core.Bool.{Bool, true, false, ◌&&◌, and-false, and-eq-true_iff}
use Prim.Native.Nat.{ℕ, zero, suc, ◌+◌, ◌-◌, ◌*◌, ◌^◌, ◌<◌, ◌≤◌}
use native.Mathlib.Nat.{add-zero, pow-suc, pow-le-pow_right, lt_of_lt_of_le}
use native.Mathlib.Numerals.{add-one}
use native.Mathlib.Decide.{dec_lt}
use native.Mathlib.Omega.{arith}
use lib.ListN.{length, drop, take, get_or}
use lib.Seq.{drop-cons, drop-length}
use Rattle.std.proofs.Common.{length-take, length-drop, take_all, drop-drop, false, nat_eq, ◌∙◌}
use Rattle.std.specs.List.{starts_with}
use Rattle.std.proofs.lemmas.Bool.Decides.{Decides-eqb}
use Rattle.std.proofs.lemmas.Bool.{false≢true}
use Rattle.std.proofs.lemmas.Slice.Eq.{starts_is}
use Rattle.text.specs.Text.{strip}
use Rattle.text.specs.Tokens.{literal-back, literal_inv}
use Rattle.std.proofs.lemmas.List.{get_or-take, get_or-drop}
use lib.Dec.{lit<, ltb, eqb}
use borrow.Author.Tests.{le-leb, lt-leb, ne_eqb, lt-ltb, le-ltb, ltb-true}
use Rattle.text.specs.Text.{Text, lost, left, rest, literal, keep_if, digit, pattern_from, decimal_from, decimal, missing, Got}
use Rattle.text.specs.TextLaws.{rest_in, rest-past, rest_end, rest_cons, rest-next, rest-none, hexes}

-- the literal stands at the head of a text where the text begins with its bytes
pub begun : (p l : List ℕ) → true ≡ starts_with nat_eq l p → strip p l ≡ left (drop (length p) l)
begun p l e =
    ap (strip p) ((starts_is Decides-eqb l p true e).0 refl) ∙ literal-back p (drop (length p) l)

pub not_begun : (p l : List ℕ) → false ≡ starts_with nat_eq l p → strip p l ≡ lost
not_begun p l e = go (strip p l) refl
  where
    go : (t : Text) → strip p l ≡ t → t ≡ lost
    go lost h = refl
    go (left r) h = absurd (false≢true ((starts_is Decides-eqb l p false e).1 r (literal_inv p l r h)))

pub part_is : (s : List ℕ) (at : ℕ) → take (length s - at) (drop at s) ≡ drop at s
part_is s at = take_all (length s - at) (drop at s) (omega (arith, length-drop at s))

-- where it stands, the text after it is left
pub literal-there : (p s : List ℕ) (at : ℕ) → at ≤ length s → length p ≤ length (take (length s - at) (drop at s))
    → true ≡ starts_with nat_eq (take (length s - at) (drop at s)) p
    → rest s (at + length p) ≡ literal p (rest s at)
literal-there p s at h b e =
    let k : at + length p ≤ length s = omega (arith, ap length (part_is s at), length-drop at s) in
    rw (rest_in s at h, rest_in s (at + length p) k, begun p (drop at s) (rw part_is at e))
    (ap left (sym (drop-drop (length p) at s)))

-- two tests are one after the other, and no bytes stand before every text
pub keep-both : (a b : Bool) (t : Text) → keep_if (a && b) t ≡ keep_if a (keep_if b t)
keep-both true b t = refl
keep-both false b t = refl

pub literal_all : (t : Text) → literal [] t ≡ t
literal_all lost = refl
literal_all (left l) = refl

-- where a token is not there, what comes back is one past the end, with 0
pub missed : (s : List ℕ) {g : Got ℕ} → missing ≡ g → record { val = 0; text = rest s (length s + 1) } ≡ g
missed s e = rw (rest-past s) e

-- a digit more
pub pattern_room : (i : ℕ) {v d : ℕ} → v < 16 ^ i → d < 16 → v * 16 + d < 16 ^ (i + 1)
pattern_room i {v} {d} hv hd = rw (add-one i, pow-suc) (let h : v * 16 + 16 ≤ 16 ^ i * 16 = omega arith in omega arith)

pub pattern_word : (i : ℕ) {v : ℕ} → i ≤ 16 → v < 16 ^ i → v < 2 ^ 64
pattern_word i hi hv = lt_of_lt_of_le hv (pow-le-pow_right (lit< tt) hi)

-- the digits from position at + i on: one of them, and those after it
module _ (s : List ℕ) (at i : ℕ) (hi : i < 16) (hk : at + i < length s) where
  more : 16 - i ≡ suc (16 - (i + 1))
  more = omega arith

  next : at + (i + 1) ≡ at + i + 1
  next = omega arith

  pub hexes-turn : hexes (16 - i) (rest s (at + i))
      ≡ ltb (digit (get_or s (at + i) 0)) 16 && hexes (16 - (i + 1)) (rest s (at + (i + 1)))
  unfolding hexes
  hexes-turn = rw (more, rest_cons s (at + i) hk, next, rest-next s (at + i) hk) refl

  -- where digits stand, the first is one, and the others are
  pub hexes_first : hexes (16 - i) (rest s (at + i)) ≡ true
      → (digit (get_or s (at + i) 0) < 16) × (hexes (16 - (i + 1)) (rest s (at + (i + 1))) ≡ true)
  hexes_first h =
      let g = (and-eq-true_iff (ltb (digit (get_or s (at + i) 0)) 16) (hexes (16 - (i + 1)) (rest s (at + (i + 1))))).0
      (sym hexes-turn ∙ h) in
      (ltb-true (digit (get_or s (at + i) 0)) 16 g.0, g.1)

  pub pattern-turn : (v : ℕ) → digit (get_or s (at + i) 0) < 16
      → pattern_from (16 - i) v (rest s (at + i))
      ≡ pattern_from (16 - (i + 1)) (v * 16 + digit (get_or s (at + i) 0)) (rest s (at + (i + 1)))
  unfolding pattern_from
  pattern-turn v h = rw (more, rest_cons s (at + i) hk, next, rest-next s (at + i) hk, lt-ltb _ _ h) refl

-- fewer bytes than digits
pub hexes-few : (s : List ℕ) (k at : ℕ) → length s < at + suc k → hexes (suc k) (rest s at) ≡ false
unfolding hexes
hexes-few s zero at h = rest-none (λ t. hexes 1 t ≡ false) s at (omega arith) refl refl
hexes-few s (suc j) at h = go (dec_lt at (length s)) (hexes-few s j (at + 1) (omega arith))
  where
    go : Dec (at < length s) → hexes (suc j) (rest s (at + 1)) ≡ false → hexes (suc (suc j)) (rest s at) ≡ false
    go (no n) ih = rest-none (λ t. hexes (suc (suc j)) t ≡ false) s at (omega arith) refl refl
    go (yes l) ih =
        let e : hexes (suc j) (left (drop (suc at) s)) ≡ false = ap (hexes (suc j)) (sym (rest-next s at l)) ∙ ih in
        rw (rest_cons s at l, e) (and-false (ltb (digit (get_or s at 0)) 16))

-- where sixteen digits stand there are as many bytes
pub sixteen : (s : List ℕ) (at : ℕ) → hexes 16 (rest s at) ≡ true → at + 16 ≤ length s
sixteen s at h = go (dec_lt (length s) (at + 16))
  where
    go : Dec (length s < at + 16) → at + 16 ≤ length s
    go (yes l) = absurd (false≢true (sym (hexes-few s 15 at l) ∙ h))
    go (no n) = omega arith

pub pattern-done : (v : ℕ) (t : Text) → pattern_from 0 v t ≡ record { val = v; text = t }
unfolding pattern_from
pattern-done v t = refl

pub hexes-done : (t : Text) → hexes 0 t ≡ true
unfolding hexes
hexes-done t = refl

-- where the digits stand, the text after them is left
pub pattern-after : (s : List ℕ) (k at v : ℕ) → at + k ≤ length s → hexes k (rest s at) ≡ true
    → (pattern_from k v (rest s at)).text ≡ rest s (at + k)
unfolding hexes pattern_from
pattern-after s zero at v h g = rw add-zero refl
pattern-after s (suc k) at v h g =
    let hk : at < length s = omega arith in
    let b = get_or s at 0 in
    let e : rest s at ≡ left (b ∷ drop (suc at) s) = rest_cons s at hk in
    let both = (and-eq-true_iff (ltb (digit b) 16) (hexes k (left (drop (suc at) s)))).0 (rw e at g) in
    let n : rest s (at + 1) ≡ left (drop (suc at) s) = rest-next s at hk in
    let m : at + suc k ≡ at + 1 + k = omega arith in
    let ih = pattern-after s k (at + 1) (v * 16 + digit b) (omega arith) (ap (hexes k) n ∙ both.1) in
    rw (e, both.0, m, sym n) ih

module _ (s : List ℕ) (most k v : ℕ) (hk : k < length s) where
  decimal-cons : decimal_from most v (drop k s) ≡ decimal_from most v (get_or s k 0 ∷ drop (suc k) s)
  decimal-cons = ap (decimal_from most v) (drop-cons s k 0 hk)

  pub decimal-same : digit (get_or s k 0) < 10 → v * 10 + digit (get_or s k 0) ≤ most
      → decimal_from most v (drop k s) ≡ decimal_from most (v * 10 + digit (get_or s k 0)) (drop (k + 1) s)
  decimal-same h m = decimal-cons ∙ rw (add-one k, lt-ltb _ _ h, le-leb _ _ m)

  pub decimal-past : digit (get_or s k 0) < 10 → most < v * 10 + digit (get_or s k 0)
      → decimal_from most v (drop k s) ≡ missing
  decimal-past h m = decimal-cons ∙ rw (lt-ltb _ _ h, lt-leb _ _ m)

  pub decimal-other : 10 ≤ digit (get_or s k 0) → decimal_from most v (drop k s) ≡ record { val = v; text = rest s k }
  decimal-other h = decimal-cons ∙ rw (rest_cons s k hk, le-ltb _ _ h)

pub decimal_end : (s : List ℕ) (most k v : ℕ) → k ≡ length s
    → decimal_from most v (drop k s) ≡ record { val = v; text = rest s k }
decimal_end s most k v e = rw (e, drop-length, rest_end)

-- the first digit
module _ (s : List ℕ) (most k : ℕ) where
  pub decimal-none : length s ≤ k → decimal most (rest s k) ≡ missing
  unfolding decimal
  decimal-none h = rest-none (λ t. decimal most t ≡ missing) s k h refl refl

  pub decimal-not : k < length s → 10 ≤ digit (get_or s k 0) → decimal most (rest s k) ≡ missing
  unfolding decimal
  decimal-not hk h = rw (rest_cons s k hk, le-ltb _ _ h)

  pub decimal-zero : k < length s → digit (get_or s k 0) ≡ 0
      → decimal most (rest s k) ≡ record { val = 0; text = rest s (k + 1) }
  unfolding decimal
  decimal-zero hk h = rw (rest_cons s k hk, rest-next s k hk, h)

  pub decimal_first : k < length s → digit (get_or s k 0) < 10 → (digit (get_or s k 0) ≡ 0 → ⊥)
      → decimal most (rest s k) ≡ decimal_from most (digit (get_or s k 0)) (drop (k + 1) s)
  unfolding decimal
  decimal_first hk h z = rw (rest_cons s k hk, lt-ltb _ _ h, ne_eqb _ _ z, add-one k)

-- the sixteen bytes from `at` on
module _ (s : List ℕ) (at : ℕ) (room : at + 16 ≤ length s) where
  pub length-sixteen : length (take (at + 16 - at) (drop at s)) ≡ 16
  length-sixteen = grind (arith, length-take, length-drop)

  pub byte-of_sixteen : (i : ℕ) → i < 16 → get_or (take (at + 16 - at) (drop at s)) i 0 ≡ get_or s (at + i) 0
  byte-of_sixteen i h =
      let k : i < at + 16 - at = omega arith in get_or-take (at + 16 - at) (drop at s) i 0 k ∙ get_or-drop at s i 0
