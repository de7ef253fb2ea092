-- What `root_units` rounds to. Assumes nothing.
use Rattle.std.specs.Prelude.{◌≡◌, ℕ, zero, suc, ◌+◌, ◌-◌, ◌*◌, ◌/◌, ◌%◌, ◌^◌, ◌<◌, ◌≤◌, Bool, true, false, cond, not, T, ◌==◌, ◌≢◌, refl, Float}
use Rattle.std.proofs.Common.{sym, ap, ◌∙◌, subst, arith, le→leb, eqb→eq, lit<, pow-add, pow_pos, pow_mono}
use Prim.Native.Nat.{zero-le, compare, Ordering}
use native.Mathlib.Nat.{le_refl, le_trans, le_of_eq, le_of_lt, le_of_suc-le-suc, lt_of_lt_of_le, lt_of_le_of_lt, lt_irrefl, mul_comm, mul_assoc, mul_left_comm, add-mul, mul-one, one-mul, mul-le-mul_left, mul-le-mul_right, mul-lt-mul_of_pos_right, mul-pos, pow-succ', mul-div_cancel}
use Rattle.std.proofs.Math.Dec.{is_le, compare_is_eq}
use Rattle.std.proofs.Math.Arith.{digits_div, digits_mod, lt→nleb}
use Rattle.std.proofs.Math.Pow.{pow-lt}
use Rattle.std.specs.Float.{nan, inf, fin, binary64}
use Rattle.std.specs.Float.Ieee.{up, down, size, nearest, round, fits}
use Rattle.std.specs.Float.Ieee.Fits.{down_pos, round-fits}
use Rattle.std.specs.Float.Ieee.Exact.{HasValue}
use Rattle.std.specs.Float.Ieee.Nearest.{closest, closest_same, div_same}
use Rattle.std.specs.Float.Ieee.Order.{kept, drop}
use Rattle.std.specs.Float.Ieee.Scale.{grid, overflow, round_val}
use Rattle.base.specs.Split.{Scaled}
use Rattle.base.specs.UnitLaws.{size_is}
use Rattle.root.specs.Root.{floor_root, root_units, square_root}
use Rattle.root.specs.Floors.{IsRoot, floor_root-is, from, upto, sq_mul, sq_back, sq_suc, sq_twice}

-- ---- a number and a part, to the nearest whole number
below_half : (a b : ℕ) → a < b → compare a b ≡ Ordering.lt
below_half a b h = go (compare a b) (le→leb a b (le_of_lt h))
    (λ (e : T (compare_is_eq (compare a b))). lt_irrefl b (subst (λ (x : ℕ). x < b) (eqb→eq a b e) h))
  where
    go : (o : Ordering) → T (is_le o) → (T (compare_is_eq o) → ⊥) → o ≡ Ordering.lt
    go Ordering.lt l e = refl
    go Ordering.eq l e = absurd (e tt)
    go Ordering.gt l e = absurd l

above_half : (a b : ℕ) → b < a → compare a b ≡ Ordering.gt
above_half a b h = go (compare a b) (lt→nleb a b h)
  where
    go : (o : Ordering) → T (not (is_le o)) → o ≡ Ordering.gt
    go Ordering.lt l = absurd l
    go Ordering.eq l = absurd l
    go Ordering.gt l = refl

closest-down : (a s u : ℕ) → s * 2 < u → closest (a * u + s) u ≡ a
closest-down a s u h =
    let l : s < u = omega arith in
    ap (λ (x : ℕ). nearest x (compare ((a * u + s) % u * 2) u)) (digits_div a l)
    ∙ ap (λ (x : ℕ). nearest a (compare (x * 2) u)) (digits_mod a l) ∙ ap (nearest a) (below_half (s * 2) u h)

closest-up : (a s u : ℕ) → s < u → u < s * 2 → closest (a * u + s) u ≡ suc a
closest-up a s u l h =
    ap (λ (x : ℕ). nearest x (compare ((a * u + s) % u * 2) u)) (digits_div a l)
    ∙ ap (λ (x : ℕ). nearest a (compare (x * 2) u)) (digits_mod a l) ∙ ap (nearest a) (above_half (s * 2) u h)

-- ---- Half of Q / p, which lies from q to q + 1: half of q, and half more where q is odd. b stands for a part of Q.
module _ (q p Q b : ℕ) (lo : q * p ≤ Q) (hi : Q < (q + 1) * p) (B : b ≤ 1)
    (part : q % 2 ≡ 1 → 2 * (q * p) < 2 * Q + b) where
  half-even : q % 2 ≡ 0 → closest (2 * Q + b) (4 * p) ≡ q / 2 + q % 2
  half-even e =
      let a = q / 2 in
      let eq : q ≡ 2 * a = omega arith in
      let x : q * p ≡ 2 * (a * p) = ap (λ (z : ℕ). z * p) eq ∙ mul_assoc 2 a p in
      let y : (q + 1) * p ≡ q * p + p = add-mul q 1 p ∙ ap (λ (z : ℕ). q * p + z) (one-mul p) in
      let w : a * (4 * p) ≡ 4 * (a * p) = mul_left_comm a 4 p in
      let s = 2 * Q + b - 4 * (a * p) in
      let t : 2 * Q + b ≡ a * (4 * p) + s = omega arith in
      let u : s * 2 < 4 * p = omega arith in
      let z : q / 2 + q % 2 ≡ a = omega arith in
      ap (λ (v : ℕ). closest v (4 * p)) t ∙ closest-down a s (4 * p) u ∙ sym z

  half-odd : q % 2 ≡ 1 → closest (2 * Q + b) (4 * p) ≡ q / 2 + q % 2
  half-odd e =
      let a = q / 2 in
      let eq : q ≡ 2 * a + 1 = omega arith in
      let x : q * p ≡ 2 * (a * p) + p = ap (λ (z : ℕ). z * p) eq ∙ add-mul (2 * a) 1 p
      ∙ ap (λ (z : ℕ). 2 * a * p + z) (one-mul p) ∙ ap (λ (z : ℕ). z + p) (mul_assoc 2 a p) in
      let y : (q + 1) * p ≡ q * p + p = add-mul q 1 p ∙ ap (λ (z : ℕ). q * p + z) (one-mul p) in
      let w : a * (4 * p) ≡ 4 * (a * p) = mul_left_comm a 4 p in
      let s = 2 * Q + b - 4 * (a * p) in
      let g = part e in
      let t : 2 * Q + b ≡ a * (4 * p) + s = omega arith in
      let l : s < 4 * p = omega arith in
      let u : 4 * p < s * 2 = omega arith in
      let z : q / 2 + q % 2 ≡ suc a = omega arith in
      ap (λ (v : ℕ). closest v (4 * p)) t ∙ closest-up a s (4 * p) l u ∙ sym z

  pub half : closest (2 * Q + b) (4 * p) ≡ q / 2 + q % 2
  half = go (q % 2) refl
    where
      two : (r : ℕ) → q % 2 ≢ suc (suc r)
      two r h = omega arith

      go : (r : ℕ) → q % 2 ≡ r → closest (2 * Q + b) (4 * p) ≡ q / 2 + q % 2
      go zero h = half-even h
      go (suc zero) h = half-odd h
      go (suc (suc r)) h = absurd (two r h)

-- ---- no tie: the whole root of an even number is not odd and exact
odd_square : (q : ℕ) → q % 2 ≡ 1 → q * q % 2 ≡ 1
odd_square q e =
    let a = q / 2 in
    let eq : q ≡ 2 * a + 1 = omega arith in
    let s : q * q ≡ (2 * a + 1) * (2 * a + 1) = ap (λ (z : ℕ). z * z) eq in
    let x = sq_suc (2 * a) in
    let y = sq_twice a in
    omega arith

pub no_tie : (d q : ℕ) → IsRoot (d * 2 ^ 54) q → q % 2 ≡ 1 → q * q < d * 2 ^ 54
no_tie d q h e =
    let o = odd_square q e in
    let l = h.least in
    omega arith

-- ---- the digit that stands for a part
abbrev part_of : Bool → ℕ
part_of b = cond b 0 1

part-le : (b : Bool) → part_of b ≤ 1
part-le true = zero-le
part-le false = le_refl 1

some-part : (f q p Q N : ℕ) → 0 < p → N ≡ f * (p * p) → q * p ≤ Q → q * q < f → (b : Bool) → (T b → Q * Q ≡ N)
    → 2 * (q * p) < 2 * Q + part_of b
some-part f q p Q N P e lo l true h =
    let g : q * p < Q = sq_back (lt_of_le_of_lt (le_of_eq (sq_mul q p))
    (lt_of_lt_of_le (mul-lt-mul_of_pos_right l (mul-pos P P)) (le_of_eq (sym e ∙ sym (h tt))))) in
    omega arith
some-part f q p Q N P e lo l false h = omega arith

-- ---- the grid
module _ (Q b l : ℕ) (B : b ≤ 1) (L : 0 < l) where
  whole_part : (2 * Q + b) * l / (2 * l) ≡ Q
  whole_part = div_same ((2 * Q + b) * l) (2 * l) (2 * Q + b) 2 (mul-pos (lit< tt) L) (lit< tt)
      (mul_assoc (2 * Q + b) l 2 ∙ ap (λ (z : ℕ). (2 * Q + b) * z) (mul_comm l 2)) ∙ halved
    where
      halved : (2 * Q + b) / 2 ≡ Q
      halved = omega arith

  drop-is : (j : ℕ) → size Q ≡ suc (53 + j) → drop 53 ((2 * Q + b) * l) (2 * l) ≡ suc j
  drop-is j e = ap (λ (z : ℕ). size z - 53) whole_part ∙ ap (λ (z : ℕ). z - 53) e ∙ less j
    where
      less : (i : ℕ) → suc (53 + i) - 53 ≡ suc i
      less i = omega arith

  kept-is : (j : ℕ) → size Q ≡ suc (53 + j) → kept 53 ((2 * Q + b) * l) (2 * l) ≡ closest (2 * Q + b) (4 * 2 ^ j)
  kept-is j e =
      ap (λ (z : ℕ). closest ((2 * Q + b) * l) (2 * l * 2 ^ z)) (drop-is j e)
      ∙ closest_same ((2 * Q + b) * l) (2 * l * 2 ^ suc j) (2 * Q + b) (4 * 2 ^ j)
      (mul-pos (mul-pos (lit< tt) L) (pow_pos (suc j))) (mul-pos (lit< tt) (pow_pos j))
      (mul_assoc (2 * Q + b) l (4 * 2 ^ j) ∙ ap (λ (z : ℕ). (2 * Q + b) * z) same)
    where
      four : (a : ℕ) → 2 * (2 * a) ≡ 4 * a
      four a = omega arith

      same : l * (4 * 2 ^ j) ≡ 2 * l * 2 ^ suc j
      same = ap (λ (z : ℕ). l * z) (sym (four (2 ^ j))) ∙ mul_left_comm l 2 (2 * 2 ^ j)
          ∙ sym (mul_assoc 2 l (2 * 2 ^ j)) ∙ ap (λ (z : ℕ). 2 * l * z) (sym (pow-succ' 2 j))

root_units-is : (n : ℕ) → let Q = floor_root (n * 2 ^ 1074) in root_units binary64 n
    ≡ round binary64 false (2 * Q + part_of (Q * Q == n * 2 ^ 1074)) (2 * 2 ^ 1074)
unfolding root_units
root_units-is n = refl

pub half-least : (q : ℕ) → 2 ^ 53 ≤ q → 2 ^ 52 ≤ q / 2 + q % 2
half-least q h = omega arith

pub half-most : (q : ℕ) → q < 2 ^ 54 → q / 2 + q % 2 ≤ 2 ^ 53
half-most q h = omega arith

-- ---- where n * 2 ^ 1074 is d * 2 ^ 54 * 4 ^ j, and q is the whole root of d * 2 ^ 54, which has 54 digits
module _ (n d q j : ℕ) (e : n * 2 ^ 1074 ≡ d * 2 ^ 54 * (2 ^ j * 2 ^ j)) (h : IsRoot (d * 2 ^ 54) q) (ql : 2 ^ 53 ≤ q)
    (qm : q < 2 ^ 54) (J : j ≤ 1533) where
  root-grid : let Q = floor_root (n * 2 ^ 1074) in grid binary64 (2 * Q + part_of (Q * Q == n * 2 ^ 1074))
      (2 * 2 ^ 1074) ≡ (q / 2 + q % 2) * 2 ^ suc j
  root-grid =
      let N = n * 2 ^ 1074 in
      let Q = floor_root N in
      let p = 2 ^ j in
      let b = part_of (Q * Q == N) in
      let B = part-le (Q * Q == N) in
      let k : IsRoot (d * 2 ^ 54 * (p * p)) Q = subst (λ (z : ℕ). IsRoot z Q) e (floor_root-is N) in
      let lo = from (d * 2 ^ 54) q p Q (pow_pos j) h k in
      let hi = upto (d * 2 ^ 54) q p Q (pow_pos j) h k in
      let s : size Q ≡ suc (53 + j) =
      size_is (53 + j) Q (le_trans (le_of_eq (pow-add 2 53 j)) (le_trans (mul-le-mul_right p ql) lo))
      (lt_of_lt_of_le hi (le_trans (mul-le-mul_right p (next q qm))
      (le_of_eq (sym (pow-add 2 54 j) ∙ ap (λ (z : ℕ). 2 ^ z) (fifty j))))) in
      ap (λ (z : ℕ). z * 2 ^ drop 53 ((2 * Q + b) * 2 ^ 1074) (2 * 2 ^ 1074))
      (kept-is Q b (2 ^ 1074) B (pow_pos 1074) j s
      ∙ half q p Q b lo hi B (λ o. some-part (d * 2 ^ 54) q p Q N (pow_pos j) e lo (no_tie d q h o) (Q * Q == N)
      (eqb→eq (Q * Q) N)))
      ∙ ap (λ (z : ℕ). (q / 2 + q % 2) * 2 ^ z) (drop-is Q b (2 ^ 1074) B (pow_pos 1074) j s)
    where
      next : (a : ℕ) → a < 2 ^ 54 → a + 1 ≤ 2 ^ 54
      next a g = omega arith

      fifty : (i : ℕ) → 54 + i ≡ suc (53 + i)
      fifty i = omega arith

  root-under : (q / 2 + q % 2) * 2 ^ suc j < overflow binary64
  root-under = lt_of_le_of_lt (mul-le-mul_right (2 ^ suc j) (half-most q qm))
      (lt_of_le_of_lt (le_of_eq (sym (pow-add 2 53 (suc j)))) (pow-lt {i = 53 + suc j} {j = 2098} (small j J)))
    where
      small : (i : ℕ) → i ≤ 1533 → 53 + suc i < 2098
      small i g = omega arith

  pub root_value : HasValue (root_units binary64 n) false ((q / 2 + q % 2) * 2 ^ suc j) (2 ^ 1074)
  root_value =
      let N = n * 2 ^ 1074 in
      let Q = floor_root N in
      let a = 2 * Q + part_of (Q * Q == N) in
      subst (λ (v : Float). HasValue v false ((q / 2 + q % 2) * 2 ^ suc j) (2 ^ 1074)) (sym (root_units-is n))
      (subst (λ (g : ℕ). HasValue (round binary64 false a (2 * 2 ^ 1074)) false g (2 ^ 1074)) root-grid
      (round_val binary64 a (2 * 2 ^ 1074) (subst (λ (g : ℕ). g < overflow binary64) (sym root-grid) root-under)))

pub root_fits : (n : ℕ) → T (fits binary64 (root_units binary64 n))
root_fits n = subst (λ (v : Float). T (fits binary64 v)) (sym (root_units-is n))
    (round-fits binary64 false (2 * floor_root (n * 2 ^ 1074) + part_of
    (floor_root (n * 2 ^ 1074) * floor_root (n * 2 ^ 1074) == n * 2 ^ 1074)) (2 * 2 ^ 1074))

-- ---- the root of a value of n units
pub root_of_value : (x : Float) (n : ℕ) → HasValue x false n (2 ^ 1074) → 0 < n
    → square_root binary64 x ≡ root_units binary64 n
unfolding square_root
root_of_value nan n h p = absurd h
root_of_value (inf s) n h p = absurd h
root_of_value (fin s zero e) n h p = absurd
    (lt_irrefl 0 (subst (λ (z : ℕ). 0 < z)
    (sym h.1 ∙ ap (λ (z : ℕ). z * 2 ^ 1074) (native.Mathlib.Nat.zero-mul (up e))
    ∙ native.Mathlib.Nat.zero-mul (2 ^ 1074)) (mul-pos p (down_pos e))))
root_of_value (fin true (suc m) e) n h p = absurd (mathlib.Core.Bool.true≢false h.0)
root_of_value (fin false (suc m) e) n h p =
    ap (root_units binary64) (ap (λ (z : ℕ). z / down e) h.1 ∙ mul-div_cancel n (down_pos e))

-- ---- the two numbers that `Scaled` gives
pub radicand : (n sig ex : ℕ) → Scaled n sig ex
    → n * 2 ^ 1074 ≡ sig * 2 ^ (ex % 2) * 2 ^ 54 * (2 ^ (ex / 2 + 484) * 2 ^ (ex / 2 + 484))
radicand n sig ex h =
    let j = ex / 2 + 484 in
    let w : ex + 1022 ≡ ex % 2 + (54 + (j + j)) = omega arith in
    sym (mul_assoc n (2 ^ 52) (2 ^ 1022))
    ∙ ap (λ (z : ℕ). z * 2 ^ 1022) (sym h.value)
    ∙ mul_assoc sig (2 ^ ex) (2 ^ 1022)
    ∙ ap (λ (z : ℕ). sig * z) (sym (pow-add 2 ex 1022) ∙ ap (λ (z : ℕ). 2 ^ z) w ∙ pow-add 2 (ex % 2) (54 + (j + j))
    ∙ ap (λ (z : ℕ). 2 ^ (ex % 2) * z) (pow-add 2 54 (j + j) ∙ ap (λ (z : ℕ). 2 ^ 54 * z) (pow-add 2 j j)))
    ∙ sym (mul_assoc sig (2 ^ (ex % 2)) (2 ^ 54 * (2 ^ j * 2 ^ j)))
    ∙ sym (mul_assoc (sig * 2 ^ (ex % 2)) (2 ^ 54) (2 ^ j * 2 ^ j))

pub doubled-least : (n sig ex : ℕ) → Scaled n sig ex → 2 ^ 52 ≤ sig * 2 ^ (ex % 2)
doubled-least n sig ex h =
    le_trans h.least (le_trans (le_of_eq (sym (mul-one sig))) (mul-le-mul_left sig (pow_pos (ex % 2))))

pub doubled-most : (n sig ex : ℕ) → Scaled n sig ex → sig * 2 ^ (ex % 2) < 2 ^ 54
doubled-most n sig ex h = lt_of_lt_of_le (mul-lt-mul_of_pos_right h.most (pow_pos (ex % 2)))
    (mul-le-mul_left (2 ^ 53) (pow_mono {i = ex % 2} {j = 1} (bit ex)))
  where
    bit : (i : ℕ) → i % 2 ≤ 1
    bit i = omega arith

-- the whole root of d * 2 ^ 54 has 54 digits
pub digits-least : (d q : ℕ) → 2 ^ 52 ≤ d → IsRoot (d * 2 ^ 54) q → 2 ^ 53 ≤ q
digits-least d q l h = le_of_suc-le-suc (subst (λ (z : ℕ). 2 ^ 53 < z) (native.Mathlib.Numerals.add-one q)
    (sq_back (lt_of_le_of_lt (mul-le-mul_right (2 ^ 54) l) h.most)))

pub digits-most : (d q : ℕ) → d < 2 ^ 54 → IsRoot (d * 2 ^ 54) q → q < 2 ^ 54
digits-most d q m h = sq_back (lt_of_le_of_lt h.least (mul-lt-mul_of_pos_right m (pow_pos 54)))
