-- The whole root of a natural number: `floor_root` is it, there is one, and how it goes with a factor that is a square.
-- Assumes nothing.
use Rattle.std.specs.Prelude.{◌≡◌, ℕ, zero, suc, ◌+◌, ◌*◌, ◌/◌, ◌^◌, ◌<◌, ◌≤◌, Bool, true, false, cond, not, T, nat_le}
use Rattle.std.proofs.Common.{sym, ap, ◌∙◌, subst, zero-le, le_trans, le_of_eq, le_of_lt, lt_of_lt_of_le, lt_of_le_of_lt, lt_of_not-le, not-le_of_lt, mul_assoc, mul_left_comm, mul-add, add-mul, mul-one, one-mul, mul-le-mul, mul-le-mul_left, mul-le-mul_right, mul-lt-mul_of_pos_right, mul-pos, pow-suc, arith, leb→le, lit≤}
use Rattle.std.proofs.Math.Nat.{pow-le-pow_left}
use Rattle.std.proofs.Math.Dec.{nleb→lt}
use Rattle.std.specs.Float.Ieee.{size}
use Rattle.std.specs.Float.Ieee.Digits.{size-lt}
use Rattle.root.specs.Root.{root_in, floor_root, Floor}

-- ---- squares
pub sq_suc : (q : ℕ) → (q + 1) * (q + 1) ≡ q * q + (2 * q + 1)
sq_suc q =
    let a : (q + 1) * (q + 1) ≡ q * q + q + (q + 1) = mul-add (q + 1) q 1
    ∙ ap (λ (x : ℕ). x + (q + 1) * 1) (add-mul q 1 q ∙ ap (λ (x : ℕ). q * q + x) (one-mul q))
    ∙ ap (λ (x : ℕ). q * q + q + x) (mul-one (q + 1)) in
    omega arith

pub sq_twice : (q : ℕ) → 2 * q * (2 * q) ≡ 4 * (q * q)
sq_twice q = let a : 2 * q * (2 * q) ≡ 2 * (2 * (q * q)) = simp (mul_assoc, mul_left_comm) in omega arith

pub sq_mul : (a b : ℕ) → a * b * (a * b) ≡ a * a * (b * b)
sq_mul a b = simp (mul_assoc, mul_left_comm)

pub sq_lt : {a b : ℕ} → a < b → a * a < b * b
sq_lt {a} {b} h = lt_of_le_of_lt (mul-le-mul_left a (le_of_lt h)) (mul-lt-mul_of_pos_right h (lt_of_le_of_lt zero-le h))

pub sq_back : {a b : ℕ} → a * a < b * b → a < b
sq_back {a} {b} h = lt_of_not-le (λ (g : b ≤ a). not-le_of_lt h (mul-le-mul g g))

-- ---- the whole root
pub record IsRoot (n q : ℕ) : Type 0 where
  pub least : q * q ≤ n
  pub most : n < (q + 1) * (q + 1)

pub of_floor : {n q r : ℕ} → Floor n q r → IsRoot n q
of_floor {n} {q} {r} h =
    let s = h.sum in
    let m = h.small in
    let e = sq_suc q in
    record { least = omega arith; most = omega arith }

up_to : (a b : ℕ) → a < b + 1 → a ≤ b
up_to a b h = omega arith

next-digit : (n s : ℕ) → IsRoot (n / 4) s → (b : Bool) → (T b → (2 * s + 1) * (2 * s + 1) ≤ n)
    → (T (not b) → n < (2 * s + 1) * (2 * s + 1)) → IsRoot n (cond b (2 * s + 1) (2 * s))
next-digit n s ih true h k =
    let l = ih.least in
    let m = ih.most in
    let e = sq_suc s in
    let f = sq_twice s in
    let g = sq_suc (2 * s) in
    let g2 = sq_suc (2 * s + 1) in
    record { least = h tt; most = omega arith }
next-digit n s ih false h k =
    let l = ih.least in
    let f = sq_twice s in
    record { least = omega arith; most = k tt }

quarter : (n p : ℕ) → n < p * 4 → n / 4 < p
quarter n p h = omega arith

none : (n : ℕ) → n < 1 → IsRoot n 0
none n h = record { least = zero-le; most = h }

pub root_in-is : (d n : ℕ) → n < 4 ^ d → IsRoot n (root_in d n)
unfolding root_in
root_in-is zero n h = none n h
root_in-is (suc d) n h =
    let s = root_in d (n / 4) in
    next-digit n s (root_in-is d (n / 4) (quarter n (4 ^ d) (subst (λ (x : ℕ). n < x) (pow-suc 4 d) h)))
    (nat_le ((2 * s + 1) * (2 * s + 1)) n) (leb→le ((2 * s + 1) * (2 * s + 1)) n)
    (nleb→lt ((2 * s + 1) * (2 * s + 1)) n)

pub floor_root-is : (n : ℕ) → IsRoot n (floor_root n)
unfolding floor_root
floor_root-is n = root_in-is (size n) n (lt_of_lt_of_le (size-lt n) (pow-le-pow_left (lit≤ tt) (size n)))

-- ---- with a factor that is the square of p: the root of f * p * p lies from q * p up to (q + 1) * p
module _ (f q p Q : ℕ) (P : 0 < p) (h : IsRoot f q) (k : IsRoot (f * (p * p)) Q) where
  pub from : q * p ≤ Q
  from = up_to (q * p) Q (sq_back (lt_of_le_of_lt
      (le_trans (le_of_eq (sq_mul q p)) (mul-le-mul_right (p * p) h.least)) k.most))

  pub upto : Q < (q + 1) * p
  upto = sq_back (lt_of_le_of_lt k.least
      (lt_of_lt_of_le (mul-lt-mul_of_pos_right h.most (mul-pos P P)) (le_of_eq (sym (sq_mul (q + 1) p)))))
