-- One digit of the digit-by-digit square root, on plain numbers. Assumes nothing.
use Rattle.std.proofs.Common.{◌≡◌, ℕ, ◌+◌, ◌-◌, ◌*◌, ◌/◌, ◌%◌, ◌^◌, ◌<◌, ◌≤◌, sym, ap, ◌∙◌, lt_of_lt_of_le, mul_assoc, mul_comm, add-mul, one-mul, pow-suc, mul-one, mul-add, mul_left_comm, add-one, arith, pow_mono}
use Rattle.root.specs.Root.{Floor}

-- after i digits of d * 2 ^ 10, a number of 64 digits that is followed by zeros: the whole root so far, the rest, and
-- the digits still to be brought down
pub record Turn (d left root rest i : ℕ) : Type 0 where
  pub within : left < 2 ^ 64
  pub small : rest ≤ 2 * root
  pub short : root < 2 ^ i
  pub turns : i ≤ 54
  pub sum : (root * root + rest) * 2 ^ 64 + left ≡ d * 2 ^ 10 * 4 ^ i

square_even : (q : ℕ) → q * 2 * (q * 2) ≡ 4 * (q * q)
square_even q = let a : q * 2 * (q * 2) ≡ 2 * (2 * (q * q)) = simp (mul_assoc, mul_comm, mul_left_comm) in omega arith

square_odd : (q : ℕ) → (q * 2 + 1) * (q * 2 + 1) ≡ 4 * (q * q) + (4 * q + 1)
square_odd q =
    let a : (q * 2 + 1) * (q * 2 + 1) ≡ q * 2 * (q * 2) + q * 2 + (q * 2 + 1)
    = mul-add (q * 2 + 1) (q * 2) 1
    ∙ ap (λ (x : ℕ). x + (q * 2 + 1) * 1)
    (add-mul (q * 2) 1 (q * 2) ∙ ap (λ (x : ℕ). q * 2 * (q * 2) + x) (one-mul (q * 2)))
    ∙ ap (λ (x : ℕ). q * 2 * (q * 2) + q * 2 + x) (mul-one (q * 2 + 1)) in
    let b : q * 2 * (q * 2) ≡ 4 * (q * q) = square_even q in
    omega arith

-- a turn multiplies by four what is worked on
fourfold : (v i : ℕ) → v * 4 ^ (i + 1) ≡ 4 * (v * 4 ^ i)
fourfold v i =
    ap (λ (x : ℕ). v * 4 ^ x) (add-one i) ∙ ap (λ (x : ℕ). v * x) (pow-suc 4 i) ∙ sym (mul_assoc v (4 ^ i) 4)
    ∙ mul_comm (v * 4 ^ i) 4

doubled : (i : ℕ) → 2 ^ (i + 1) ≡ 2 * 2 ^ i
doubled i = ap (λ (x : ℕ). 2 ^ x) (add-one i) ∙ pow-suc 2 i ∙ mul_comm (2 ^ i) 2

brought_down : (Q r l v w' : ℕ) → (Q + r) * 2 ^ 64 + l ≡ v → w' ≡ 4 * v → l < 2 ^ 64
    → (4 * Q + (r * 4 + l / 2 ^ 62)) * 2 ^ 64 + l * 2 ^ 2 % 2 ^ 64 ≡ w'
brought_down Q r l v w' e w h = omega arith

pub root_small : {d left root rest i : ℕ} → Turn d left root rest i → root < 2 ^ 54
root_small t = lt_of_lt_of_le t.short (pow_mono t.turns)

module _ {d left root rest i : ℕ} (t : Turn d left root rest i) (more : i < 54) where
  next-sum : (4 * (root * root) + (rest * 4 + left / 2 ^ 62)) * 2 ^ 64 + left * 2 ^ 2 % 2 ^ 64
      ≡ d * 2 ^ 10 * 4 ^ (i + 1)
  next-sum =
      brought_down (root * root) rest left (d * 2 ^ 10 * 4 ^ i) (d * 2 ^ 10 * 4 ^ (i + 1)) t.sum
      (fourfold (d * 2 ^ 10) i) t.within

  pub next_one : root * 4 + 1 ≤ rest * 4 + left / 2 ^ 62
      → Turn d (left * 2 ^ 2 % 2 ^ 64) (root * 2 + 1) (rest * 4 + left / 2 ^ 62 - (root * 4 + 1)) (i + 1)
  next_one h =
      let s = next-sum in
      let o = square_odd root in
      let w : root < 2 ^ i = t.short in
      let k = doubled i in
      record {
        within = omega arith;
        small = omega (arith, t.small, t.within);
        short = omega arith;
        turns = omega arith;
        sum = omega arith;
      }

  pub next-zero : rest * 4 + left / 2 ^ 62 < root * 4 + 1
      → Turn d (left * 2 ^ 2 % 2 ^ 64) (root * 2) (rest * 4 + left / 2 ^ 62) (i + 1)
  next-zero h =
      let s = next-sum in
      let o = square_even root in
      let w : root < 2 ^ i = t.short in
      let k = doubled i in
      record {
        within = omega arith;
        small = omega (arith, t.small, t.within);
        short = omega arith;
        turns = omega arith;
        sum = omega arith;
      }

pub first_turn : (d : ℕ) → d < 2 ^ 54 → Turn d (d * 2 ^ 10 % 2 ^ 64) 0 0 0
first_turn d h =
    record { within = omega arith; small = omega arith; short = omega arith; turns = omega arith; sum = omega arith }

pub last_turn : {d left root rest : ℕ} → Turn d left root rest 54 → Floor (d * 2 ^ 54) root rest
last_turn {d} {left} {root} {rest} t =
    let s : (root * root + rest) * 2 ^ 64 + left ≡ d * 2 ^ 10 * 4 ^ 54 = t.sum in
    let w = t.within in
    record { sum = omega arith; small = t.small }
