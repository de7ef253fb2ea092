-- The check of a guess, on plain numbers, and the root rounded from its whole part. Assumes nothing.
use Rattle.std.proofs.Common.{◌≡◌, ℕ, zero, suc, ◌+◌, ◌-◌, ◌*◌, ◌/◌, ◌%◌, ◌^◌, ◌<◌, ◌≤◌, refl, ap, ◌∙◌, subst, lt_of_le_of_lt, mod-lt, mul_assoc, mul_comm, add-mul, mul-add, mul_left_comm, arith, pow_pos}
use lib.Bits.{bit_and, bit_or, and_mask, or_shifted_r}
use Rattle.root.specs.Root.{Rounded}
use Rattle.root.specs.Floors.{IsRoot, sq_suc, sq_twice, sq_back}

-- ---- the square of a number that is cut in two
cut : (h l k : ℕ) → (h * k + l) * (h * k + l) ≡ h * h * (k * k) + 2 * (h * l) * k + l * l
cut h l k =
    let a : (h * k + l) * (h * k + l) ≡ (h * k + l) * (h * k) + (h * k + l) * l = mul-add (h * k + l) (h * k) l in
    let b : (h * k + l) * (h * k) ≡ h * k * (h * k) + l * (h * k) = add-mul (h * k) l (h * k) in
    let c : (h * k + l) * l ≡ h * k * l + l * l = add-mul (h * k) l l in
    let d : h * k * (h * k) ≡ h * h * (k * k) = simp (mul_assoc, mul_left_comm) in
    let e : l * (h * k) ≡ h * l * k = simp (mul_assoc, mul_left_comm) in
    let f : h * k * l ≡ h * l * k = simp (mul_assoc, mul_comm) in
    let g : 2 * (h * l) * k ≡ 2 * (h * l * k) = mul_assoc 2 (h * l) k in
    omega arith

pub low_half : (g : ℕ) → bit_and g 67108863 ≡ g % 67108864
low_half g = and_mask g 26

pub square_cut : (g : ℕ)
    → g * g
    ≡ g / 67108864 * (g / 67108864) * 4503599627370496 + 2 * (g / 67108864 * bit_and g 67108863) * 67108864
    + bit_and g 67108863 * bit_and g 67108863
square_cut g =
    let l = bit_and g 67108863 in
    let e : g ≡ g / 67108864 * 67108864 + l = omega (arith, low_half g) in
    ap (λ (x : ℕ). x * x) e ∙ cut (g / 67108864) l 67108864

pub parts_small : (g : ℕ) → g < 2 ^ 53 → (g / 67108864 ≤ 2 ^ 27) × (bit_and g 67108863 ≤ 2 ^ 26)
parts_small g h = (omega arith, omega (arith, low_half g))

pub sq_two : (g : ℕ) → (g + 2) * (g + 2) ≡ g * g + (4 * g + 4)
sq_two g =
    let a : (g + 2) * (g + 2) ≡ (g + 1 + 1) * (g + 1 + 1) = ap (λ (x : ℕ). x * x) e in
    let b = sq_suc (g + 1) in
    let c = sq_suc g in
    omega arith
  where
    e : g + 2 ≡ g + 1 + 1
    e = omega arith

-- ---- patterns
pub guessed : (n : ℕ) → bit_or (bit_and n 4503599627370495) 4503599627370496 ≡ 4503599627370496 + n % 4503599627370496
guessed n =
    ap (λ (x : ℕ). bit_or x 4503599627370496) (and_mask n 52)
    ∙ or_shifted_r 1 52 (n % 4503599627370496) (mod-lt n (pow_pos 52))

-- ---- from the whole root of d * 2 ^ 54 to the root of d * 2 ^ 52, rounded
pub rounded_of : (d q : ℕ) → 2 ^ 52 ≤ d → IsRoot (d * 2 ^ 54) q → Rounded d (q / 2 + q % 2)
rounded_of d q D h = go (q % 2) refl
  where
    two : (r : ℕ) → q % 2 ≡ suc (suc r) → ⊥
    two r e = omega arith

    go : (r : ℕ) → q % 2 ≡ r → Rounded d (q / 2 + q % 2)
    go zero e =
        let a = q / 2 in
        let x : q * q ≡ 2 * a * (2 * a) = ap (λ (z : ℕ). z * z) (omega arith) in
        let y : (q + 1) * (q + 1) ≡ q * q + (2 * q + 1) = sq_suc q in
        let z = sq_twice a in
        let l = h.least in
        let m = h.most in
        let k : a ≡ q / 2 + q % 2 = omega arith in
        subst (Rounded d) k (record { above = positive a x z l m y; below = omega arith })
      where
        positive : (a : ℕ) → q * q ≡ 2 * a * (2 * a) → 2 * a * (2 * a) ≡ 4 * (a * a) → q * q ≤ d * 2 ^ 54
            → d * 2 ^ 54 < (q + 1) * (q + 1) → (q + 1) * (q + 1) ≡ q * q + (2 * q + 1) → a * a < d * 2 ^ 52 + a
        positive zero x z l m y = omega arith
        positive (suc a) x z l m y = omega arith
    go (suc zero) e =
        let a = q / 2 in
        let x : q * q ≡ (2 * a + 1) * (2 * a + 1) = ap (λ (z : ℕ). z * z) (omega arith) in
        let y : (q + 1) * (q + 1) ≡ q * q + (2 * q + 1) = sq_suc q in
        let z = sq_twice a in
        let w = sq_suc (2 * a) in
        let v = sq_suc a in
        let l = h.least in
        let m = h.most in
        let k : a + 1 ≡ q / 2 + q % 2 = omega arith in
        subst (Rounded d) k (record { above = omega arith; below = omega arith })
    go (suc (suc r)) e = absurd (two r e)

-- and back: there is one such number
pub rounded-is : (d a q : ℕ) → Rounded d a → IsRoot (d * 2 ^ 54) q → a ≡ q / 2 + q % 2
rounded-is d a q r h =
    let x = r.above in
    let y = r.below in
    let up : q < 2 * a + 1 = sq_back (lt_of_le_of_lt h.least (upper y)) in
    let dn : 2 * a ≤ q + 1 = below_by a x in
    last up dn
  where
    upper : d * 2 ^ 52 ≤ a * a + a → d * 2 ^ 54 < (2 * a + 1) * (2 * a + 1)
    upper y = let e = sq_suc (2 * a) in let f = sq_twice a in omega arith

    below_by : (b : ℕ) → b * b < d * 2 ^ 52 + b → 2 * b ≤ q + 1
    below_by zero x = omega arith
    below_by (suc b) x =
        let k = 2 * b + 1 in
        let e : (k + 1) * (k + 1) ≡ 2 * suc b * (2 * suc b) = ap (λ (z : ℕ). z * z) (omega arith) in
        let f = sq_suc k in
        let g = sq_twice (suc b) in
        let s : k * k < (q + 1) * (q + 1) = lt_of_le_of_lt (omega arith) h.most in
        let t : k < q + 1 = sq_back s in
        omega arith

    last : q < 2 * a + 1 → 2 * a ≤ q + 1 → a ≡ q / 2 + q % 2
    last u v = omega arith

-- ---- the check. The guess g is cut in two; a is what the square of the upper part leaves of d, b what twice the product
-- of the parts leaves of that, and u what the square of the lower part leaves of b and g - 1, each in its own units
module _ (d g a b u : ℕ) (some : 0 < g)
    (upper : (g / 67108864 * (g / 67108864) ≤ d) × (a ≡ d - g / 67108864 * (g / 67108864)))
    (crossed : (2 * (g / 67108864 * bit_and g 67108863) ≤ a * 67108864) × (b ≡ a * 67108864 - 2 * (g / 67108864 * bit_and g 67108863)))
    (lower : (bit_and g 67108863 * bit_and g 67108863 ≤ b * 67108864 + (g - 1)) × (u ≡ b * 67108864 + (g - 1) - bit_and g 67108863 * bit_and g 67108863)) where
  residue : u + g * g + 1 ≡ d * 4503599627370496 + g
  residue =
      left_over (g / 67108864 * (g / 67108864)) (g / 67108864 * bit_and g 67108863) (bit_and g 67108863 * bit_and g 67108863)
      (square_cut g) upper.0 upper.1 crossed.0 crossed.1 lower.0 lower.1
    where
      left_over : (hh x ll : ℕ) → g * g ≡ hh * 4503599627370496 + 2 * x * 67108864 + ll → hh ≤ d → a ≡ d - hh
          → 2 * x ≤ a * 67108864 → b ≡ a * 67108864 - 2 * x → ll ≤ b * 67108864 + (g - 1)
          → u ≡ b * 67108864 + (g - 1) - ll
          → u + g * g + 1 ≡ d * 4503599627370496 + g
      left_over hh x ll sq A A' B B' C C' = omega (arith, some)

  pub at_g : u < 2 * g → Rounded d g
  at_g h = let r = residue in record { above = omega arith; below = omega arith }

  pub at_next : 2 * g ≤ u → u - 2 * g < 2 * g + 2 → Rounded d (g + 1)
  at_next l h = let r = residue in let e = sq_suc g in record { above = omega arith; below = omega arith }

  pub at_third : 2 * g ≤ u → 2 * g + 2 ≤ u - 2 * g → u - 2 * g < 2 * (2 * g) + 6 → Rounded d (g + 2)
  at_third l m h = let r = residue in let e = sq_two g in record { above = omega arith; below = omega arith }
