-- The last line of `root`, on plain values: the pattern that it makes is that of the square root. Assumes nothing.
use Rattle.std.proofs.Common.{◌≡◌, ℕ, suc, ◌+◌, ◌*◌, ◌/◌, ◌%◌, ◌^◌, ◌<◌, ◌≤◌, false, T, sym, ap, ◌∙◌, subst, inl, inr, le_trans, le_of_eq, lt_of_lt_of_le, le_of_suc-le-suc, le_of_lt, lt_irrefl, mod-eq_of_lt, eq-zero-or-pos, mul-le-mul_left, mul-lt-mul_of_pos_right, mul-pos, mul-one, arith, lit<, pow_pos, pow_mono}
use lib.Bits.{bit_and, and_mask}
use lib.Ieee.{Float, binary64, of_bits, to_bits, fits}
use lib.Ieee.Bits.{of_bits-to_bits}
use lib.Ieee.Exact.{HasValue}
use Rattle.base.specs.Split.{Scaled, units_at}
use Rattle.base.specs.UnitLaws.{value_bits, own-units}
use Rattle.root.specs.Root.{square_root, root_units, floor_root, Rounded}
use Rattle.root.specs.Floors.{IsRoot, floor_root-is}
use Rattle.root.proofs.Confirms.{rounded-is}
use Rattle.root.specs.Rounds.{root_value, root_fits, root_of_value, radicand, doubled-least, doubled-most, digits-least, digits-most, half-least, half-most}

pub low_bit : (n : ℕ) → bit_and n 1 ≡ n % 2
low_bit n = and_mask n 1

-- `sig << odd`
pub shifted : (sig odd : ℕ) → 2 ^ 52 ≤ sig → sig < 2 ^ 53 → odd < 2
    → (2 ^ 52 ≤ sig * 2 ^ odd) × (sig * 2 ^ odd < 2 ^ 54) × (sig * 2 ^ odd % 2 ^ 64 ≡ sig * 2 ^ odd)
shifted sig odd l m o =
    let u : sig * 2 ^ odd < 2 ^ 54
    = lt_of_lt_of_le (mul-lt-mul_of_pos_right m (pow_pos odd))
    (mul-le-mul_left (2 ^ 53) (pow_mono {i = odd} {j = 1} (le_of_suc-le-suc o))) in (
      le_trans l (le_trans (le_of_eq (sym (mul-one sig))) (mul-le-mul_left sig (pow_pos odd))),
      u,
      mod-eq_of_lt (lt_of_lt_of_le u (pow_mono {i = 54} {j = 64} (le_of_lt (lit< tt)))),
    )

module _ (n sig ex a : ℕ) (s : Scaled n sig ex) (r : Rounded (sig * 2 ^ (ex % 2)) a) where
  q : ℕ
  q = floor_root (sig * 2 ^ (ex % 2) * 2 ^ 54)

  is-root : IsRoot (sig * 2 ^ (ex % 2) * 2 ^ 54) q
  unfolding q
  is-root = floor_root-is (sig * 2 ^ (ex % 2) * 2 ^ 54)

  root_least : 2 ^ 53 ≤ q
  root_least = digits-least (sig * 2 ^ (ex % 2)) q (doubled-least n sig ex s) is-root

  root_most : q < 2 ^ 54
  root_most = digits-most (sig * 2 ^ (ex % 2)) q (doubled-most n sig ex s) is-root

  halved : a ≡ q / 2 + q % 2
  halved = rounded-is (sig * 2 ^ (ex % 2)) a q r is-root

  pub least : 2 ^ 52 ≤ a
  least = subst (λ (x : ℕ). 2 ^ 52 ≤ x) (sym halved) (half-least q root_least)

  pub most : a ≤ 2 ^ 53
  most = subst (λ (x : ℕ). x ≤ 2 ^ 53) (sym halved) (half-most q root_most)

  has_value : HasValue (root_units binary64 n) false (a * 2 ^ suc (ex / 2 + 484)) (2 ^ 1074)
  has_value =
      subst (λ (x : ℕ). HasValue (root_units binary64 n) false (x * 2 ^ suc (ex / 2 + 484)) (2 ^ 1074)) (sym halved)
      (root_value n (sig * 2 ^ (ex % 2)) q (ex / 2 + 484) (radicand n sig ex s) is-root root_least root_most
      (few s.top))
    where
      few : ex ≤ 2097 → ex / 2 + 484 ≤ 1533
      few h = omega arith

  pub made : of_bits binary64 ((ex / 2 + 485) * 2 ^ 52 % 2 ^ 64 + a) ≡ root_units binary64 n
  made =
      ap (λ (x : ℕ). of_bits binary64 (x + a)) (place s.top)
      ∙ ap (of_bits binary64) (sym (value_bits (root_units binary64 n) a (suc (ex / 2 + 484)) has_value least most))
      ∙ of_bits-to_bits binary64 (root_units binary64 n) (root_fits n)
    where
      place : ex ≤ 2097 → (ex / 2 + 485) * 2 ^ 52 % 2 ^ 64 ≡ suc (ex / 2 + 484) * 2 ^ 52
      place h = omega arith

-- a significand's number of units is not 0
some-units : (n sig ex : ℕ) → Scaled n sig ex → 0 < n
some-units n sig ex s = elim (eq-zero-or-pos n) [
  | inl e ↦ absurd
      (lt_irrefl 0
      (lt_of_lt_of_le (mul-pos (lt_of_lt_of_le (pow_pos 52) s.least) (pow_pos ex))
      (le_of_eq (s.value ∙ ap (λ (z : ℕ). z * 2 ^ 52) e))))
  | inr h ↦ h
]

-- the root of x, from the parts of x's pattern b
pub root_made : (x : Float) (b sig ex a : ℕ) → T (fits binary64 x) → b ≡ to_bits binary64 x → b < 9218868437227405312
    → Scaled (units_at b) sig ex → Rounded (sig * 2 ^ (ex % 2)) a
    → of_bits binary64 ((ex / 2 + 485) * 2 ^ 52 % 2 ^ 64 + a) ≡ square_root binary64 x
root_made x b sig ex a f e h s r =
    let v : HasValue x false (units_at b) (2 ^ 1074)
    = subst (λ (z : ℕ). HasValue x false (units_at z) (2 ^ 1074)) (sym e)
    (own-units x f (subst (λ (z : ℕ). z < 9218868437227405312) e h)) in
    made (units_at b) sig ex a s r ∙ sym (root_of_value x (units_at b) v (some-units (units_at b) sig ex s))
