-- One point whose radius is at least 0.1: the quotient is the factor, and what the halvings go through keeps within
-- bounds. Assumes nothing.
use mathlib.Core.Path.{◌≡◌, refl, subst⁻¹}
use mathlib.Core.Bool.{Bool, true, false, ◌&&◌, cond, true≢false, false≢true}
use Prim.Native.Nat.{ℕ, ◌*◌, ◌^◌, ◌<◌, ◌≤◌}
use native.Mathlib.Nat.{le_refl, le_of_lt, zero-mul, mul-pos}
use native.Mathlib.Omega.{arith}
use borrow.Author.Tests.{ltb-true, ltb-false, eqb-true, le-ltb}
use lib.Dec.{T, eqb, lit<}
use lib.Ieee.{Float, nan, inf, fin, lt, le, eq, div, of_bits, up, down}
use lib.IntN.{ℤ}
use lib.Ieee.Fits.{down_pos}
use Rattle.base.specs.Floats.{◌⊕◌, ◌⊖◌, ◌⊗◌, ◌⊘◌, sign, signed, abs}
use Rattle.base.specs.Ranges.{Within, AtLeast}
use Rattle.base.specs.RangeLaws.{ordered, square_within, one_plus_within, quotient_within, at_least}
use Rattle.base.specs.Constants.{one, tenth}
use Rattle.powers.specs.Arc.{halved, arc_core, arc_abs, arc}
use Rattle.radial.specs.Radial.{radial_g}
use Rattle.arcs.specs.Stages.{Large, Low, inverted, turned, radicand, quotient}

-- ---- large
no_zero : (a : ℕ) (p q : Bool) → eqb a 0 ≡ q → 0 < a → (p && q) ≡ true → ⊥
no_zero a p true h k l = omega (arith, eqb-true a 0 h)
no_zero a true false h k l = false≢true l
no_zero a false false h k l = false≢true l

-- 0.1 is this times 2^-55
abbrev tenths : ℕ
tenths = 3602879701896397

-- the sign is plus, and the test of the series fails
pub record Plain (t : Float) : Type 0 where
  pub same : abs t ≡ t
  pub plus : sign t ≡ false
  pub over : lt t tenth ≡ false

pub plain : (t : Float) → Large t → Plain t
unfolding lt le eq abs of_bits
plain nan h = absurd (false≢true h)
plain (inf true) h = absurd (false≢true h)
plain (inf false) h = record { same = refl; plus = refl; over = refl }
plain (fin true m e) h =
    let a = tenths * 1 * down e in
    absurd (no_zero a (eqb a (m * up e * 2 ^ 55)) (eqb a 0) refl (mul-pos {m = tenths * 1} (lit< tt) (down_pos e)) h)
plain (fin false m e) h =
    record {
      same = refl;
      plus = refl;
      over = let a = tenths * 1 * down e in let b = m * up e * 2 ^ 55 in le-ltb b a (ordered a b (subst⁻¹ T h tt));
    }

arc-is : (t : Float) (b : Bool) → lt one t ≡ b → arc_abs t ≡ turned t (arc_core (halved (halved (inverted t))))
unfolding arc_abs turned inverted
arc-is t true h = rw h refl
arc-is t false h = rw h refl

arc-plain : (t : Float) → Plain t → arc t ≡ arc_abs t
unfolding arc signed
arc-plain t p = rw (p.same, p.plus) refl

pub large_is : (t : Float) → Large t → quotient t (halved (halved (inverted t))) ≡ radial_g t
unfolding radial_g quotient
large_is t h = let p = plain t h in rw (p.same, p.over, arc-plain t p, arc-is t (lt one t) refl) refl

-- ---- not above 1
pub low-inverted : (t : Float) → Low t → t ≡ inverted t
unfolding inverted
low-inverted t h = rw h refl

pub low-quotient : (t v : Float) → Low t → (t ⊖ arc_core v) ⊘ (t ⊗ t ⊗ t) ≡ quotient t v
unfolding quotient turned
low-quotient t v h = rw h refl

-- ---- what the halvings start from and go through is within 0 and 1, the radicands within 1 and 2
over-one : (m : ℕ) (e : ℤ) → lt one (fin false m e) ≡ true → AtLeast 1 (fin false m e)
unfolding lt of_bits
over-one m e h = (refl, more (ltb-true (1 * 1 * down e) (m * up e * 1) h))
  where
    more : 1 * 1 * down e < m * up e * 1 → 1 * down e ≤ m * up e
    more k = omega arith

up_to_one : (m : ℕ) (e : ℤ) → lt one (fin false m e) ≡ false → Within 0 1 (fin false m e)
unfolding lt of_bits
up_to_one m e h = (refl, omega (arith, zero-mul (down e)), fewer (ltb-false (1 * 1 * down e) (m * up e * 1) h))
  where
    fewer : m * up e * 1 ≤ 1 * 1 * down e → m * up e ≤ 1 * down e
    fewer k = omega arith

one_within : Within 0 1 one
unfolding of_bits
one_within = (refl, le_of_lt (lit< tt), le_refl 1)

pub tangent_of : (t : Float) → Large t → Within 0 1 (inverted t)
unfolding inverted lt le eq div of_bits
tangent_of nan h = absurd (false≢true h)
tangent_of (inf true) h = absurd (false≢true h)
tangent_of (inf false) h = (refl, le_refl 0, le_of_lt (lit< tt))
tangent_of (fin true m e) h = absurd (true≢false (plain (fin true m e) h).plus)
tangent_of (fin false m e) h = go (lt one (fin false m e)) refl
  where
    go : (b : Bool) → lt one (fin false m e) ≡ b → Within 0 1 (cond b (one ⊘ fin false m e) (fin false m e))
    go true k = quotient_within one (fin false m e) one_within (over-one m e k)
    go false k = up_to_one m e k

pub radicand_of : (v : Float) → Within 0 1 v → Within 1 2 (radicand v)
radicand_of v h = one_plus_within 0 1 (v ⊗ v) (lit< tt) (lit< tt) (square_within v h)

pub halved_of : (v r : Float) → Within 0 1 v → Within 1 2 r → Within 0 1 (v ⊘ (one ⊕ r))
halved_of v r h k =
    quotient_within v (one ⊕ r) h
    (at_least 2 3 1 (one ⊕ r) (le_of_lt (lit< tt)) (one_plus_within 1 2 r (lit< tt) (lit< tt) k))
