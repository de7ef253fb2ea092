-- The tests by which T finds a whole argument of at most 22, and a number that is none of those that were asked for.
-- Assumes nothing.
use Rattle.std.proofs.Common.{◌≡◌, ℕ, zero, suc, ◌+◌, ◌*◌, ◌/◌, ◌<◌, ◌≤◌, min, Bool, true, false, ◌&&◌, T, pos, sym, refl, ap, ◌∙◌, subst, le_trans, le_of_suc-le-suc, div-lt_iff_lt-mul, le-div_iff_mul-le, arith, lit≤, lt→ltb, ltb-false, ltb-true, le-leb}
use mathlib.Core.Bool.{false≢true}
use borrow.Author.Tests.{lt-leb}
use lib.Ieee.{Float, nan, inf, fin, binary64, up, down, lt, eq, add, sub, of_bits, of_int, round, to_unsigned, fits}
use lib.Ieee.Fits.{down_pos, and_l, and_r, round-fits}
use lib.Ieee.Back.{round_whole, whole_unique}
use Rattle.base.specs.Loops.{every}
use Rattle.base.specs.LoopLaws.{every_at}
use Rattle.base.specs.Floats.{◌⊕◌, ◌⊖◌, bits, sign, abs, whole}
use Rattle.base.specs.Constants.{twenty_three}
use Rattle.powers.specs.Exp.{cut}
use Rattle.powers.specs.Power.{small_whole}
use Rattle.powers.specs.TenLaws.{small_value}

-- k is none of the numbers below n; then it is past them
abbrev pub NoneBelow : ℕ → ℕ → Type 0
NoneBelow k zero = Unit
NoneBelow k (suc n) = NoneBelow k n × (k ≡ n → ⊥)

pub past : (k n : ℕ) → NoneBelow k n → n ≤ k
past k zero r = omega arith
past k (suc n) r = omega (arith, past k n r.0, r.1)

-- ---- a / d below 23, and not below it
few_of : (a d : ℕ) → 0 < d → a * 1 < 23 * d → a / d ≤ 22
few_of a d p h = le_of_suc-le-suc ((div-lt_iff_lt-mul p).1 (omega arith))

many_of : (a d : ℕ) → 0 < d → 23 * d ≤ a * 1 → 22 < a / d
many_of a d p h = (le-div_iff_mul-le p).1 (omega arith)

kept : (q : ℕ) → q ≤ 22 → min q 18446744073709551615 ≡ q
kept q h = omega arith

-- ---- a y of less than 23 in size, and any other
pub record Cut (y : Float) : Type 0 where
  pub above : T (lt (fin true 1 (pos 0)) (abs y))
  pub below : T (lt (abs y) (fin false 1 (pos 64)))
  pub is : to_unsigned 64 (abs y) ≡ cut y
  pub few : cut y ≤ 22

pub cut_of : (y : Float) → lt (abs y) twenty_three ≡ true → Cut y
unfolding abs lt of_bits cut to_unsigned
cut_of nan h = absurd (false≢true h)
cut_of (inf s) h = absurd (false≢true h)
cut_of (fin s m e) h =
    let a = m * up e in
    let d = down e in
    let p = down_pos e in
    let l : a * 1 < 23 * d = ltb-true (a * 1) (23 * d) h in
    record {
      above = lt→ltb 0 (1 * d + a * 1) (omega arith);
      below = lt→ltb (a * 1) (18446744073709551616 * d) (omega arith);
      is = kept (a / d) (few_of a d p l);
      few = few_of a d p l;
    }

pub not-small : (y : Float) → lt (abs y) twenty_three ≡ false → small_whole y ≡ false
unfolding abs lt eq of_bits of_int round cut small_whole
not-small nan h = refl
not-small (inf s) h = refl
not-small (fin s m e) h =
    let a = m * up e in
    let d = down e in
    rw (lt-leb (a / d) 22 (many_of a d (down_pos e) (ltb-false (a * 1) (23 * d) h))) refl

-- what the code looks at, its size below 23, tells whether y is such a whole number, and which
pub tested : (y size f : Float) (k : ℕ) → size ≡ abs y → k ≡ to_unsigned 64 size → f ≡ whole k
    → lt size twenty_three ≡ true → (k ≡ cut y) × (small_whole y ≡ eq size f)
unfolding small_whole
tested y size f k a t n h =
    let c = cut_of y (subst (λ (x : Float). lt x twenty_three ≡ true) a h) in
    let e : k ≡ cut y = t ∙ ap (to_unsigned 64) a ∙ c.is in
    (e, rw (a, n, e, le-leb (cut y) 22 c.few) refl)

-- ---- the test that tells most fractions

-- 3·2^51
abbrev shift : Float
shift = bits 0x4338_0000_0000_0000

-- whether k with this sign is itself after the sum
abbrev stays : Bool → ℕ → Bool
stays s k = eq (round binary64 s k 1 ⊕ shift ⊖ shift) (round binary64 s k 1)

all_stay : every (λ k. stays true k && stays false k) 23 ≡ true
unfolding every eq add sub of_bits round
all_stay = refl

stay : (s : Bool) (k : ℕ) → k ≤ 22 → T (stays s k)
stay s k l = go s (subst T (sym (every_at (λ i. stays true i && stays false i) 23 k (omega arith) all_stay)) tt)
  where
    go : (s : Bool) → T (stays true k && stays false k) → T (stays s k)
    go true h = and_l (stays true k) (stays false k) h
    go false h = and_r (stays true k) (stays false k) h

-- what is not itself after the sum is no such whole number
pub has_digits : (y : Float) → T (fits binary64 y) → eq (y ⊕ shift ⊖ shift) y ≡ false → small_whole y ≡ false
has_digits y f h = go (small_whole y) refl
  where
    go : (b : Bool) → small_whole y ≡ b → small_whole y ≡ false
    go false e = e
    go true e =
        let v = small_value y e in
        let k = cut y in
        let z = round binary64 (sign y) k 1 in
        let same : y ≡ z
        = whole_unique binary64 y z (sign y) k f (round-fits binary64 (sign y) k 1) v.1
        (round_whole binary64 (sign y) k (le_trans v.0 (lit≤ tt))) in
        absurd (subst T (ap (λ (x : Float). eq (x ⊕ shift ⊖ shift) x) (sym same) ∙ h) (stay (sign y) k v.0))
