-- A loop that sets the elements of an array of n floats in their order: what is shown of an element that is set, and
-- what is kept of one that is not. Assumes nothing.
use Rattle.std.specs.Prelude.{◌≡◌, refl, List, ℕ, ◌+◌, ◌≤◌, ◌<◌, get_or, set, length, Float}
use Rattle.std.proofs.Common.{◌∙◌, inl, inr, eq-or-lt_of_le, ne_of_lt, ne_of_gt, arith, length-set, get_or-set_same, get_or-set_other}
use Rattle.std.proofs.Math.Path.{subst⁻¹}
use Rattle.std.specs.Float.{nan}

-- the elements below i are set, each as P says; the others are those of the list at first
pub record Filled (n : ℕ) (P : ℕ → Float → Type 0) (first : List Float) (i : ℕ) (ys : List Float) : Type 0 where
  pub within : i ≤ n
  pub long : length ys ≡ n
  pub done : (j : ℕ) → j < i → P j (get_or ys j nan)
  pub kept : (j : ℕ) → i ≤ j → get_or ys j nan ≡ get_or first j nan

pub none_filled : {n : ℕ} {P : ℕ → Float → Type 0} (ys : List Float) → length ys ≡ n → Filled n P ys 0 ys
none_filled ys h = record { within = omega arith; long = h; done = λ j l. absurd (omega arith); kept = λ j l. refl }

-- what holds below i and at i holds below i + 1
pub up_to : {P : ℕ → Type 0} {i : ℕ} → ((j : ℕ) → j < i → P j) → P i → (j : ℕ) → j < i + 1 → P j
up_to {P} {i} before last j l = elim (eq-or-lt_of_le (under l)) [
  | inl e ↦ subst⁻¹ P e last
  | inr g ↦ before j g
]
  where
    under : j < i + 1 → j ≤ i
    under k = omega arith

module _ {n : ℕ} {P : ℕ → Float → Type 0} {first ys : List Float} {i : ℕ} {y : Float} where
  -- one more is set; what is shown of the others may become another statement that follows
  pub fills_on : {Q : ℕ → Float → Type 0} → Filled n P first i ys → i < n → ((j : ℕ) (z : Float) → P j z → Q j z)
      → Q i y → Filled n Q first (i + 1) (set ys i y)
  fills_on {Q} f h on q =
      record {
        within = omega arith;
        long = length-set ys i y ∙ f.long;
        done = up_to {P = λ (k : ℕ). Q k (get_or (set ys i y) k nan)}
            (λ j g. subst⁻¹ (Q j) (get_or-set_other ys i j y nan (ne_of_lt g)) (on j (get_or ys j nan) (f.done j g)))
            (subst⁻¹ (Q i) (get_or-set_same ys i y nan (subst⁻¹ (λ (m : ℕ). i < m) f.long h)) q);
        kept = λ j l. get_or-set_other ys i j y nan (ne_of_gt (over j l)) ∙ f.kept j (lower j l);
      }
    where
      over : (j : ℕ) → i + 1 ≤ j → i < j
      over j l = omega arith

      lower : (j : ℕ) → i + 1 ≤ j → i ≤ j
      lower j l = omega arith

  pub fills : Filled n P first i ys → i < n → P i y → Filled n P first (i + 1) (set ys i y)
  fills f h q = fills_on f h (λ j z p. p) q
