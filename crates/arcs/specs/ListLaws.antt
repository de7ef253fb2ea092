-- A loop that sets, or looks at, the first elements of a list: what is shown of them, also where that hangs on flags.
-- Assumes nothing.
use Rattle.std.specs.Prelude.{◌≡◌, ℕ, ◌+◌, ◌/◌, ◌^◌, ◌≤◌, ◌<◌, List, get_or, set, Float}
use Rattle.std.proofs.Common.{subst, lt_of_le_of_lt, lt_of_lt_of_le, one-mul, div-lt_iff_lt-mul, arith, lit<, pow_pos}
use Rattle.std.proofs.Math.Path.{subst⁻¹}
use Rattle.std.specs.Int.Bits.{bit_or}
use Rattle.std.specs.Float.{nan}
use Rattle.base.specs.FillLaws.{Filled, up_to, fills_on}
use Rattle.root.specs.Flags.{or_most, or-zero}
use Rattle.arcs.specs.Lists.{First}

pub all_filled : {m n : ℕ} {P : ℕ → Float → Type 0} {first ys : List Float} {i : ℕ} → Filled m P first i ys → n ≤ i
    → First n P ys
all_filled f h = record { at = λ j l. f.done j (lt_of_lt_of_le l h) }

-- ---- where the elements are as P says only if C holds, which says that some flags are clear. Each turn or-es its own
-- to them, so that C then says more
abbrev pub If : Type 0 → (ℕ → Float → Type 0) → ℕ → Float → Type 0
If C P j z = C → P j z

pub fills_if : {C D : Type 0} {m : ℕ} {P : ℕ → Float → Type 0} {first ys : List Float} {i : ℕ} {y : Float}
    → Filled m (If C P) first i ys → i < m → (D → C) → (D → P i y) → Filled m (If D P) first (i + 1) (set ys i y)
fills_if f h on q = fills_on f h (λ j z p d. p (on d)) q

-- C: the flag is 0
pub fills_or : {m : ℕ} {P : ℕ → Float → Type 0} {first ys : List Float} {i : ℕ} {y : Float} (a b : ℕ)
    → Filled m (If (a ≡ 0) P) first i ys → i < m → (b ≡ 0 → P i y)
    → Filled m (If (bit_or a b ≡ 0) P) first (i + 1) (set ys i y)
fills_or a b f h q = fills_if f h (λ e. (or-zero a b e).0) (λ e. q (or-zero a b e).1)

pub all_if : {C : Type 0} {m n : ℕ} {P : ℕ → Float → Type 0} {first ys : List Float} {i : ℕ}
    → Filled m (If C P) first i ys → n ≤ i → C → First n P ys
all_if f h e = record { at = λ j l. f.done j (lt_of_lt_of_le l h) e }

-- ---- a loop that only looks: C says that no flag is set for the elements below i
pub record Seen (C : Type 0) (P : ℕ → Float → Type 0) (i : ℕ) (ys : List Float) : Type 0 where
  pub done : (j : ℕ) → j < i → C → P j (get_or ys j nan)

pub none_seen : {C : Type 0} {P : ℕ → Float → Type 0} (ys : List Float) → Seen C P 0 ys
none_seen ys = record { done = λ j l. absurd (omega arith) }

pub sees_or : {P : ℕ → Float → Type 0} (a b : ℕ) {i : ℕ} {ys : List Float} → Seen (a ≡ 0) P i ys
    → (b ≡ 0 → P i (get_or ys i nan)) → Seen (bit_or a b ≡ 0) P (i + 1) ys
sees_or {P} a b {i} {ys} f q =
    record {
      done =
          up_to {P = λ (k : ℕ). bit_or a b ≡ 0 → P k (get_or ys k nan)} (λ j g e. f.done j g (or-zero a b e).0)
          (λ e. q (or-zero a b e).1);
    }

pub all_seen : {C : Type 0} {n : ℕ} {P : ℕ → Float → Type 0} {i : ℕ} {ys : List Float} → Seen C P i ys → n ≤ i → C
    → First n P ys
all_seen f h e = record { at = λ j l. f.done j (lt_of_lt_of_le l h) e }

-- a flag that is set
pub flagged : {P : Type 0} → ◌≡◌ {A = ℕ} 18446744073709551615 0 → P
flagged e = absurd (omega arith)

-- ---- two words, as a lane has them, both small
abbrev pub Clear : ℕ → ℕ → ℕ → Type 0
Clear k coarse far = (coarse < 2 ^ 36) × (far < 2 ^ k)

pub clear_zero : (k a b : ℕ) → bit_or (a / 2 ^ 36) (b / 2 ^ k) ≡ 0 → Clear k a b
clear_zero k a b e = let z = or-zero (a / 2 ^ 36) (b / 2 ^ k) e in (under 36 a z.0, under k b z.1)
  where
    under : (j n : ℕ) → n / 2 ^ j ≡ 0 → n < 2 ^ j
    under j n h =
        subst (λ (m : ℕ). n < m) (one-mul (2 ^ j))
        ((div-lt_iff_lt-mul (pow_pos j)).0 (subst⁻¹ (λ (m : ℕ). m < 1) h (lit< tt)))

pub clear_or : (k a b c d : ℕ) → Clear k (bit_or a b) (bit_or c d) → Clear k a c × Clear k b d
clear_or k a b c d h =
    let m = or_most a b in
    let n = or_most c d in (
      (lt_of_le_of_lt m.0 h.0, lt_of_le_of_lt n.0 h.1),
      (lt_of_le_of_lt m.1 h.0, lt_of_le_of_lt n.1 h.1),
    )
