-- Theorems of a kernel's pieces: how many there are, that the rest of their arrays is +0, that the peak error is at
-- least +0, what they do not depend on, and what a NaN exponent gives. Assumes nothing.
use Rattle.std.specs.Prelude.{◌≡◌, refl, Bool, true, false, cond, List, ℕ, zero, suc, ◌+◌, ◌≤◌, ◌<◌, get_or, set, replicate, Float}
use Rattle.std.proofs.Common.{ap, ◌∙◌, le_trans, arith, get_or-set_other}
use Rattle.std.specs.Float.{nan}
use Rattle.std.specs.Float.Ieee.{of_bits, lt, le, sub}
use Rattle.base.specs.Floats.{◌⊗◌, +0, abs, greater}
use Rattle.base.specs.Constants.{one, keep_limit}
use Rattle.base.specs.Loops.{times, table}
use Rattle.base.specs.ChoiceLaws.{cond_of}
use Rattle.powers.specs.Power.{log10}
use Rattle.solve.specs.Elimination.{eliminated}
use Rattle.solve.specs.Solve.{answers}
use Rattle.pieces.specs.Fit.{zeros, scales_of, coefficients_of}
use Rattle.pieces.specs.FitLaws.{zero-least, error_least, error_one}
use Rattle.pieces.specs.Pieces.{delta, stays, size_of, most_pieces, blank_piece, past_pieces, part_at, blanks, none, itself, keep, keep_at, kept, fitted, decomposed, piece_alpha}
use Rattle.kernel.specs.declared.kernel.Kernel.{Kernel}
use Rattle.pieces.specs.declared.pieces.Size.{Size}
use Rattle.pieces.specs.declared.pieces.Piece.{Piece}
use Rattle.pieces.specs.declared.pieces.Pieces.{Pieces}

-- ---- how many

-- what a fit's size is within
pub record Sized (z : Size) : Type 0 where
  pub few : z.terms ≤ 16
  pub not-one : z.terms ≡ 1 → ⊥
  pub several : 1 < z.samples
  pub bounded : z.samples ≤ 48

pub sized : (d : Float) → Sized (size_of d)
unfolding size_of
sized d =
    cond_of Sized (le d one)
    (record { few = omega arith; not-one = λ e. omega arith; several = omega arith; bounded = omega arith })
    (cond_of Sized (lt one d)
    (record { few = omega arith; not-one = λ e. omega arith; several = omega arith; bounded = omega arith })
    (record { few = omega arith; not-one = λ e. omega arith; several = omega arith; bounded = omega arith }))

-- a piece more, or as many as before
pub keep-count : (p : Pieces) (s k : Float) {i : ℕ} → p.count ≤ i → (keep p s k).count ≤ i + 1
unfolding keep
keep-count p s k {i} h = cond_of (λ (q : Pieces). q.count ≤ i + 1) (lt keep_limit (abs k)) (omega arith) (omega arith)

kept-count : (terms : ℕ) (sigma : Float) (scales coefs : List Float) (p : Pieces) → p.count ≡ 0
    → (kept terms sigma scales coefs p).count ≤ terms
unfolding kept times
kept-count terms sigma scales coefs p h = omega (arith, go terms 0 0 p (omega arith))
  where
    go : (k i j : ℕ) (q : Pieces) → q.count ≤ j → (times (keep_at sigma scales coefs) k i q).count ≤ j + k
    go zero i j q l = omega arith
    go (suc k) i j q l = omega (
      arith,
      go k (suc i) (j + 1) (keep_at sigma scales coefs i q)
          (keep-count q (sigma ⊗ get_or scales i nan) (get_or coefs i nan) l),
    )

-- a kernel's pieces by any scales, coefficients and error, whatever powers they were worked with
abbrev pub fitted_with : Kernel → List Float → List Float → Float → Pieces
fitted_with k scales coefs e =
    cond (stays k.alpha) (itself k) (kept (size_of (delta k.alpha)).terms k.sigma scales coefs (none e))

pub with_within : (k : Kernel) (scales coefs : List Float) (e : Float)
    → (fitted_with k scales coefs e).count ≤ most_pieces k.alpha
with_within k scales coefs e = go (stays k.alpha)
  where
    terms : ℕ
    terms = (size_of (delta k.alpha)).terms

    go : (b : Bool) → (cond b (itself k) (kept terms k.sigma scales coefs (none e))).count ≤ cond b 1 terms
    go true = omega arith
    go false = kept-count _ _ _ _ _ refl

pub pieces_within : (k : Kernel) (radius : Float) → (decomposed k radius).count ≤ most_pieces k.alpha
unfolding decomposed fitted
pieces_within k radius = with_within k _ _ _

-- "So a kernel has at most 16 pieces"
most_16 : (k : Kernel) → most_pieces k.alpha ≤ 16
most_16 k = cond_of (λ (n : ℕ). n ≤ 16) (stays k.alpha) (omega arith) (sized (delta k.alpha)).few

pub with_at_most_16 : (k : Kernel) (scales coefs : List Float) (e : Float) → (fitted_with k scales coefs e).count ≤ 16
with_at_most_16 k scales coefs e = le_trans (with_within k scales coefs e) (most_16 k)

pub at_most_16 : (k : Kernel) (radius : Float) → (decomposed k radius).count ≤ 16
at_most_16 k radius = le_trans (pieces_within k radius) (most_16 k)

-- ---- what is not a piece is +0

pub record Clean (p : Pieces) : Type 0 where
  pub no_sigma : (i : ℕ) → p.count ≤ i → i < 16 → (part_at p i).sigma ≡ +0
  pub no_coefficient : (i : ℕ) → p.count ≤ i → i < 16 → (part_at p i).coefficient ≡ +0

-- the same of both floats at once
pub blank-clean : (p : Pieces) → ((i : ℕ) → p.count ≤ i → i < 16 → part_at p i ≡ blank_piece) → Clean p
blank-clean p h =
    record {
      no_sigma = λ i l b. ap (λ (q : Piece). q.sigma) (h i l b);
      no_coefficient = λ i l b. ap (λ (q : Piece). q.coefficient) (h i l b);
    }

all_blank : (n i : ℕ) → i < n → get_or (replicate n blank_piece) i past_pieces ≡ blank_piece
all_blank zero i h = absurd (omega (arith, h))
all_blank (suc n) zero h = refl
all_blank (suc n) (suc i) h = all_blank n i (omega arith)

set_below : (xs : List Piece) (j i : ℕ) (x : Piece) → j < i
    → get_or (set xs j x) i past_pieces ≡ get_or xs i past_pieces
set_below xs j i x h = get_or-set_other xs j i x past_pieces (λ e. omega arith)

keep-clean : (p : Pieces) (s k : Float) → Clean p → Clean (keep p s k)
unfolding keep
keep-clean p s k h =
    let at = λ (i : ℕ) (l : p.count < i). set_below p.list p.count i (record { sigma = s; coefficient = k }) l in
    cond_of Clean (lt keep_limit (abs k))
    (record {
      no_sigma = λ i l b. ap (λ (q : Piece). q.sigma) (at i (omega arith)) ∙ h.no_sigma i (omega arith) b;
      no_coefficient =
          λ i l b. ap (λ (q : Piece). q.coefficient) (at i (omega arith)) ∙ h.no_coefficient i (omega arith) b;
    })
    h

kept-clean : (terms : ℕ) (sigma : Float) (scales coefs : List Float) (p : Pieces) → Clean p
    → Clean (kept terms sigma scales coefs p)
unfolding kept times
kept-clean terms sigma scales coefs p h = go terms 0 p h
  where
    go : (k i : ℕ) (q : Pieces) → Clean q → Clean (times (keep_at sigma scales coefs) k i q)
    go zero i q c = c
    go (suc k) i q c = go k (suc i) (keep_at sigma scales coefs i q) (keep-clean q _ _ c)

pub with_clean : (k : Kernel) (scales coefs : List Float) (e : Float) → Clean (fitted_with k scales coefs e)
with_clean k scales coefs e =
    cond_of Clean (stays k.alpha)
    (blank-clean (itself k)
    (λ i l b. set_below blanks 0 i (record { sigma = k.sigma; coefficient = one }) l ∙ all_blank 16 i b))
    (kept-clean _ _ _ _ _ (blank-clean (none e) (λ i l b. all_blank 16 i b)))

pub clean : (k : Kernel) (radius : Float) → Clean (decomposed k radius)
unfolding decomposed fitted
clean k radius = with_clean k _ _ _

-- ---- the peak error

keep_error : (p : Pieces) (s k : Float) → (keep p s k).error ≡ p.error
unfolding keep
keep_error p s k = cond_of (λ (q : Pieces). q.error ≡ p.error) (lt keep_limit (abs k)) refl refl

kept_error : (terms : ℕ) (sigma : Float) (scales coefs : List Float) (p : Pieces)
    → (kept terms sigma scales coefs p).error ≡ p.error
unfolding kept times
kept_error terms sigma scales coefs p = go terms 0 p
  where
    go : (k i : ℕ) (q : Pieces) → (times (keep_at sigma scales coefs) k i q).error ≡ q.error
    go zero i q = refl
    go (suc k) i q = go k (suc i) (keep_at sigma scales coefs i q) ∙ keep_error q _ _

-- "Peak error is never NaN nor below 0"
pub error_at_least-zero : (k : Kernel) (radius : Float) → le +0 (decomposed k radius).error ≡ true
unfolding decomposed fitted
error_at_least-zero k radius =
    cond_of (λ (p : Pieces). le +0 p.error ≡ true) (stays k.alpha) zero-least
    (rw kept_error (error_least _ _ _ _))

-- ---- a kernel that stays has one piece, of its own sigma
pub stays-itself : (k : Kernel) (radius : Float) → stays k.alpha ≡ true → decomposed k radius ≡ itself k
unfolding decomposed
stays-itself k radius h = rw h refl

-- every piece has an exponent within 1e-9 of 1, so that the volumes of exponent 1 are its own
pub piece_stays : (alpha : Float) → stays (piece_alpha alpha) ≡ true
unfolding piece_alpha abs sub of_bits le lt
piece_stays alpha = go (stays alpha) refl
  where
    go : (b : Bool) → stays alpha ≡ b → stays (cond b alpha one) ≡ true
    go true e = e
    go false e = refl

-- ---- what they do not depend on

-- a kernel of another centre and weight has the same pieces
pub same_pieces : (c c' : List Float) (sigma w w' alpha radius : Float)
    → decomposed (record { c = c; sigma = sigma; w = w; alpha = alpha }) radius
    ≡ decomposed (record { c = c'; sigma = sigma; w = w'; alpha = alpha }) radius
unfolding decomposed
same_pieces c c' sigma w w' alpha radius = refl

-- "NaN alpha gives no piece and error 1"
pub nan_alpha : (c : List Float) (sigma w radius : Float)
    → decomposed (record { c = c; sigma = sigma; w = w; alpha = nan }) radius ≡ none one
unfolding decomposed fitted kept scales_of coefficients_of eliminated answers table times abs sub le size_of lt of_bits
nan_alpha c sigma w radius = ap none (error_one zeros zeros (log10 (greater one (sigma ⊗ greater one radius))))
