-- What 02 says of a bill, row by row: which calls are refused, and what is assumed of an exponent. Assumes nothing.
use Rattle.std.specs.Prelude.{◌≡◌, refl, Bool, true, false, ◌⊎◌, List, [], ◌∷◌, ℕ, ◌/◌, ◌%◌, ◌≤◌, ◌<◌, length, get_or, Float, Ok, Err}
use Rattle.std.proofs.Common.{sym, ap, inl, inr, arith, lt-ltb, le-ltb, eq-eqb, ne_eqb, le-leb}
use Rattle.std.proofs.Math.Bool.{or-true}
use Rattle.std.specs.Float.{nan, inf}
use Rattle.std.specs.Float.Ieee.{of_bits, lt, le, sub}
use Rattle.std.proofs.lemmas.Bool.{lt-leb}
use Rattle.base.specs.Floats.{bits, +0, abs}
use Rattle.base.specs.Constants.{one, two}
use Rattle.base.specs.Answers.{Answer, refused, counted, granted, Checked}
use Rattle.base.specs.declared.refusal.Refusal.TheVariants.{Oversize, ShortList, ManyKernels}
use Rattle.kernel.specs.Kernels.{list_check}
use Rattle.mesh.specs.Checks.{above_limit}
use Rattle.pieces.specs.Pieces.{size_of, most_pieces}
use Rattle.bill.specs.Bill.{bill_steps, bill_floats, bill_check, bill_of}

-- ---- the refusals

-- the limits of 01 on V and F
pub record InLimit (verts faces : ℕ) : Type 0 where
  pub few_verts : verts ≤ 1048576
  pub few_faces : faces ≤ 2097152

-- 2, 9 and 15, in this order, and no other
pub record Refusals (kernels : List Float) (verts faces : ℕ) : Type 0 where
  -- "V or F above the limit is 2 as before"
  pub two : (1048576 < verts) ⊎ (2097152 < faces) → bill_of kernels verts faces ≡ refused Oversize
  -- "a kernel list given whose length isn't a multiple of 6"
  pub nine : InLimit verts faces → (length kernels % 6 ≡ 0 → ⊥) → bill_of kernels verts faces ≡ refused ShortList
  -- "15 when there are more than 32 kernels, after 9"
  pub fifteen : InLimit verts faces → length kernels % 6 ≡ 0 → 32 < length kernels / 6
      → bill_of kernels verts faces ≡ refused ManyKernels
  -- "Any number of kernels up to 32 may be billed"
  pub due : InLimit verts faces → length kernels % 6 ≡ 0 → length kernels / 6 ≤ 32
      → bill_of kernels verts faces ≡ counted (bill_steps kernels faces ∷ bill_floats kernels ∷ [])

pub refusals : (kernels : List Float) (verts faces : ℕ) → Refusals kernels verts faces
unfolding bill_of bill_check list_check
refusals kernels verts faces =
    let n = length kernels in
    record {
      two = above;
      nine = λ l s. rw (in_limit l, ne_eqb (n % 6) 0 s) refl;
      fifteen = λ l s m. rw (in_limit l, eq-eqb (n % 6) 0 s, lt-leb (n / 6) 32 m) refl;
      due = λ l s m. rw (in_limit l, eq-eqb (n % 6) 0 s, le-leb (n / 6) 32 m) refl;
    }
  where
    in_limit : InLimit verts faces → above_limit verts faces ≡ false
    in_limit l = rw (le-ltb 1048576 verts l.few_verts, le-ltb 2097152 faces l.few_faces) refl

    above : (1048576 < verts) ⊎ (2097152 < faces) → bill_of kernels verts faces ≡ refused Oversize
    above (inl h) = rw (lt-ltb 1048576 verts h) refl
    above (inr h) = rw (lt-ltb 2097152 faces h, or-true) refl

-- a bill that is accepted is this one
pub due-is : (kernels : List Float) (verts faces steps floats : ℕ)
    → bill_of kernels verts faces ≡ counted (steps ∷ floats ∷ [])
    → (steps ≡ bill_steps kernels faces) × (floats ≡ bill_floats kernels)
unfolding bill_of
due-is kernels verts faces steps floats h = go (bill_check kernels verts faces) h
  where
    go : (c : Checked) → granted c (counted (bill_steps kernels faces ∷ bill_floats kernels ∷ []))
        ≡ counted (steps ∷ floats ∷ [])
        → (steps ≡ bill_steps kernels faces) × (floats ≡ bill_floats kernels)
    go (Ok _) e = (sym (ap (λ (a : Answer). get_or a.counts 0 0) e), sym (ap (λ (a : Answer). get_or a.counts 1 0) e))
    go (Err r) e = let z : ◌≡◌ {A = ℕ} 0 2 = ap (λ (a : Answer). length a.counts) e in absurd (omega arith)

-- ---- what is assumed of an exponent, by computation

unfoldable rows : ℕ
unfolding size_of abs sub le lt of_bits
rows = 0

-- "a kernel that stays"
pub stays-one : most_pieces one ≡ 1
unfolding rows
stays-one = refl

-- "or has a NaN exponent"
pub nan-none : most_pieces nan ≡ 0
unfolding rows
nan-none = refl

-- "for others 13 or 16 pieces are assumed", 13 for delta ≤ 1: at 0 and at 2
pub zero_thirteen : most_pieces +0 ≡ 13
unfolding rows
zero_thirteen = refl

pub two_thirteen : most_pieces two ≡ 13
unfolding rows
two_thirteen = refl

-- 16 above: at the first float above 2, and at both infinities
pub above-sixteen : most_pieces (bits 0x4000_0000_0000_0001) ≡ 16
unfolding rows
above-sixteen = refl

pub infinite-sixteen : (s : Bool) → most_pieces (inf s) ≡ 16
unfolding rows
infinite-sixteen true = refl
infinite-sixteen false = refl
