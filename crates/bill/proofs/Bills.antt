-- The pieces assumed, kernel by kernel, and what a bill's check lets pass. Assumes nothing.
use Rattle.base.specs.Answers.{passed}
use Rattle.std.specs.Result.{result_and}
use Rattle.std.specs.Prelude.{Err}
use mathlib.Core.Path.{◌≡◌, refl}
use mathlib.Core.Bool.{Bool, true, false, cond}
use mathlib.Core.List.{List}
use Prim.Native.Nat.{ℕ, ◌/◌, ◌%◌, ◌≤◌}
use native.Mathlib.Omega.{arith}
use borrow.Author.Tests.{leb-true}
use lib.Dec.{leb, eqb}
use lib.ListN.{length}
use lib.Ieee.{Float}
use Rattle.base.specs.declared.refusal.Refusal.TheVariants.{Oversize, ShortList, ManyKernels}
use Rattle.kernel.specs.Kernels.{list_check}
use Rattle.mesh.specs.Checks.{above_limit}
use Rattle.pieces.specs.Pieces.{size_of}
use Rattle.pieces.specs.PieceLaws.{sized}
use Rattle.bill.specs.Bill.{bill_check}

-- a fit has at most 16 terms
pub few_terms : (d : Float) → (size_of d).terms ≤ 16
few_terms d = (sized d).few

-- a list that passes has at most 32 kernels
pub passed_few : (ks : List Float) (v f : ℕ) → bill_check ks v f ≡ passed → length ks / 6 ≤ 32
unfolding bill_check list_check
passed_few ks v f h = go (above_limit v f) (eqb (length ks % 6) 0) (leb (length ks / 6) 32) refl h
  where
    go : (a b d : Bool) → leb (length ks / 6) 32 ≡ d
        → result_and (cond a (Err Oversize) passed)
        (result_and (cond b passed (Err ShortList)) (cond d passed (Err ManyKernels)))
        ≡ passed
        → length ks / 6 ≤ 32
    go false true true e h = leb-true (length ks / 6) 32 e
    go false true false e h = let z : ◌≡◌ {A = ℕ} 0 1 = cc in absurd (omega arith)
    go false false d e h = let z : ◌≡◌ {A = ℕ} 0 1 = cc in absurd (omega arith)
    go true b d e h = let z : ◌≡◌ {A = ℕ} 0 1 = cc in absurd (omega arith)
