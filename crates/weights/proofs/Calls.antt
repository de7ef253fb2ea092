-- A call that is not refused has room for its kernels. Assumes nothing.
use Rattle.std.specs.Result.{result_and}
use Rattle.std.specs.Prelude.{Ok, Err}
use mathlib.Core.Path.{◌≡◌, refl}
use mathlib.Core.List.{List}
use Prim.Native.Nat.{ℕ, ◌≤◌}
use native.Mathlib.Omega.{arith}
use mathlib.Core.Bool.{Bool, true, false, cond}
use lib.Dec.{leb}
use lib.ListN.{length}
use lib.Ieee.{Float}
use borrow.Author.Tests.{leb-true}
use Rattle.base.specs.Answers.{Checked, passed}
use Rattle.base.specs.declared.refusal.Refusal.TheVariants.{ShortList}
use Rattle.kernel.specs.Field.{field_check}
use Rattle.weights.specs.Weights.{call_check}

module _ (n : ℕ) (faces : List ℕ) (ks : List Float) (room : ℕ) where
  pub passed_room : call_check n faces ks room ≡ passed → length ks ≤ room
  unfolding call_check
  passed_room h = go (field_check n faces ks) (leb (length ks) room) refl h
    where
      go : (m : Checked) (b : Bool) → leb (length ks) room ≡ b → result_and m (cond b passed (Err ShortList)) ≡ passed
          → length ks ≤ room
      go (Ok _) true e h = leb-true (length ks) room e
      go (Ok _) false e h = let z : ◌≡◌ {A = ℕ} 0 1 = cc in absurd (omega arith)
      go (Err r) b e h = let z : ◌≡◌ {A = ℕ} 0 1 = cc in absurd (omega arith)
