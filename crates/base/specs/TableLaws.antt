-- What stands in a list that was filled place by place. Assumes nothing.
use Rattle.std.specs.Prelude.{◌≡◌, List, length, get_or}
use Rattle.std.proofs.Math.Path.{refl}
use Rattle.std.proofs.Common.{◌∙◌, add-suc, arith}
use Prim.Native.Nat.{ℕ, zero, suc, ◌+◌, ◌≤◌, ◌<◌}
use Rattle.std.proofs.Math.Nat.{zero-add, add-zero, suc-add}
use Rattle.std.proofs.Math.ListN.{length-set}
use Rattle.std.proofs.Math.Seq.{get_or-set_same, get_or-set_other}
use Rattle.base.specs.Loops.{times, table_at, table}

module _ {A : Type 0} (f : ℕ → A) (d : A) where
  -- k turns from place i on leave the places before it, and those from i + k on
  before : (k i j : ℕ) (xs : List A) → j < i → get_or (times (table_at f) k i xs) j d ≡ get_or xs j d
  unfolding times
  before zero i j xs h = refl
  before (suc k) i j xs h =
      before k (suc i) j (table_at f i xs) (omega arith) ∙ get_or-set_other xs i j (f i) d (λ e. omega arith)

  behind : (k i j : ℕ) (xs : List A) → i + k ≤ j → get_or (times (table_at f) k i xs) j d ≡ get_or xs j d
  unfolding times
  behind zero i j xs h = refl
  behind (suc k) i j xs h =
      behind k (suc i) j (table_at f i xs) (omega arith) ∙ get_or-set_other xs i j (f i) d (λ e. omega arith)

  placed : (j k i : ℕ) (xs : List A) → j < k → i + j < length xs → get_or (times (table_at f) k i xs) (i + j) d ≡ f (i + j)
  unfolding times
  placed j zero i xs h l = absurd (omega arith)
  placed zero (suc k) i xs h l =
      rw add-zero (before k (suc i) i (table_at f i xs) (omega arith) ∙ get_or-set_same xs i (f i) d (omega arith))
  placed (suc j) (suc k) i xs h l =
      rw (add-suc i j, ← suc-add i j) (placed j k (suc i) (table_at f i xs) (omega arith) (rw length-set (omega arith)))

  -- a place below n
  pub tabled : (n j : ℕ) (xs : List A) → j < n → n ≤ length xs → get_or (table f n xs) j d ≡ f j
  unfolding table
  tabled n j xs h l = rw zero-add at (placed j n 0 xs h (omega arith))

  -- a place from n on
  pub table-past : (n j : ℕ) (xs : List A) → n ≤ j → get_or (table f n xs) j d ≡ get_or xs j d
  unfolding table
  table-past n j xs h = behind n 0 j xs (omega arith)
