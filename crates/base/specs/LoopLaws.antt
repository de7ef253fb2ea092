-- Laws of counting loops: the turns that are left, done on the state as it is, give the loop's result w. Assumes
-- nothing.
use Rattle.std.specs.Prelude.{◌≡◌, Bool, true, false, ◌&&◌, List, set}
use Rattle.std.proofs.Math.Path.{refl, subst⁻¹}
use Rattle.std.proofs.Common.{ap, zero-add, add-zero}
use Rattle.std.proofs.Math.Bool.{and-false, and-eq-true_iff}
use Prim.Native.Nat.{ℕ, zero, suc, ◌+◌, ◌-◌, ◌≤◌, ◌<◌}
use Rattle.std.proofs.Math.Numerals.{add-one}
use native.Mathlib.Omega.{arith}
use Rattle.std.proofs.Math.Decide.{dec_lt}
use Rattle.std.proofs.Math.Nat.{sub-zero, suc-add, add-suc}
use Rattle.base.specs.Loops.{times, iterate, down, every}

-- ---- counting up: at i, of n, with the state s
pub record Left {S : Type 0} (f : ℕ → S → S) (n i : ℕ) (s w : S) : Type 0 where
  pub within : i ≤ n
  pub same : times f (n - i) i s ≡ w

module _ {S : Type 0} {f : ℕ → S → S} {n i : ℕ} {s : S} where
  pub start : i ≤ n → Left f n i s (times f (n - i) i s)
  start h = record { within = h; same = refl }

  pub begins : {w : S} → i ≤ n → times f (n - i) i s ≡ w → Left f n i s w
  begins h e = record { within = h; same = e }

module _ {S : Type 0} {f : ℕ → S → S} {n i : ℕ} {s w : S} where
  pub turn : Left f n i s w → i < n → Left f n (i + 1) (f i s) w
  unfolding times
  turn l h =
      let k : n - i ≡ suc (n - suc i) = omega arith in
      record { within = omega arith; same = rw (add-one i) (rw k at l.same) }

  pub ended : Left f n i s w → n ≤ i → s ≡ w
  unfolding times
  ended l h =
      let k : n - i ≡ 0 = omega arith in
      rw k at l.same

module _ {S : Type 0} {f : ℕ → S → S} {n i : ℕ} {s s' w : S} where
  -- the same where the state after the turn is given by an equation, for `search` to find
  pub goes : Left f n i s w → i < n → s' ≡ f i s → Left f n (i + 1) s' w
  goes l h e = subst⁻¹ (λ (x : S). Left f n (i + 1) x w) e (turn l h)

module _ {S : Type 0} {f : ℕ → S → S} {n : ℕ} {s w : S} where
  -- a loop from 0
  pub from_zero : times f n 0 s ≡ w → Left f n 0 s w
  from_zero e = record { within = omega arith; same = rw sub-zero e }

-- ---- turns that do the same, done from i on, below n
module _ {S : Type 0} {f g : ℕ → S → S} {n : ℕ} (same : (i : ℕ) (s : S) → i < n → f i s ≡ g i s) where
  pub same_from : (k i : ℕ) (s : S) → i + k ≤ n → times f k i s ≡ times g k i s
  unfolding times
  same_from zero i s h = refl
  same_from (suc k) i s h = rw (same i s (omega arith)) (same_from k (suc i) (g i s) (omega arith))

  pub times-same : (s : S) → times f n 0 s ≡ times g n 0 s
  times-same s = same_from n 0 s (omega arith)

-- ---- turns that do the same on each state that has P, and keep P
module _ {S : Type 0} (P : S → Type 0) (f g : ℕ → S → S) (same : (i : ℕ) (s : S) → P s → f i s ≡ g i s)
    (keeps : (i : ℕ) (s : S) → P s → P (g i s)) where
  pub times_keeps : (k i : ℕ) (s : S) → P s → P (times g k i s)
  unfolding times
  times_keeps zero i s h = h
  times_keeps (suc k) i s h = times_keeps k (suc i) (g i s) (keeps i s h)

  pub times-alike : (k i : ℕ) (s : S) → P s → times f k i s ≡ times g k i s
  unfolding times
  times-alike zero i s h = refl
  times-alike (suc k) i s h = rw (same i s h) (times-alike k (suc i) (g i s) (keeps i s h))

-- ---- k turns, then j turns more
module _ {S : Type 0} (f : ℕ → S → S) where
  pub times_more : (k j i : ℕ) (s : S) → times f (k + j) i s ≡ times f j (i + k) (times f k i s)
  unfolding times
  times_more zero j i s = rw (zero-add, add-zero) refl
  times_more (suc k) j i s = rw (suc-add k j, add-suc i k, ← suc-add i k) (times_more k j (suc i) (f i s))

  pub times-suc : (k i : ℕ) (s : S) → times f (suc k) i s ≡ f (i + k) (times f k i s)
  unfolding times
  times-suc k i s = rw add-one at (times_more k 1 i s)

-- ---- n turns more, and one turn first
pub iterate-add : {S : Type 0} (f : S → S) (m n : ℕ) (s : S) → iterate f (m + n) s ≡ iterate f n (iterate f m s)
iterate-add f m zero s = rw add-zero refl
iterate-add f m (suc n) s = rw add-suc (ap f (iterate-add f m n s))

pub iterate-inner : {S : Type 0} (f : S → S) (n : ℕ) (s : S) → iterate f (suc n) s ≡ iterate f n (f s)
iterate-inner f zero s = refl
iterate-inner f (suc n) s = ap f (iterate-inner f n s)

-- ---- counting down: k turns are left
pub record Lower {S : Type 0} (f : ℕ → S → S) (k : ℕ) (s w : S) : Type 0 where
  pub same : down f k s ≡ w

module _ {S : Type 0} {f : ℕ → S → S} {k : ℕ} {s : S} where
  pub from-top : {w : S} → down f k s ≡ w → Lower f k s w
  from-top e = record { same = e }

module _ {S : Type 0} {f : ℕ → S → S} {k : ℕ} {s s' w : S} where
  pub lowers : Lower f k s w → 0 < k → s' ≡ f (k - 1) s → Lower f (k - 1) s' w
  unfolding down
  lowers l h e =
      let j : k ≡ suc (k - 1) = omega arith in
      record { same = rw e (rw j at l.same) }

module _ {S : Type 0} {f : ℕ → S → S} {k : ℕ} {s w : S} where
  pub at_bottom : Lower f k s w → k ≤ 0 → s ≡ w
  unfolding down
  at_bottom l h =
      let j : k ≡ 0 = omega arith in
      rw j at l.same

-- ---- the same place of a list, set to equal values
pub set_to : {A : Type 0} {x y : A} (l : List A) (i : ℕ) → x ≡ y → set l i x ≡ set l i y
set_to l i e = ap (set l i) e

-- ---- a test of each number below n
pub every_at : (test : ℕ → Bool) (n k : ℕ) → k < n → every test n ≡ true → test k ≡ true
unfolding every
every_at test zero k h e = absurd (omega arith)
every_at test (suc n) k h e = go (λ (l : k < n). every_at test n k l both.0) (dec_lt k n)
  where
    both : (every test n ≡ true) × (test n ≡ true)
    both = (and-eq-true_iff (every test n) (test n)).0 e

    go : (k < n → test k ≡ true) → Dec (k < n) → test k ≡ true
    go ih (yes l) = ih l
    go ih (no l) = let q : k ≡ n = omega arith in rw q both.1

pub every-not : (test : ℕ → Bool) (n k : ℕ) → k < n → test k ≡ false → every test n ≡ false
unfolding every
every-not test zero k h e = absurd (omega arith)
every-not test (suc n) k h e = go (λ (l : k < n). every-not test n k l e) (dec_lt k n)
  where
    go : (k < n → every test n ≡ false) → Dec (k < n) → every test n && test n ≡ false
    go ih (yes l) = rw (ih l) refl
    go ih (no l) = let z : n ≡ k = omega arith in rw (z, e) (and-false (every test k))

pub every_all : (test : ℕ → Bool) (n : ℕ) → ((i : ℕ) → i < n → test i ≡ true) → every test n ≡ true
unfolding every
every_all test zero h = refl
every_all test (suc n) h = rw (every_all test n (λ i l. h i (omega arith)), h n (omega arith)) refl
