-- 02, L4: what an elimination tells of its pivots. The smallest accepted one is a NaN or above 1e-18, a NaN stays, and
-- the column of a flat one is among the n. Assumes nothing.
use Rattle.std.specs.Prelude.{◌≡◌, refl, ◌⊎◌, Bool, true, false, cond, ◌||◌, ℕ, zero, suc, ◌+◌, ◌≤◌, ◌<◌, ltb, Float}
use Rattle.std.proofs.Common.{sym, ◌∙◌, inl, inr, ⊎_elim, true≢false, eq-or-lt_of_le, arith, lt-ltb, eq-eqb, ltb-false}
use Rattle.std.specs.Float.{nan, inf, fin}
use Rattle.std.specs.Float.Ieee.{of_bits, lt, le, eq, ne, below, level}
use Rattle.base.specs.ChoiceLaws.{cond_of}
use Rattle.base.specs.Constants.{flat_limit}
use Rattle.base.specs.Loops.{times}
use Rattle.base.specs.FloatLaws.{is-nan}
use Rattle.base.specs.OrderLaws.{lt-nan}
use Rattle.solve.specs.Elimination.{Matrix, Ended, reduced, flat, pivot_of, smaller, column, column_at, no_pivot, eliminated}

-- ---- what the test of a pivot lets pass

abbrev pub Accepted : Float → Type 0
Accepted s = (s ≡ nan) ⊎ (lt flat_limit s ≡ true)

neither : (p q : Bool) → (p || q) ≡ false → (p ≡ false) × (q ≡ false)
neither true q h = absurd (true≢false h)
neither false q h = (refl, h)

-- what is neither below a number from 0 on nor equal to it is above it
above : (s : Bool) (a b : ℕ) → (below s a false b || level s a false b) ≡ false → below false b s a ≡ true
above false a b h =
    let n = neither (ltb a b) (level false a false b) h in
    let same : b ≡ a → level false a false b ≡ true = λ e. simp (eq-eqb a b (sym e)) in
    ⊎_elim (λ e. absurd (true≢false (sym (same e) ∙ n.1))) (λ l. lt-ltb b a l) (eq-or-lt_of_le (ltb-false a b n.0))
above true a b h =
    let n = neither (ltb 0 (a + b)) (level true a false b) h in
    let z = ltb-false 0 (a + b) n.0 in
    let same : level true a false b ≡ true = simp (eq-eqb a b (omega arith), eq-eqb a 0 (omega arith)) in
    absurd (true≢false (sym same ∙ n.1))

pub passes-flat : (v : Float) → le v flat_limit ≡ false → Accepted v
unfolding le lt eq of_bits
passes-flat nan h = inl refl
passes-flat (inf true) h = absurd (true≢false h)
passes-flat (inf false) h = inr refl
passes-flat (fin s m e) h = inr (above s _ _ h)

-- ---- the smallest of them

-- "A NaN pivot makes the reported one NaN", the last or an earlier one
pub nan_comes : (s : Float) → smaller s nan ≡ nan
unfolding smaller lt ne eq
nan_comes s = refl

pub nan-stays : (v : Float) → smaller nan v ≡ nan
unfolding smaller
nan-stays v = rw (lt-nan v) (go (ne v v) refl)
  where
    go : (b : Bool) → ne v v ≡ b → cond (false || b) v nan ≡ nan
    go true e = is-nan v e
    go false e = refl

no_pivot_lem : Accepted no_pivot
unfolding lt of_bits
no_pivot_lem = inr refl

-- ---- an elimination's end

-- a reduced matrix has an accepted pivot, a flat one a column below n
abbrev pub Told : ℕ → Ended → Type 0
Told n (reduced s m) = Accepted s
Told n (flat c) = c < n

column-told : (n col : ℕ) (e : Ended) → col < n → Told n e → Told n (column_at n col e)
unfolding column_at smaller
column-told n col (flat c) h t = t
column-told n col (reduced s m) h t = go (le (pivot_of n col m).value flat_limit) refl
  where
    v : Float
    v = (pivot_of n col m).value

    go : (b : Bool) → le v flat_limit ≡ b
        → Told n (cond b (flat col) (reduced (smaller s v) (column n col (pivot_of n col m).row m)))
    go true e = h
    go false e = cond_of Accepted (lt v s || ne v v) (passes-flat v e) t

pub told : (n : ℕ) (m : Matrix) → Told n (eliminated n m)
unfolding eliminated times
told n m = go n 0 (reduced no_pivot m) (omega arith) no_pivot_lem
  where
    go : (k i : ℕ) (e : Ended) → i + k ≤ n → Told n e → Told n (times (column_at n) k i e)
    go zero i e h t = t
    go (suc k) i e h t = go k (suc i) (column_at n i e) (omega arith) (column-told n i e (omega arith) t)
