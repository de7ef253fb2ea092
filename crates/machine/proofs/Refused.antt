-- The check of an opening refuses by the lowest of the table's rows 1 to 4 that applies. Assumes nothing.
use Rattle.std.specs.Result.{result_and}
use Rattle.std.specs.Prelude.{Err}
use mathlib.Core.Path.{◌≡◌, refl, sym, ap, ◌∙◌}
use mathlib.Core.Bool.{Bool, true, false, not, ◌&&◌, ◌||◌, cond, true≢false}
use mathlib.Core.List.{List, [], ◌∷◌}
use Prim.Native.Nat.{ℕ, ◌+◌, ◌*◌, ◌/◌, ◌%◌, ◌<◌}
use native.Mathlib.Decide.{dec_lt}
use native.Mathlib.Omega.{arith}
use lib.Dec.{ltb, leb, eqb}
use lib.ListN.{length}
use lib.Ieee.{Float}
use borrow.Author.Tests.{lt-ltb, le-ltb, lt-leb, le-leb, eqb-true}
use Rattle.base.specs.Answers.{Checked, passed}
use Rattle.base.specs.declared.refusal.Refusal.TheVariants.{Ragged, Oversize, LooseCorner, ShortStore}
use Rattle.mesh.specs.Checks.{ragged, oversize, all_below, mesh_check}
use Rattle.layout.specs.Layout.{coords_from, corners_from}
use Rattle.layout.specs.After.{After, after, guarded}
use Rattle.store.specs.Calls.{open_check}
use Rattle.machine.specs.Machine.{loose_in, open_row}
use Rattle.machine.specs.Demands.{refused_by}

-- ---- tests turned round
pub not-below : (a b : ℕ) → leb a b ≡ not (ltb b a)
not-below a b = go (dec_lt b a)
  where
    go : Dec (b < a) → leb a b ≡ not (ltb b a)
    go (yes h) = lt-leb a b h ∙ sym (ap not (lt-ltb b a h))
    go (no h) = le-leb a b (omega arith) ∙ sym (ap not (le-ltb b a (omega arith)))

either : (s t : Bool) → (s || t) ≡ not (not s && not t)
either true t = refl
either false true = refl
either false false = refl

pub loose_below : (v : ℕ) (ks : List ℕ) → loose_in v ks ≡ not (all_below v ks)
unfolding all_below
loose_below v [] = refl
loose_below v (k ∷ ks) = rw (not-below v k, loose_below v ks) (go (ltb k v) (all_below v ks))
  where
    go : (s t : Bool) → (not s || not t) ≡ not (s && t)
    go true t = refl
    go false t = refl

-- ---- counts that are multiples of 3
threes : (n : ℕ) (ks : List ℕ) → ragged n ks ≡ false → (3 * (n / 3) ≡ n) × (3 * (length ks / 3) ≡ length ks)
threes n ks = go (eqb (n % 3) 0) refl (eqb (length ks % 3) 0) refl
  where
    go : (s : Bool) → eqb (n % 3) 0 ≡ s → (t : Bool) → eqb (length ks % 3) 0 ≡ t → (not s || not t) ≡ false
        → (3 * (n / 3) ≡ n) × (3 * (length ks / 3) ≡ length ks)
    go true d true e h =
        let x = eqb-true (n % 3) 0 d in let y = eqb-true (length ks % 3) 0 e in (omega arith, omega arith)
    go true d false e h = absurd (true≢false h)
    go false d t e h = absurd (true≢false h)

-- ---- row n, beside the check's outcome c
pub record Row (n : ℕ) (c : Checked) : Type 0 where
  pub none : n ≡ 0 → c ≡ passed
  pub some : 0 < n → (fs : List Float) (ws : List ℕ) (good : After) → guarded c fs ws good ≡ after (refused_by n) fs ws

pub row : (q : ℕ) (xs : List Float) (ks : List ℕ) (a b : ℕ) → Row (open_row q xs ks a b) (open_check q (length xs) ks a b)
unfolding open_row open_check mesh_check
row q xs ks a b = at (ragged n ks) refl
  where
    n : ℕ
    n = length xs

    enough : Bool
    enough = leb (coords_from + n) a && leb (corners_from q + length ks) b

    short : Bool
    short = ltb a (1761 + 3 * (n / 3)) || ltb b (2 + 32 * q + 3 * (length ks / 3))

    short-not : ragged n ks ≡ false → short ≡ not enough
    short-not h =
        let t = threes n ks h in
        let e : 1761 + 3 * (n / 3) ≡ coords_from + n = omega (arith, t.0) in
        let f : 2 + 32 * q + 3 * (length ks / 3) ≡ corners_from q + length ks = omega (arith, t.1) in
        rw (e, f, not-below (coords_from + n) a, not-below (corners_from q + length ks) b)
        (either (ltb a (coords_from + n)) (ltb b (corners_from q + length ks)))

    cases : (y z w : Bool) → Row (cond y 2 (cond (not z) 3 (cond (not w) 4 0)))
        (result_and (cond y (Err Oversize) (cond z passed (Err LooseCorner))) (cond w passed (Err ShortStore)))
    cases true z w = record { none = λ e. absurd (omega arith); some = λ h fs ws g. refl }
    cases false false w = record { none = λ e. absurd (omega arith); some = λ h fs ws g. refl }
    cases false true false = record { none = λ e. absurd (omega arith); some = λ h fs ws g. refl }
    cases false true true = record { none = λ e. refl; some = λ h fs ws g. absurd (omega arith) }

    at : (x : Bool) → ragged n ks ≡ x
        → Row (cond x 1 (cond (oversize n ks) 2 (cond (loose_in (n / 3) ks) 3 (cond short 4 0))))
        (result_and
        (cond x (Err Ragged)
        (cond (oversize n ks) (Err Oversize) (cond (all_below (n / 3) ks) passed (Err LooseCorner))))
        (cond enough passed (Err ShortStore)))
    at true e = record { none = λ z. absurd (omega arith); some = λ h fs ws g. refl }
    at false e = rw (loose_below (n / 3) ks, short-not e) (cases (oversize n ks) (all_below (n / 3) ks) enough)
