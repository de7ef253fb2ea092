-- A place's floats and words written word by word. Assumes nothing.
use Rattle.base.specs.Answers.{passed}
use Rattle.std.specs.Result.{result_and}
use mathlib.Core.Path.{◌≡◌, refl, sym, ap, ◌∙◌}
use mathlib.Core.List.{List, [], ◌∷◌, ◌++◌}
use Prim.Native.Nat.{ℕ, zero, suc, ◌+◌, ◌*◌, ◌≤◌, ◌<◌}
use native.Mathlib.Nat.{add-zero, mul-le-mul}
use native.Mathlib.Numerals.{add-one}
use native.Mathlib.Omega.{arith}
use lib.Ieee.{Float}
use lib.ListN.{length}
use Rattle.base.specs.Floats.{+0}
use Rattle.layout.specs.Runs.{write}
use Rattle.layout.specs.RunLaws.{length-write, write-more, write-none}
use Rattle.layout.specs.Layout.{width}
use Rattle.layout.specs.Soundness.{place_check, layer_check}
use Rattle.layout.specs.SoundLaws.{Open, place_open, passed-both}
use Rattle.pieces.specs.Pieces.{part_at}
use Rattle.pieces.specs.PieceLaws.{at_most_16}
use Rattle.pieces.specs.declared.pieces.Pieces.{Pieces}
use Rattle.store.specs.Puts.{fresh}

fresh-length : (fit : Pieces) (n j : ℕ) → length (fresh fit n j) ≡ 3 * n
fresh-length fit zero j = refl
fresh-length fit (suc n) j = omega (arith, fresh-length fit n (suc j))

fresh-more : (fit : Pieces) (n j : ℕ)
    → fresh fit (suc n) j
    ≡ fresh fit n j ++ ((part_at fit (j + n)).sigma ∷ (part_at fit (j + n)).coefficient ∷ +0 ∷ [])
fresh-more fit zero j = rw add-zero refl
fresh-more fit (suc n) j =
    let e : j + suc n ≡ suc j + n = omega arith in
    rw e
    (ap (λ (t : List Float). (part_at fit j).sigma ∷ (part_at fit j).coefficient ∷ +0 ∷ t)
    (fresh-more fit n (suc j)))

-- j pieces stand from `at` on
pub record Filled (l : List Float) (at : ℕ) (fit : Pieces) (j : ℕ) (f : List Float) : Type 0 where
  pub within : j ≤ 16
  pub long : length f ≡ length l
  pub same : f ≡ write l at (fresh fit j 0)

pub none_filled : (l : List Float) (at : ℕ) (fit : Pieces) → Filled l at fit 0 l
none_filled l at fit = record { within = omega arith; long = refl; same = sym (write-none l at) }

pub one_filled : (l : List Float) (at : ℕ) (fit : Pieces) (j : ℕ) (f : List Float) → Filled l at fit j f → j < 16
    → at + 48 ≤ length l
    → Filled l at fit (j + 1)
    (write f (at + 3 * j) ((part_at fit j).sigma ∷ (part_at fit j).coefficient ∷ +0 ∷ []))
one_filled l at fit j f g h b =
    let s = (part_at fit j).sigma in
    let k = (part_at fit j).coefficient in
    let n = fresh-length fit j 0 in
    let z : 0 + j ≡ j = omega arith in
    let m : fresh fit (j + 1) 0 ≡ fresh fit j 0 ++ (s ∷ k ∷ +0 ∷ [])
    = ap (λ (t : ℕ). fresh fit t 0) (add-one j) ∙ (rw z at (fresh-more fit j 0)) in
    record {
      within = omega arith;
      long = length-write f (at + 3 * j) _ (omega (arith, g.long)) ∙ g.long;
      same =
          ap (λ (t : List Float). write t (at + 3 * j) (s ∷ k ∷ +0 ∷ [])) g.same
          ∙ (ap (λ (t : ℕ). write (write l at (fresh fit j 0)) (at + t) (s ∷ k ∷ +0 ∷ [])) (sym n)
          ∙ (write-more l at (fresh fit j 0) (s ∷ k ∷ +0 ∷ []) (omega arith) ∙ ap (write l at) (sym m)));
    }

-- what a put that is not refused was given
pub put_open : (fs : List Float) (ws : List ℕ) (i layer : ℕ)
    → result_and (place_check width fs ws i) (layer_check layer) ≡ passed
    → Open width fs ws i
put_open fs ws i layer e = place_open width fs ws i (passed-both (place_check width fs ws i) (layer_check layer) e).0

pub need_bound : (count faces : ℕ) → count ≤ 16 → faces ≤ 2097152 → count * faces ≤ 33554432
need_bound count faces a b = mul-le-mul a b

-- what a put needs
pub ruleset puts = (put_open, need_bound, at_most_16)
