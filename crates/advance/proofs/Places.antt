-- The loop over the places. Assumes nothing.
use mathlib.Core.Path.{◌≡◌, refl, ap, ◌∙◌}
use mathlib.Core.List.{List}
use Prim.Native.Nat.{ℕ, ◌+◌, ◌*◌, ◌-◌, ◌≤◌, ◌<◌}
use native.Mathlib.Numerals.{add-one}
use native.Mathlib.Omega.{arith}
use lib.Ieee.{Float}
use lib.ListN.{length, get_or, set, length-set}
use lib.Seq.{get_or-set_other}
use Rattle.mesh.specs.declared.triangles.Triangle.{Triangle}
use Rattle.layout.specs.Layout.{width, status_of, finished_of, done_of}
use Rattle.layout.specs.SoundLaws.{Ready, Worded}
use Rattle.advance.specs.Steps.{Standing, standing, place_work, stored, places_run}

-- ---- the loop
module _ (t : ℕ → Triangle) (f₀ : List Float) (w₀ : List ℕ) (m b₀ : ℕ) where
  abbrev runTo : ℕ → Standing
  runTo i = places_run width t m i (standing f₀ w₀ b₀)

  -- where it stands
  pub record Sweep (f : List Float) (w : List ℕ) (b i : ℕ) : Type 0 where
    pub top : i ≤ 32
    pub long_f : length f ≡ length f₀
    pub long_w : length w ≡ length w₀
    pub ahead : (j : ℕ) → i ≤ j → j < 32
        → Ready m j (status_of width w j - 1) (finished_of width w j) (done_of width w j)
    pub state : standing f w b ≡ runTo i

  pub start : Worded width w₀ m → Sweep f₀ w₀ b₀ 0
  unfolding places_run
  start e =
      record {
        top = omega arith;
        long_f = refl;
        long_w = refl;
        ahead = λ j _ h. e.place j h;
        state = refl;
      }

  pub sweep : (f f' : List Float) (w w' : List ℕ) (b b' i : ℕ) → Sweep f w b i → i < 32 → length f' ≡ length f
      → standing f' w' b' ≡ stored width w i (place_work width t m i (standing f w b))
      → Sweep f' w' b' (i + 1)
  unfolding places_run place_work
  sweep f f' w w' b b' i g hi lf e =
      let r = place_work width t m i (standing f w b) in
      let ew : w' ≡ set (set w (3 + width * i) r.finished) (4 + width * i) r.done
      = ap (λ (s : Standing). s.words) e in
      let same : (q : ℕ) → 4 + width * i < q → get_or w' q 0 ≡ get_or w q 0
      = λ q h. ap (λ (l : List ℕ). get_or l q 0) ew
      ∙ (get_or-set_other (set w (3 + width * i) r.finished) (4 + width * i) q r.done 0 (omega arith)
      ∙ get_or-set_other w (3 + width * i) q r.finished 0 (omega arith)) in
      record {
        top = omega arith;
        long_f = lf ∙ g.long_f;
        long_w = ap length ew ∙ simp length-set g.long_w;
        ahead =
            λ j h l. rw
            (same (2 + width * j) (omega arith), same (3 + width * j) (omega arith), same (4 + width * j) (omega arith))
            (g.ahead j (omega arith) l);
        state =
            rw add-one
            (e ∙ ap (λ (s : Standing). stored width s.words i (place_work width t m i s)) g.state);
      }
