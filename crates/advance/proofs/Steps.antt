-- A run of steps at one place. Assumes nothing.
use mathlib.Core.Path.{◌≡◌, refl, sym, ap, subst, ◌∙◌}
use mathlib.Core.Bool.{Bool, true, false, ◌&&◌}
use mathlib.Core.List.{List}
use Prim.Native.Nat.{ℕ, zero, suc, ◌+◌, ◌*◌, ◌-◌, ◌≤◌, ◌<◌}
use native.Mathlib.Nat.{add-zero, sub-zero}
use native.Mathlib.Omega.{arith}
use lib.Dec.{ltb, eqb}
use lib.Ieee.{Float, nan}
use lib.ListN.{length, get_or, set, length-set}
use lib.Seq.{get_or-set_same, get_or-set_other, set-set, set-get_or}
use borrow.Author.Tests.{lt-ltb, le-ltb, ltb-true, ltb-false, eq-eqb, ne_eqb}
use Rattle.base.specs.Loops.{times, iterate}
use Rattle.base.specs.LoopLaws.{times-suc, iterate-add}
use Rattle.mesh.specs.declared.vectors.V3.{V3}
use Rattle.mesh.specs.declared.triangles.Triangle.{Triangle}
use Rattle.volume.specs.Volume.{face_step, volume_from}
use Rattle.layout.specs.Layout.{centre_at, coords_from}
use Rattle.advance.specs.Steps.{Work, work, one_face}

module _ (t : ℕ → Triangle) (c : V3) (m base p : ℕ) where
  -- what k faces of one piece, from d on, leave in the floats
  abbrev pub chunked : List Float → ℕ → ℕ → ℕ → List Float
  chunked fs n d k =
      set fs (base + 3 * n + 2)
      (times (face_step t c (get_or fs (base + 3 * n) nan)) k d (get_or fs (base + 3 * n + 2) nan))

  -- k steps in one piece, none of them its last
  pub chunk_more : (fs : List Float) (n d b : ℕ) → n < p → base + 3 * n + 2 < length fs → (k : ℕ) → d + k < m → k ≤ b
      → iterate (one_face t c m base p) k (work fs n d b) ≡ work (chunked fs n d k) n (d + k) (b - k)
  unfolding times one_face
  chunk_more fs n d b hf hl zero hk hn = simp (set-get_or, add-zero, sub-zero)
  chunk_more fs n d b hf hl (suc k) hk hn =
      let at = base + 3 * n + 2 in
      let g = face_step t c (get_or fs (base + 3 * n) nan) in
      let v = times g k d (get_or fs at nan) in
      let x : ltb 0 (b - k) ≡ true = lt-ltb 0 (b - k) (omega arith) in
      let q : eqb (d + k + 1) m ≡ false = ne_eqb (d + k + 1) m (omega arith) in
      let y : d + k + 1 ≡ d + suc k = omega arith in
      let e : b - k - 1 ≡ b - suc k = omega arith in
      rw (chunk_more fs n d b hf hl k (omega arith) (omega arith), lt-ltb n p hf, x, q)
      (rw (get_or-set_same fs at v nan hl, get_or-set_other fs at (base + 3 * n) v nan (omega arith), set-set, y, e)
      (ap (λ (z : Float). work (set fs at z) n (d + suc k) (b - suc k)) (sym (times-suc g k d (get_or fs at nan)))))

  -- the same where the last of them ends the piece
  pub chunk_end : (fs : List Float) (n d b : ℕ) → n < p → base + 3 * n + 2 < length fs → (k : ℕ) → d + suc k ≡ m
      → suc k ≤ b
      → iterate (one_face t c m base p) (suc k) (work fs n d b) ≡ work (chunked fs n d (suc k)) (n + 1) 0 (b - suc k)
  unfolding one_face
  chunk_end fs n d b hf hl k hk hn =
      let at = base + 3 * n + 2 in
      let g = face_step t c (get_or fs (base + 3 * n) nan) in
      let v = times g k d (get_or fs at nan) in
      let x : ltb 0 (b - k) ≡ true = lt-ltb 0 (b - k) (omega arith) in
      let q : eqb (d + k + 1) m ≡ true = eq-eqb (d + k + 1) m (omega arith) in
      let e : b - k - 1 ≡ b - suc k = omega arith in
      rw (chunk_more fs n d b hf hl k (omega arith) (omega arith), lt-ltb n p hf, x, q)
      (rw (get_or-set_same fs at v nan hl, get_or-set_other fs at (base + 3 * n) v nan (omega arith), set-set, e)
      (ap (λ (z : Float). work (set fs at z) (n + 1) 0 (b - suc k)) (sym (times-suc g k d (get_or fs at nan)))))

  -- a place that is finished, or no step left: nothing happens
  pub idle : (k : ℕ) (r : Work) → ltb r.finished p && ltb 0 r.budget ≡ false
      → iterate (one_face t c m base p) k r ≡ r
  unfolding one_face
  idle zero r e = refl
  idle (suc k) r e = rw (idle k r e, e) refl

-- ---- up to b steps at a place, no further than the end of its current piece
module _ (t : ℕ → Triangle) (c : V3) (m base : ℕ) (fs : List Float) (n d b : ℕ) (h : d < m)
    (hl : base + 3 * n + 2 < length fs) where
  abbrev up_to : Work
  up_to = iterate (one_face t c m base (n + 1)) b (work fs n d b)

  -- its end is reached
  pub piece_end : (k : ℕ) → k ≡ m - d → k ≤ b → up_to ≡ work (chunked t c m base (n + 1) fs n d k) (n + 1) 0 (b - k)
  piece_end zero e hk = absurd (omega arith)
  piece_end (suc k) e hk =
      let q : b ≡ suc k + (b - suc k) = omega arith in
      let f = one_face t c m base (n + 1) in
      ap (λ (j : ℕ). iterate f j (work fs n d b)) q ∙ (iterate-add f (suc k) (b - suc k) (work fs n d b)
      ∙ (ap (iterate f (b - suc k)) (chunk_end t c m base (n + 1) fs n d b (omega arith) hl k (omega arith) hk)
      ∙ idle t c m base (n + 1) (b - suc k) _ (rw (le-ltb (n + 1) (n + 1) (omega arith)) refl)))

  -- the steps end before it
  pub piece_more : (k : ℕ) → k ≡ b → d + k < m → up_to ≡ work (chunked t c m base (n + 1) fs n d k) n (d + k) (b - k)
  piece_more k e hk =
      ap (λ (j : ℕ). iterate (one_face t c m base (n + 1)) j (work fs n d b)) (sym e)
      ∙ chunk_more t c m base (n + 1) fs n d b (omega arith) hl k hk (omega arith)

-- what `chunk` leaves
pub left_chunk : (t : ℕ → Triangle) (f f' : List Float) (ms : ℕ) (c : V3) (base n d k : ℕ)
    → f'
    ≡ set f (base + 3 * n + 2)
    (volume_from t c (get_or f (base + 3 * n) nan) d (d + k) (get_or f (base + 3 * n + 2) nan))
    → f' ≡ chunked t c ms base (n + 1) f n d k
unfolding volume_from
left_chunk t f f' ms c base n d k r = let e : d + k - d ≡ k = omega arith in rw e at r

-- ---- the loop over a place's pieces
module _ (t : ℕ → Triangle) (f₀ : List Float) (ms i p n₀ d₀ b₀ : ℕ) where
  abbrev pub stepHere : Work → Work
  stepHere = one_face t (centre_at f₀ i) ms (225 + 48 * i) p

  -- where it stands
  pub record Going (f : List Float) (n d b : ℕ) : Type 0 where
    pub long : length f ≡ length f₀
    pub fits : n ≤ p
    pub part : n < p → d < ms
    pub low : d ≤ ms
    pub spent : b ≤ b₀
    pub state : work f n d b ≡ iterate stepHere (b₀ - b) (work f₀ n₀ d₀ b₀)

  later : (k b : ℕ) (f f' : List Float) (n d n' d' : ℕ) → k ≤ b → b ≤ b₀
      → work f n d b ≡ iterate stepHere (b₀ - b) (work f₀ n₀ d₀ b₀)
      → iterate stepHere k (work f n d b) ≡ work f' n' d' (b - k)
      → work f' n' d' (b - k) ≡ iterate stepHere (b₀ - (b - k)) (work f₀ n₀ d₀ b₀)
  later k b f f' n d n' d' hk hb s t =
      let e : b₀ - (b - k) ≡ b₀ - b + k = omega arith in
      sym t
      ∙ (ap (iterate stepHere k) s
      ∙ (sym (iterate-add stepHere (b₀ - b) k (work f₀ n₀ d₀ b₀))
      ∙ ap (λ (j : ℕ). iterate stepHere j (work f₀ n₀ d₀ b₀)) (sym e)))

  module _ (hf : coords_from ≤ length f₀) (hi : i < 32) (hp : p ≤ 16) (f : List Float) (n d b : ℕ) (g : Going f n d b)
      (h : n < p) (hb : 0 < b) where
    abbrev next : ℕ → List Float
    next k = chunked t (centre_at f₀ i) ms (225 + 48 * i) p f n d k

    -- a later state, nearer to the end
    abbrev Onward : Work → Type 0
    Onward r = Going r.floats r.finished r.done r.budget × (r.budget + p - r.finished < b + p - n)

    turn_end : (k : ℕ) → k ≡ ms - d → k ≤ b → Onward (work (next k) (n + 1) 0 (b - k))
    turn_end zero e q = let z = g.part h in absurd (omega arith)
    turn_end (suc k) e q =
        let z = g.part h in
        let l = g.long in (
          record {
            long = length-set f _ _ ∙ l;
            fits = omega arith;
            part = λ _. omega arith;
            low = omega arith;
            spent = omega (arith, g.spent);
            state =
                later (suc k) b f (next (suc k)) n d (n + 1) 0 (omega arith) g.spent g.state
                (chunk_end _ _ _ _ _ f n d b h (omega arith) k (omega arith) (omega arith));
          },
          omega arith,
        )

    turn_more : (k : ℕ) → k ≡ b → d + k < ms → Onward (work (next k) n (d + k) (b - k))
    turn_more k e q =
        let l = g.long in (
          record {
            long = length-set f _ _ ∙ l;
            fits = omega arith;
            part = λ _. omega arith;
            low = omega arith;
            spent = omega (arith, g.spent);
            state =
                later k b f (next k) n d n (d + k) (omega arith) g.spent g.state
                (chunk_more _ _ _ _ _ f n d b h (omega arith) k (omega arith) (omega arith));
          },
          omega arith,
        )

    -- what `run_piece` leaves
    pub turn : (r : Work)
        → r ≡ iterate (one_face t (centre_at f₀ i) ms (225 + 48 * i) (n + 1)) b (work f n d b)
        → Onward r
    turn r q = go (ltb b (ms - d)) refl
      where
        z : d < ms
        z = g.part h

        l : 225 + 48 * i + 3 * n + 2 < length f
        l = rw g.long (omega arith)

        go : (x : Bool) → ltb b (ms - d) ≡ x → Onward r
        go true u =
            let v = ltb-true b (ms - d) u in
            subst Onward (sym (q ∙ piece_more t (centre_at f₀ i) ms (225 + 48 * i) f n d b z l b refl (omega arith)))
            (turn_more b refl (omega arith))
        go false u =
            let v = ltb-false b (ms - d) u in
            subst Onward (sym (q ∙ piece_end t (centre_at f₀ i) ms (225 + 48 * i) f n d b z l (ms - d) refl v))
            (turn_end (ms - d) refl v)

  -- it ends where no step is left, or no piece
  pub stopped : (f : List Float) (n d b : ℕ) → Going f n d b → ltb n p && ltb 0 b ≡ false
      → work f n d b ≡ iterate stepHere b₀ (work f₀ n₀ d₀ b₀)
  stopped f n d b g e =
      let q : b₀ - b + b ≡ b₀ = omega (arith, g.spent) in
      sym (idle _ _ _ _ _ b (work f n d b) e) ∙ (ap (iterate stepHere b) g.state
      ∙ (sym (iterate-add stepHere (b₀ - b) b (work f₀ n₀ d₀ b₀))
      ∙ ap (λ (j : ℕ). iterate stepHere j (work f₀ n₀ d₀ b₀)) q))
