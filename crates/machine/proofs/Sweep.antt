-- Steps at one place and over all places: the store's and the machine's. Assumes nothing.
use mathlib.Core.Path.{◌≡◌, refl, sym, ap, ◌∙◌}
use mathlib.Core.List.{List, [], ◌∷◌, ◌++◌, append-nil, append_assoc}
use mathlib.Core.Bool.{Bool, true, false, cond}
use Prim.Native.Nat.{ℕ, zero, suc, ◌+◌, ◌*◌, ◌-◌, ◌/◌, ◌%◌, ◌≤◌, ◌<◌, min}
use native.Mathlib.Nat.{le_refl, mul-zero, mul_comm, mul-sub, div-add-mod'}
use borrow.Author.Tests.{eqb-true, eqb-false}
use native.Mathlib.Omega.{arith}
use lib.ListN.{length, take, drop, get_or, set, length-append, length-drop, drop_of_length-le}
use lib.Seq.{set-get_or, take-suc, drop-cons, take_all, set_at, get_or_at, length-take-le}
use lib.Dec.{eqb}
use lib.Ieee.{Float}
use Rattle.base.specs.Loops.{iterate}
use Rattle.base.specs.LoopLaws.{iterate-inner}
use Rattle.kernel.specs.Field.{centre_of}
use Rattle.kernel.specs.declared.kernel.Kernel.{Kernel}
use Rattle.pieces.specs.declared.pieces.Pieces.{Pieces}
use Rattle.layout.specs.Layout.{centre_at}
use Rattle.advance.specs.Steps.{work, Standing, standing, place_work, stored, places_run}
use Rattle.layout.specs.Left.{left_at, left_of}
use Rattle.advance.proofs.Steps.{idle}
use Rattle.machine.specs.Machine.{Mesh, Provenance, Place, empty, full, need, left_place, left_sum, adv, bump}
use Rattle.machine.specs.Holding.{triangles, pieces_finished, place_row, words_of}
use Rattle.machine.specs.Valid.{Within, Valid}
use Rattle.machine.proofs.Rows.{Width}
use Rattle.machine.proofs.Held.{get7, status_held, finished_held, done_held, two_words}
use Rattle.machine.proofs.Step.{run_steps}
use Rattle.machine.proofs.Sixteen.{laid_out_lem}

-- n steps, the first places first
abbrev pub spread : Mesh → ℕ → List Place → List Place
spread m n [] = []
spread m n (s ∷ ss) = adv (min n (left_place m s)) s ∷ spread m (n - left_place m s) ss

module _ (wd : ℕ) (fm : Width wd) where
  module _ (m : Mesh) (ss : List Place) (hs : length ss ≡ 32) (xs : List Float) (ys : List ℕ) (i : ℕ) (h : i < 32) where
    pub centre_held : (k : Kernel) (fit : Pieces) (o : Provenance) (p l : ℕ) → get_or ss i empty ≡ full k fit o p l
        → centre_at (laid_out_lem m ss xs) i ≡ centre_of k
    unfolding centre_of
    centre_held k fit o p l e =
        let z : 1 + 7 * i ≡ 1 + (7 * i + 0) = omega arith in
        let a : 2 + 7 * i ≡ 1 + (7 * i + 1) = omega arith in
        let b : 3 + 7 * i ≡ 1 + (7 * i + 2) = omega arith in
        rw (
          a,
          b,
          z,
          get7 wd fm m ss hs xs i h 0 (omega arith),
          get7 wd fm m ss hs xs i h 1 (omega arith),
          get7 wd fm m ss hs xs i h 2 (omega arith),
          e,
        ) refl

    abbrev spent : ℕ → Standing
    spent n =
        stored wd (words_of wd m ss ys) i
        (place_work wd (triangles m) m.faces i (standing (laid_out_lem m ss xs) (words_of wd m ss ys) n))

    abbrev moved : ℕ → Place → Standing
    moved n s =
        standing (laid_out_lem m (set ss i (adv (min n (left_place m s)) s)) xs)
        (words_of wd m (set ss i (adv (min n (left_place m s)) s)) ys) (n - left_place m s)

    place : (n : ℕ) (s : Place) → get_or ss i empty ≡ s → Within m s → spent n ≡ moved n s
    unfolding place_work
    place n empty e w =
        let z : set ss i empty ≡ ss = ap (set ss i) (sym e) ∙ set-get_or ss i empty in
        let d : n - 0 ≡ n = omega arith in
        rw (
          status_held wd fm m ss hs ys i h,
          finished_held wd fm m ss hs ys i h,
          done_held wd fm m ss hs ys i h,
          e,
          idle (triangles m) (centre_at (laid_out_lem m ss xs) i) m.faces (225 + 48 * i) 0 n (work (laid_out_lem m ss xs) 0 0 n)
              refl,
          two_words wd fm m ss hs ys i h empty 0 0 (rw e refl),
          d,
          z,
        ) refl
    place n (full k fit o p l) e w =
        let rest = need m fit - p in
        let u = min n rest in
        let d : n - u ≡ n - rest = omega arith in
        let sn : 1 + fit.count - 1 ≡ fit.count = omega arith in
        rw (
          status_held wd fm m ss hs ys i h,
          finished_held wd fm m ss hs ys i h,
          done_held wd fm m ss hs ys i h,
          centre_held k fit o p l e,
          e,
          sn,
          run_steps wd fm m ss hs xs i h k fit o p l e w.few w.steps n n (le_refl n),
          two_words wd fm m ss hs ys i h (full k fit o (p + u) l) (pieces_finished m fit (p + u)) ((p + u) % m.faces)
              (rw e refl),
          d,
        ) refl

    pub place_held : (n : ℕ) → Within m (get_or ss i empty) → spent n ≡ moved n (get_or ss i empty)
    place_held n w = place n (get_or ss i empty) refl w

  module _ (m : Mesh) where
    pub spread-length : (n : ℕ) (l : List Place) → length (spread m n l) ≡ length l
    spread-length n [] = refl
    spread-length n (s ∷ l) = ap suc (spread-length (n - left_place m s) l)

    spread-snoc : (n : ℕ) (l : List Place) (s : Place)
        → spread m n (l ++ (s ∷ [])) ≡ spread m n l ++ (adv (min (n - left_sum m l) (left_place m s)) s ∷ [])
    spread-snoc n [] s = let e : n - 0 ≡ n = omega arith in rw e refl
    spread-snoc n (x ∷ l) s =
        let e : n - left_place m x - left_sum m l ≡ n - (left_place m x + left_sum m l) = omega arith in
        rw (spread-snoc (n - left_place m x) l s, e) refl

    pub left_snoc : (l : List Place) (s : Place) → left_sum m (l ++ (s ∷ [])) ≡ left_sum m l + left_place m s
    left_snoc [] s = omega arith
    left_snoc (x ∷ l) s = omega (arith, left_snoc l s)

    module _ (ss : List Place) (v : Valid m ss) (xs : List Float) (ys : List ℕ) (n : ℕ) where
      abbrev prefix : ℕ → List Place
      prefix k = spread m n (take k ss) ++ drop k ss

      abbrev swept : ℕ → Standing
      swept k = standing (laid_out_lem m (prefix k) xs) (words_of wd m (prefix k) ys) (n - left_sum m (take k ss))

      prefix-split : (k : ℕ) → k < 32 → prefix k ≡ spread m n (take k ss) ++ (get_or ss k empty ∷ drop (suc k) ss)
      prefix-split k h = ap (λ (t : List Place). spread m n (take k ss) ++ t) (drop-cons ss k empty (rw v.places h))

      head-length : (k : ℕ) → k ≤ 32 → length (spread m n (take k ss)) ≡ k
      head-length k h = spread-length n (take k ss) ∙ length-take-le k ss (rw v.places h)

      prefix-length : (k : ℕ) → k < 32 → length (prefix k) ≡ 32
      prefix-length k h =
          ap length (prefix-split k h)
          ∙ (length-append (spread m n (take k ss)) (get_or ss k empty ∷ drop (suc k) ss)
          ∙ rw (head-length k (omega arith), length-drop (suc k) ss, v.places) (omega arith))

      prefix-next : (k : ℕ) → k < 32
          → set (prefix k) k (adv (min (n - left_sum m (take k ss)) (left_place m (get_or ss k empty))) (get_or ss k empty))
          ≡ prefix (suc k)
      prefix-next k h =
          let s = get_or ss k empty in
          let a = adv (min (n - left_sum m (take k ss)) (left_place m s)) s in
          rw (
            prefix-split k h,
            set_at (spread m n (take k ss)) s (drop (suc k) ss) a k (head-length k (omega arith)),
            take-suc ss k empty (rw v.places h),
            spread-snoc n (take k ss) s,
            append_assoc,
          ) refl

      pub run_held : (k : ℕ) → k ≤ 32
          → places_run wd (triangles m) m.faces k (standing (laid_out_lem m ss xs) (words_of wd m ss ys) n) ≡ swept k
      unfolding places_run
      run_held zero h = let e : n - 0 ≡ n = omega arith in rw e refl
      run_held (suc k) h =
          let s = get_or ss k empty in
          let g : get_or (prefix k) k empty ≡ s
          = ap (λ (t : List Place). get_or t k empty) (prefix-split k h)
          ∙ get_or_at (spread m n (take k ss)) s (drop (suc k) ss) empty k (head-length k (omega arith)) in
          let q : n - left_sum m (take k ss) - left_place m s ≡ n - left_sum m (take (suc k) ss)
          = rw (take-suc ss k empty (rw v.places h), left_snoc (take k ss) s) (omega arith) in
          rw (run_held k (omega arith))
          (place_held m (prefix k) (prefix-length k h) xs ys k h (n - left_sum m (take k ss)) (rw g (v.within k))
          ∙ rw (g, prefix-next k h, q) refl)

      pub all_held : places_run wd (triangles m) m.faces 32 (standing (laid_out_lem m ss xs) (words_of wd m ss ys) n)
          ≡ standing (laid_out_lem m (spread m n ss) xs) (words_of wd m (spread m n ss) ys) (n - left_sum m ss)
      all_held =
          let t : take 32 ss ≡ ss = take_all 32 ss (rw v.places (omega arith)) in
          let d : drop 32 ss ≡ [] = drop_of_length-le ss {i = 32} (rw v.places (omega arith)) in
          run_held 32 (omega arith) ∙ rw (t, d, append-nil) refl

  -- ---- the work left
  place-left : (n f p : ℕ) → p ≤ n * f → (1 + n - 1 - cond (eqb f 0) n (p / f)) * f - p % f ≡ n * f - p
  place-left n f p h = go (eqb f 0) refl
    where
      go : (b : Bool) → eqb f 0 ≡ b → (1 + n - 1 - cond b n (p / f)) * f - p % f ≡ n * f - p
      go true e = let z : f ≡ 0 = eqb-true f 0 e in rw (z, mul-zero, mul-zero) (omega arith)
      go false e =
          let a : 1 + n - 1 - p / f ≡ n - p / f = omega arith in
          let b : (n - p / f) * f ≡ n * f - p / f * f
          = mul_comm (n - p / f) f ∙ (mul-sub f n (p / f) ∙ rw (mul_comm f n, mul_comm f (p / f)) refl) in
          rw (a, b) (omega (arith, div-add-mod' p f))

  pub word_left : (m : Mesh) (s : Place) → Within m s
      → (get_or (place_row wd m s) 0 0 - 1 - get_or (place_row wd m s) 1 0) * m.faces - get_or (place_row wd m s) 2 0
      ≡ left_place m s
  word_left m empty h = let e : 0 - 1 - 0 ≡ 0 = omega arith in rw e (omega arith)
  word_left m (full k fit o p l) h = place-left fit.count m.faces p h.steps

  module _ (m : Mesh) (ss : List Place) (v : Valid m ss) (ys : List ℕ) where
    -- at one place
    pub left_at_lem : (k : ℕ) → k < 32 → left_at wd (words_of wd m ss ys) m.faces k ≡ left_place m (get_or ss k empty)
    left_at_lem k h =
        rw (
          status_held wd fm m ss v.places ys k h,
          finished_held wd fm m ss v.places ys k h,
          done_held wd fm m ss v.places ys k h,
        )
        (word_left m (get_or ss k empty) (v.within k))

    left-to : (k : ℕ) → k ≤ 32 → left_of wd (words_of wd m ss ys) m.faces k ≡ left_sum m (take k ss)
    unfolding left_of
    left-to zero h = refl
    left-to (suc k) h =
        rw (
          left-to k (omega arith),
          left_at_lem k h,
          take-suc ss k empty (rw v.places h),
          left_snoc m (take k ss) (get_or ss k empty),
        ) refl

    pub left-held : left_of wd (words_of wd m ss ys) m.faces 32 ≡ left_sum m ss
    left-held = left-to 32 (omega arith) ∙ ap (left_sum m) (take_all 32 ss (rw v.places (omega arith)))

-- ---- one step at a time, the lowest unfinished place first
shift : (p n l : ℕ) → p + min (suc n) (suc l) ≡ p + 1 + min n l
shift p n l = omega arith

sub-min : (n x : ℕ) → x - min n x ≡ x - n
sub-min n x = omega arith

sub-add : (w p x : ℕ) → w - (p + x) ≡ w - p - x
sub-add w p x = omega arith

both_left : (n a s : ℕ) → a - n + (s - (n - a)) ≡ a + s - n
both_left n a s = omega arith

module _ (m : Mesh) where
  spread_none : (n : ℕ) (ss : List Place) → min n (left_sum m ss) ≡ 0 → spread m n ss ≡ ss
  spread_none n [] e = refl
  spread_none n (empty ∷ ss) e = ap (λ (t : List Place). empty ∷ t) (spread_none (n - 0) ss (omega arith))
  spread_none n (full k fit o p l ∷ ss) e =
      let a : p + min n (need m fit - p) ≡ p = omega arith in
      rw a (ap (λ (t : List Place). full k fit o p l ∷ t) (spread_none (n - (need m fit - p)) ss (omega arith)))

  bump-spread : (n : ℕ) (ss : List Place) → 0 < left_sum m ss
      → (spread m (suc n) ss ≡ spread m n (bump m ss)) × (left_sum m (bump m ss) + 1 ≡ left_sum m ss)
  bump-spread n [] h = absurd (omega arith)
  bump-spread n (empty ∷ ss) h =
      let i = bump-spread n ss (omega arith) in
      let a : suc n - 0 ≡ suc n = omega arith in
      let b : n - 0 ≡ n = omega arith in
      (rw (a, b) (ap (λ (t : List Place). empty ∷ t) i.0), omega (arith, i.1))
  bump-spread n (full k fit o p l ∷ ss) h =
      go (eqb (need m fit - p) 0) refl (λ (z : 0 < left_sum m ss). bump-spread n ss z)
    where
      go : (b : Bool) → eqb (need m fit - p) 0 ≡ b
          →
          (0 < left_sum m ss
          → (spread m (suc n) ss ≡ spread m n (bump m ss)) × (left_sum m (bump m ss) + 1 ≡ left_sum m ss))
          →
          (spread m (suc n) (full k fit o p l ∷ ss)
          ≡ spread m n (cond b (full k fit o p l ∷ bump m ss) (full k fit o (p + 1) l ∷ ss)))
          × (left_sum m (cond b (full k fit o p l ∷ bump m ss) (full k fit o (p + 1) l ∷ ss)) + 1
          ≡ left_sum m (full k fit o p l ∷ ss))
      go true e ih =
          let z : need m fit - p ≡ 0 = eqb-true (need m fit - p) 0 e in
          let i = ih (omega arith) in
          let a : suc n - (need m fit - p) ≡ suc n = omega arith in
          let b : n - (need m fit - p) ≡ n = omega arith in
          let x : min (suc n) (need m fit - p) ≡ min n (need m fit - p) = omega arith in (
            rw (a, b, x) (ap (λ (t : List Place). full k fit o (p + min n (need m fit - p)) l ∷ t) i.0),
            omega (arith, i.1),
          )
      go false e ih =
          let z = eqb-false (need m fit - p) 0 e in
          let a : suc n - (need m fit - p) ≡ n - (need m fit - (p + 1)) = omega arith in
          let y : need m fit - p ≡ suc (need m fit - (p + 1)) = omega arith in
          let x : p + min (suc n) (need m fit - p) ≡ p + 1 + min n (need m fit - (p + 1))
          = rw y (shift p n (need m fit - (p + 1))) in
          (rw (a, x) refl, rw y (omega arith))

  pub lowest_first : (t n : ℕ) (ss : List Place) → t ≡ min n (left_sum m ss) → iterate (bump m) t ss ≡ spread m n ss
  lowest_first zero n ss e = sym (spread_none n ss (sym e))
  lowest_first (suc t) zero ss e = absurd (omega arith)
  lowest_first (suc t) (suc n) ss e =
      let i = bump-spread n ss (omega arith) in
      iterate-inner (bump m) t ss ∙ (lowest_first t n (bump m ss) (omega (arith, i.1)) ∙ sym i.0)

  -- what an advance leaves
  pub left-spread : (n : ℕ) (ss : List Place) → left_sum m (spread m n ss) ≡ left_sum m ss - min n (left_sum m ss)
  left-spread n [] = omega arith
  left-spread n (empty ∷ ss) = omega (arith, left-spread (n - 0) ss)
  left-spread n (full k fit o p l ∷ ss) =
      let a = need m fit - p in
      let r = left_sum m ss in
      rw (left-spread (n - a) ss, sub-add (need m fit) p (min n a), sub-min n a, sub-min (n - a) r, sub-min n (a + r))
      (both_left n a r)

  pub within_spread : (n : ℕ) (ss : List Place) → ((i : ℕ) → Within m (get_or ss i empty)) → (i : ℕ)
      → Within m (get_or (spread m n ss) i empty)
  within_spread n [] h i = h i
  within_spread n (empty ∷ ss) h zero = h zero
  within_spread n (full k fit o p l ∷ ss) h zero =
      let z = h zero in
      record { of_kernel = z.of_kernel; few = z.few; clean = z.clean; steps = omega arith; layer = z.layer }
  within_spread n (s ∷ ss) h (suc i) = within_spread (n - left_place m s) ss (λ j. h (suc j)) i
