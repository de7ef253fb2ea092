-- An opening that is not refused leaves a store with no fault, and so does a put. Assumes nothing.
use Rattle.std.specs.Result.{result_and}
use Rattle.std.proofs.Math.Path.{◌≡◌, refl, ap}
use Rattle.std.proofs.Common.{sym, ◌∙◌, zero-add, arith, length-append}
use Rattle.std.specs.Prelude.{Bool, ◌&&◌, List, [], ◌∷◌, ◌++◌, ℕ, zero, suc, ◌+◌, ◌*◌, ◌-◌, ◌/◌, ◌≤◌, ◌<◌, ltb, eqb, Err}
use Rattle.std.specs.Prelude.{Float, length, get_or, replicate}
use Rattle.std.proofs.Math.Bool.{true, false, cond}
use Rattle.std.proofs.Math.Decide.{dec_lt}
use Rattle.std.proofs.Math.Dec.{leb}
use Rattle.std.proofs.Math.ListN.{take, drop}
use Rattle.std.proofs.lemmas.List.{length-replicate}
use Rattle.std.proofs.Math.Seq.{take-append_seam}
use borrow.Author.Tests.{lt-ltb, le-leb, eq-eqb, ne_eqb, eqb-false}
use Rattle.base.specs.Answers.{Answer, passed}
use Rattle.base.specs.Floats.{+0}
use Rattle.base.specs.declared.refusal.Refusal.TheVariants.{ShortStore, Unsound}
use Rattle.mesh.specs.Checks.{vertex_limit, face_limit, all_below}
use Rattle.kernel.specs.declared.kernel.Kernel.{Kernel}
use Rattle.pieces.specs.declared.pieces.Pieces.{Pieces}
use Rattle.pieces.specs.Pieces.{decomposed}
use Rattle.pieces.specs.FitEnd.{fit_of}
use Rattle.pieces.specs.PieceLaws.{at_most_16}
use Rattle.layout.specs.After.{after, guarded}
use Rattle.layout.specs.Runs.{write}
use Rattle.layout.specs.RunLaws.{length-write, write_before, write_at, write-past, write-rest}
use Rattle.layout.specs.Layout.{width, place_limit, piece_limit, radius_of, kernel_from, pieces_from, coords_from}
use Rattle.layout.specs.Layout.{state_from, corners_from, corners_of, verts_of, faces_of, status_of, finished_of}
use Rattle.layout.specs.Layout.{done_of, layer_limit, layer_of}
use Rattle.base.specs.Loops.{every}
use Rattle.base.specs.LoopLaws.{every_at, every_all}
use Rattle.layout.specs.Soundness.{long_enough, place_sound, layer_sound, place_sound_at, sound, store_check}
use Rattle.layout.specs.Soundness.{place_check, layer_check}
use Rattle.layout.specs.SoundLaws.{both, fine}
use Rattle.store.specs.Calls.{open_check, open_floats, open_words}
use Rattle.store.specs.OpenLaws.{open_passes}
use Rattle.store.specs.Puts.{seven, fresh, at_first, put_floats, put_words, placed_with, put_step_lem}

-- what the check finds in a store by what it has
pub passes : (fs : List Float) (ws : List ℕ) → corners_from width + 3 * faces_of ws ≤ length ws
    → coords_from + 3 * verts_of ws ≤ length fs
    → verts_of ws ≤ vertex_limit → faces_of ws ≤ face_limit
    → ((k : ℕ) → k < place_limit → place_sound_at width ws k ≡ true)
    → all_below (verts_of ws) (corners_of width ws) ≡ true → store_check width fs ws ≡ passed
unfolding store_check long_enough sound
passes fs ws a b d e p g =
    rw (
      le-leb (corners_from width + 3 * faces_of ws) (length ws) a,
      le-leb (coords_from + 3 * verts_of ws)
          (length fs) b,
      le-leb (verts_of ws) vertex_limit d,
      le-leb (faces_of ws) face_limit e,
      every_all
          (place_sound_at width ws) place_limit p,
      g,
    ) refl

-- and of a store that passes
module _ (fs : List Float) (ws : List ℕ) (h : store_check width fs ws ≡ passed) where
  is-sound : sound width ws ≡ true
  unfolding store_check
  is-sound = go (long_enough width fs ws) (sound width ws) refl h
    where
      go : (a b : Bool) → sound width ws ≡ b → cond a (cond b passed (Err Unsound)) (Err ShortStore) ≡ passed
          → sound width ws ≡ true
      go true true e t = e
      go true false e t = absurd (let z : ◌≡◌ {A = ℕ} 0 1 = cc in omega arith)
      go false b e t = absurd (let z : ◌≡◌ {A = ℕ} 0 1 = cc in omega arith)

  parts : (every (place_sound_at width ws) place_limit ≡ true) × (all_below (verts_of ws) (corners_of width ws) ≡ true)
  unfolding sound
  parts = both (every (place_sound_at width ws) place_limit) _
      (both (leb (verts_of ws) vertex_limit && leb (faces_of ws) face_limit) _ is-sound).1

  each-place : (k : ℕ) → k < place_limit → place_sound_at width ws k ≡ true
  each-place k l = every_at (place_sound_at width ws) place_limit k l parts.0

-- a place with these words
placed-sound : (ws : List ℕ) (k s n d f l : ℕ) → status_of width ws k ≡ s → finished_of width ws k ≡ n
    → done_of width ws k ≡ d → faces_of ws ≡ f → layer_of width ws k ≡ l
    → place_sound s n d f && layer_sound s l ≡ true → place_sound_at width ws k ≡ true
unfolding place_sound_at
placed-sound ws k s n d f l es en ed ef el t =
    (λ i. place_sound (es i) (en i) (ed i) (ef i) && layer_sound (es i) (el i)) ∙ t

-- ---- a put: the words of place i before its first step

fresh-sound : (count faces layer : ℕ) → count ≤ 16 → layer < layer_limit
    → place_sound (1 + count) (at_first faces count) 0 faces && layer_sound (1 + count) layer ≡ true
unfolding place_sound layer_sound at_first
fresh-sound count faces layer c l =
    let e : 1 + count - 1 ≡ count = omega arith in
    rw (le-leb (1 + count) 17 (omega arith), ne_eqb (1 + count) 0 (λ z. omega arith), e, lt-ltb layer layer_limit l)
    (go (eqb faces 0) refl)
  where
    go : (b : Bool) → eqb faces 0 ≡ b → (leb (cond b count 0) count
        && cond (eqb (cond b count 0) count) true (ltb 0 faces)) && true ≡ true
    go true z = rw (le-leb count count (omega arith), eq-eqb count count refl) refl
    go false z = let n : faces ≡ 0 → ⊥ = eqb-false faces 0 z in rw
        (le-leb 0 count (omega arith), lt-ltb 0 faces (omega arith)) (same (eqb 0 count))
      where
        same : (b : Bool) → (true && cond b true true) && true ≡ true
        same true = refl
        same false = refl

module _ (fs fs' : List Float) (ws : List ℕ) (i s n layer : ℕ) (h : store_check width fs ws ≡ passed)
    (long : length fs' ≡ length fs) (hi : i < place_limit)
    (good : place_sound s n 0 (faces_of ws) && layer_sound s layer ≡ true) where
  abbrev VS : List ℕ
  VS = s ∷ n ∷ 0 ∷ layer ∷ []

  abbrev WS : List ℕ
  WS = write ws (state_from width i) VS

  room : state_from width i + 4 ≤ 130
  room = omega arith

  words-room : 130 + 3 * faces_of ws ≤ length ws
  words-room = (fine width fs ws h).mesh.words

  verts-stay : verts_of WS ≡ verts_of ws
  verts-stay = write_before ws (state_from width i) VS 0 0 (omega (arith, room, words-room)) (omega arith)

  faces-stay : faces_of WS ≡ faces_of ws
  faces-stay = write_before ws (state_from width i) VS 1 0 (omega (arith, room, words-room)) (omega arith)

  long_words : length WS ≡ length ws
  long_words = length-write ws (state_from width i) VS (omega (arith, room, words-room))

  corners-stay : corners_of width WS ≡ corners_of width ws
  corners-stay = λ j. take (3 * faces-stay j)
      (write-rest ws (state_from width i) VS 130 (omega (arith, room, words-room)) (omega (arith, room)) j)

  before : (t : ℕ) → t < state_from width i → get_or WS t 0 ≡ get_or ws t 0
  before t l = write_before ws (state_from width i) VS t 0 (omega (arith, room, words-room)) l

  past : (t : ℕ) → state_from width i + 4 ≤ t → get_or WS t 0 ≡ get_or ws t 0
  past t l = write-past ws (state_from width i) VS t 0 (omega (arith, room, words-room)) l

  within : (t j : ℕ) → t ≡ state_from width i + j → j < 4 → get_or WS t 0 ≡ get_or VS j 0
  within t j e l = rw e (write_at ws (state_from width i) VS j 0 (omega (arith, room, words-room)) l)

  as_before : (k : ℕ) → k < place_limit → ((t : ℕ) → 2 + 4 * k ≤ t → t ≤ 5 + 4 * k → get_or WS t 0 ≡ get_or ws t 0)
      → place_sound_at width WS k ≡ true
  unfolding place_sound_at
  as_before k l e =
      placed-sound WS k (status_of width ws k) (finished_of width ws k) (done_of width ws k) (faces_of ws)
      (layer_of width ws k)
      (e (2 + 4 * k) (omega arith) (omega arith)) (e (3 + 4 * k) (omega arith) (omega arith))
      (e (4 + 4 * k) (omega arith) (omega arith)) faces-stay
      (e (5 + 4 * k) (omega arith) (omega arith)) (each-place fs ws h k l)

  each : (k : ℕ) → k < place_limit → place_sound_at width WS k ≡ true
  each k l = go (dec_lt k i) (dec_lt i k)
    where
      go : Dec (k < i) → Dec (i < k) → place_sound_at width WS k ≡ true
      go (yes a) b = as_before k l (λ t x y. before t (omega arith))
      go (no a) (yes b) = as_before k l (λ t x y. past t (omega arith))
      go (no a) (no b) =
          let z : k ≡ i = omega arith in
          placed-sound WS k s n 0 (faces_of ws) layer
          (within (2 + 4 * k) 0 (omega arith) (omega arith)) (within (3 + 4 * k) 1 (omega arith) (omega arith))
          (within (4 + 4 * k) 2 (omega arith) (omega arith))
          faces-stay (within (5 + 4 * k) 3 (omega arith) (omega arith)) good

  rewritten : store_check width fs' (write ws (state_from width i) (s ∷ n ∷ 0 ∷ layer ∷ [])) ≡ passed
  rewritten =
      let m = (fine width fs ws h).mesh in
      passes fs' WS (omega (arith, faces-stay, long_words, words-room)) (omega (arith, verts-stay, long, m.floats))
      (omega (arith, verts-stay, m.verts)) (omega (arith, faces-stay, m.faces)) each
      ((λ j. all_below (verts-stay j) (corners-stay j)) ∙ (parts fs ws h).1)

fresh-length : (fit : Pieces) (n j : ℕ) → length (fresh fit n j) ≡ 3 * n
fresh-length fit zero j = refl
fresh-length fit (suc n) j = omega (arith, fresh-length fit n (suc j))

put_long : (fs : List Float) (i : ℕ) (k : Kernel) (fit : Pieces) → i < place_limit → coords_from ≤ length fs
    → length (put_floats fs i k fit) ≡ length fs
unfolding put_floats
put_long fs i k fit h l =
    let a = length-write fs (kernel_from i) (seven k fit.error) (omega arith) in
    length-write (write fs (kernel_from i) (seven k fit.error)) (pieces_from i) (fresh fit piece_limit 0)
    (omega (arith, a, fresh-length fit 16 0)) ∙ a

pub put_stays : (fs : List Float) (ws : List ℕ) (i : ℕ) (k : Kernel) (fit : Pieces) (layer : ℕ)
    → store_check width fs ws ≡ passed
    → i < place_limit → layer < layer_limit → fit.count ≤ 16
    → store_check width (put_floats fs i k fit) (put_words width ws i fit layer) ≡ passed
unfolding put_words
put_stays fs ws i k fit layer h hi hl hc =
    let m = (fine width fs ws h).mesh in
    rewritten fs (put_floats fs i k fit) ws i (1 + fit.count) (at_first (faces_of ws) fit.count) layer h
    (put_long fs i k fit hi (omega (arith, m.floats))) hi
    (fresh-sound fit.count (faces_of ws) layer hc hl)

-- ---- an opening: V, F, zeros, corners

zero_in : (n t : ℕ) (ks : List ℕ) → t < n → get_or (replicate n 0 ++ ks) t 0 ≡ 0
zero_in zero t ks l = absurd (omega arith)
zero_in (suc n) zero ks l = refl
zero_in (suc n) (suc t) ks l = zero_in n t ks (omega arith)

module _ (ws : List ℕ) (v f : ℕ) (ks : List ℕ) (room : corners_from width + length ks ≤ length ws) where
  abbrev OS : List ℕ
  OS = open_words width v f ks

  long-open : length OS ≡ 130 + length ks
  long-open = omega (arith, length-append (replicate 128 0) ks, length-replicate {A = ℕ} 128 0)

  zero-at : (m t : ℕ) → m < 128 → t ≡ 2 + m → get_or (write ws 0 OS) t 0 ≡ 0
  zero-at m t l e =
      let w : get_or (write ws 0 OS) t 0 ≡ get_or OS t 0 = rw zero-add at
      (write_at ws 0 OS t 0 (omega arith) (omega (arith, long-open))) in
      let d : t ≡ suc (suc m) = omega arith in
      w ∙ rw d (zero_in 128 m ks l)

  verts-open : verts_of (write ws 0 OS) ≡ v
  unfolding write
  verts-open = refl

  faces-open : faces_of (write ws 0 OS) ≡ f
  unfolding write
  faces-open = refl

  empty : (k : ℕ) → k < place_limit → place_sound_at width (write ws 0 OS) k ≡ true
  unfolding place_sound layer_sound
  empty k l =
      placed-sound (write ws 0 OS) k 0 0 0 f 0
      (zero-at (4 * k) (2 + 4 * k) (omega arith) (omega arith))
      (zero-at (4 * k + 1) (3 + 4 * k) (omega arith) (omega arith))
      (zero-at (4 * k + 2) (4 + 4 * k) (omega arith) (omega arith)) faces-open
      (zero-at (4 * k + 3) (5 + 4 * k) (omega arith) (omega arith)) refl

  corners-open : length ks ≡ 3 * f → corners_of width (write ws 0 OS) ≡ ks
  unfolding write
  corners-open ek =
      let rest = drop (length OS) (drop 0 ws) in
      ap (λ (n : ℕ). take n (ks ++ rest)) (sym ek) ∙ take-append_seam ks rest

pub open_stays : (fs : List Float) (ws : List ℕ) (r : Float) (xs : List Float) (ks : List ℕ) (v f : ℕ)
    → length xs ≡ 3 * v → length ks ≡ 3 * f
    → open_check width (length xs) ks (length fs) (length ws) ≡ passed
    → store_check width (write fs 0 (open_floats r xs)) (write ws 0 (open_words width v f ks)) ≡ passed
open_stays fs ws r xs ks v f ex ek h =
    let o = open_passes width (length xs) ks (length fs) (length ws) h in
    let y : length xs / 3 ≡ v = omega arith in
    let z : length ks / 3 ≡ f = omega arith in
    let lx : length (open_floats r xs) ≡ 1761 + length xs = omega
    (arith, length-append (replicate 1760 +0) xs, length-replicate 1760 +0) in
    let a = length-write fs 0 (open_floats r xs) (omega (arith, lx, o.floats)) in
    let b = length-write ws 0 (open_words width v f ks) (omega (arith, long-open ws v f ks o.words, o.words)) in
    let vo : verts_of (write ws 0 (open_words width v f ks)) ≡ v = verts-open ws v f ks o.words in
    let fo = faces-open ws v f ks o.words in
    passes (write fs 0 (open_floats r xs)) (write ws 0 (open_words width v f ks)) (omega (arith, b, ek, fo, o.words))
    (omega (arith, a, ex, vo, o.floats))
    (omega (arith, y, vo, o.mesh.verts)) (omega (arith, z, fo, o.mesh.faces)) (empty ws v f ks o.words)
    ((λ i. all_below (vo i) (corners-open ws v f ks o.words ek i)) ∙ (rw y at o.mesh.below))

-- ---- what a put is given, and what it leaves

module _ (fs : List Float) (ws : List ℕ) (i layer : ℕ) (h : store_check width fs ws ≡ passed) (hi : i < place_limit)
    (hl : layer < layer_limit) where
  pub put_passes : result_and (place_check width fs ws i) (layer_check layer) ≡ passed
  unfolding place_check layer_check
  put_passes = rw (h, lt-ltb i place_limit hi, lt-ltb layer layer_limit hl) refl

  pub step_stays : (k : Kernel) {r : Answer} {fs' : List Float} {ws' : List ℕ}
      → after r fs' ws' ≡ put_step_lem width fs ws i k layer → store_check width fs' ws' ≡ passed
  unfolding put_step_lem
  step_stays k {r} {fs'} {ws'} e =
      let d = decomposed k (radius_of fs) in
      let good = after (placed_with d.count (d.count * faces_of ws) (fit_of k (radius_of fs))) (put_floats fs i k d)
      (put_words width ws i d layer) in
      let p : after r fs' ws' ≡ good = e ∙ (λ j. guarded (put_passes j) fs ws good) in
      (λ j. store_check width (p j).floats (p j).words)
      ∙ put_stays fs ws i k d layer h hi hl (at_most_16 k (radius_of fs))
