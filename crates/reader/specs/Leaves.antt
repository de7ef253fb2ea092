-- 02, L10: the reader "leaves what that opening and those puts, line by line, would": what that is, field by field. The
-- mesh and the radius are the script's; a place that a put names holds the kernel and layer of the last such put, its
-- pieces and "all steps still to do"; every other place is empty. And such a store is sound. Assumes nothing.
use Rattle.base.specs.Answers.{passed}
use Rattle.std.specs.Prelude.{◌≡◌, Bool, false, ◌&&◌, cond, ℕ, ◌+◌, ◌*◌, ◌-◌, ◌/◌, ◌≤◌, ◌<◌, eqb, ltb, leb, length, get_or, take, replicate, Float}
use Rattle.std.proofs.Math.Path.{refl, ap}
use Rattle.std.proofs.Common.{sym, subst, ◌∙◌, div-add-mod', arith, length-append, length-drop, take-append-drop, get_or-take, get_or-drop, drop_at}
use Rattle.std.proofs.Math.Bool.{true}
use mathlib.Core.List.{List, [], ◌∷◌, ◌++◌}
use Rattle.std.proofs.Math.Decide.{dec_lt}
use Rattle.std.proofs.Math.ListN.{drop}
use Rattle.std.proofs.lemmas.List.{length-replicate, replicate-append-replicate, take-append-le, drop-append-le}
use Rattle.std.proofs.Math.Seq.{length-take-le, take-length, drop-append-add, take_at}
use Rattle.std.specs.Float.Ieee.{nan}
use borrow.Author.Tests.{lt-ltb, le-leb, eq-eqb, ne_eqb, eqb-true, eqb-false}
use Rattle.base.specs.Floats.{+0}
use Rattle.kernel.specs.declared.kernel.Kernel.{Kernel}
use Rattle.pieces.specs.declared.pieces.Pieces.{Pieces}
use Rattle.pieces.specs.Pieces.{decomposed}
use Rattle.pieces.specs.PieceLaws.{at_most_16}
use Rattle.layout.specs.Runs.{write}
use Rattle.layout.specs.RunLaws.{length-write, write_before, write-rest}
use Rattle.layout.specs.Layout.{width, piece_limit, layer_limit, radius_of, kernel_from, pieces_from, coords_from, state_from, corners_from, corners_of, verts_of, faces_of}
use Rattle.layout.specs.Soundness.{place_sound, layer_sound, place_sound_at, store_check}
use Rattle.store.specs.SoundStores.{passes}
use Rattle.store.specs.Calls.{open_floats, open_words}
use Rattle.store.specs.OpenLaws.{Meshes}
use Rattle.store.specs.Puts.{seven, fresh, at_first, put_floats, put_words}

-- ---- a part of a run

-- n words from `at` on
abbrev pub part : {A : Type 0} → List A → ℕ → ℕ → List A
part l at n = take n (drop at l)

module _ {A : Type 0} where
  pub part_at : (l : List A) (at n j k : ℕ) (d : A) → k ≡ at + j → j < n → get_or l k d ≡ get_or (part l at n) j d
  part_at l at n j k d e h = rw e (sym (get_or-take n (drop at l) j d h ∙ get_or-drop at l j d))

  part-front : (t r : List A) (at n : ℕ) → at + n ≤ length t → part (t ++ r) at n ≡ part t at n
  part-front t r at n h =
      ap (take n) (drop-append-le at t r (omega arith)) ∙ take-append-le n (drop at t) r (rw length-drop (omega arith))

  -- what is written, and what stands before and past it
  part_same : (l : List A) (at n : ℕ) (vs : List A) → length vs ≡ n → at ≤ length l → part (write l at vs) at n ≡ vs
  unfolding write
  part_same l at n vs e h =
      let r = drop (length vs) (drop at l) in
      ap (take n) (drop_at (take at l) (vs ++ r) at (length-take-le at l h)) ∙ take_at vs r n e

  part-other : (l : List A) (at n b : ℕ) (vs : List A) → (at < b → at + n ≤ b) → (b ≤ at → b + length vs ≤ at)
      → b ≤ length l → part (write l b vs) at n ≡ part l at n
  unfolding write
  part-other l at n b vs x y h = go (dec_lt at b)
    where
      go : Dec (at < b) → part (write l b vs) at n ≡ part l at n
      go (yes o) =
          let k = length-take-le b l h in
          let z = x o in
          part-front (take b l) (vs ++ drop (length vs) (drop b l)) at n (omega arith)
          ∙ (sym (part-front (take b l) (drop b l) at n (omega arith))
          ∙ ap (λ (t : List A). part t at n) (take-append-drop b l))
      go (no o) = ap (take n) (write-rest l b vs at h (y (omega arith)))

  -- from the run's beginning
  part-first : (l : List A) (at n : ℕ) (vs : List A) → at + n ≤ length vs → part (write l 0 vs) at n ≡ part vs at n
  unfolding write
  part-first l at n vs h = part-front vs (drop (length vs) l) at n h

  part-zeros : (m at n : ℕ) (z : A) → at + n ≤ m → part (replicate m z) at n ≡ replicate n z
  part-zeros m at n z h =
      let r = m - (at + n) in
      let e : at + (n + r) ≡ m = omega arith in
      let s : replicate m z ≡ replicate at z ++ (replicate n z ++ replicate r z)
      = ap (λ (k : ℕ). replicate k z) (sym e)
      ∙ (sym (replicate-append-replicate at (n + r) z)
      ∙ ap (λ (l : List A). replicate at z ++ l) (sym (replicate-append-replicate n r z))) in
      rw s (ap (take n) (drop_at (replicate at z) (replicate n z ++ replicate r z) at (length-replicate at z))
      ∙ take_at (replicate n z) (replicate r z) n (length-replicate n z))

  -- of a head, zeros and a copy: among the zeros, and the copy
  laid-zeros : (h : List A) (m at n k : ℕ) (z : A) (xs : List A) → k ≡ length h + at → at + n ≤ m
      → part (h ++ (replicate m z ++ xs)) k n ≡ replicate n z
  laid-zeros h m at n k z xs e b =
      let l = length-replicate m z in
      rw e (skip h) ∙ (part-front (replicate m z) xs at n (omega arith) ∙ part-zeros m at n z b)
    where
      skip : (h : List A) → part (h ++ (replicate m z ++ xs)) (length h + at) n ≡ part (replicate m z ++ xs) at n
      skip h = ap (take n) (drop-append-add h (replicate m z ++ xs) at)

  laid-copy : (h : List A) (m k : ℕ) (z : A) (xs : List A) → k ≡ length h + m
      → part (h ++ (replicate m z ++ xs)) k (length xs) ≡ xs
  laid-copy h m k z xs e =
      rw e (ap (take (length xs)) (drop-append-add h (replicate m z ++ xs) m
      ∙ drop_at (replicate m z) xs m (length-replicate m z)) ∙ take-length xs)

-- ---- what a place holds: nothing, or what a put gave it

pub data Held : Type 0 where
  none : Held
  given : Kernel → ℕ → Held

-- its floats and words, in a store of that radius and so many faces: "with all steps still to do"
abbrev pub seven_of : Float → Held → List Float
seven_of radius none = replicate 7 +0
seven_of radius (given k layer) = seven k (decomposed k radius).error

abbrev pub pieces_of : Float → Held → List Float
pieces_of radius none = replicate 48 +0
pieces_of radius (given k layer) = fresh (decomposed k radius) piece_limit 0

abbrev pub state_of : Float → ℕ → Held → List ℕ
state_of radius faces none = replicate 4 0
state_of radius faces (given k layer) =
    let n = (decomposed k radius).count in
    (1 + n) ∷ at_first faces n ∷ 0 ∷ layer ∷ []

abbrev pub InLayer : Held → Type 0
InLayer none = Unit {0}
InLayer (given k layer) = layer < layer_limit

pub record PlaceHolds (radius : Float) (faces : ℕ) (fs : List Float) (ws : List ℕ) (i : ℕ) (h : Held) : Type 0 where
  pub kernel : part fs (kernel_from i) 7 ≡ seven_of radius h
  pub pieces : part fs (pieces_from i) 48 ≡ pieces_of radius h
  pub state : part ws (state_from width i) width ≡ state_of radius faces h
  pub layer : InLayer h

-- the runs hold a mesh of these coordinates and corners, the radius, and at each place what is held there
pub record Stands (radius : Float) (xs : List Float) (ks : List ℕ) (held : ℕ → Held)
    (fs : List Float) (ws : List ℕ) : Type 0 where
  pub floats : coords_from + length xs ≤ length fs
  pub words : corners_from width + length ks ≤ length ws
  pub size : radius_of fs ≡ radius
  pub verts : verts_of ws ≡ length xs / 3
  pub faces : faces_of ws ≡ length ks / 3
  pub coords : part fs coords_from (length xs) ≡ xs
  pub corners : part ws (corners_from width) (length ks) ≡ ks
  pub places : (i : ℕ) → i < 32 → PlaceHolds radius (length ks / 3) fs ws i (held i)

-- ---- an opening leaves every place empty
module _ (r : Float) (xs : List Float) (ks : List ℕ) (fs : List Float) (ws : List ℕ)
    (room : coords_from + length xs ≤ length fs) (space : corners_from width + length ks ≤ length ws) where
  abbrev fresh-floats : List Float
  fresh-floats = open_floats r xs

  abbrev fresh-words : List ℕ
  fresh-words = open_words width (length xs / 3) (length ks / 3) ks

  floats_long : length fresh-floats ≡ coords_from + length xs
  floats_long = rw (length-append (replicate 1760 +0) xs, length-replicate 1760 +0) (omega arith)

  words_long : length fresh-words ≡ corners_from width + length ks
  words_long = rw (length-append (replicate {A = ℕ} 128 0) ks, length-replicate {A = ℕ} 128 0) (omega arith)

  pub opened-stands : Stands r xs ks (λ i. none) (write fs 0 fresh-floats) (write ws 0 fresh-words)
  opened-stands =
      let m = floats_long in
      let n = words_long in
      let two = part-first ws 0 2 fresh-words (omega arith) in
      record {
        floats = rw (length-write fs 0 fresh-floats (omega arith)) room;
        words = rw (length-write ws 0 fresh-words (omega arith)) space;
        size = part_at (write fs 0 fresh-floats) 0 1 0 0 nan refl (omega arith)
            ∙ ap (λ (l : List Float). get_or l 0 nan) (part-first fs 0 1 fresh-floats (omega arith));
        verts = part_at (write ws 0 fresh-words) 0 2 0 0 0 refl (omega arith) ∙ ap (λ (l : List ℕ). get_or l 0 0) two;
        faces = part_at (write ws 0 fresh-words) 0 2 1 1 0 refl (omega arith) ∙ ap (λ (l : List ℕ). get_or l 1 0) two;
        coords = part-first fs coords_from (length xs) fresh-floats (omega arith)
            ∙ laid-copy (r ∷ []) 1760 coords_from +0 xs refl;
        corners = part-first ws (corners_from width) (length ks) fresh-words (omega arith)
            ∙ laid-copy (length xs / 3 ∷ length ks / 3 ∷ []) 128 (corners_from width) 0 ks refl;
        places = λ i h. record {
          kernel = part-first fs (kernel_from i) 7 fresh-floats (omega arith)
              ∙ laid-zeros (r ∷ []) 1760 (7 * i) 7 (kernel_from i) +0 xs refl (omega arith);
          pieces = part-first fs (pieces_from i) 48 fresh-floats (omega arith)
              ∙ laid-zeros (r ∷ []) 1760 (224 + 48 * i) 48 (pieces_from i) +0 xs (omega arith) (omega arith);
          state = part-first ws (state_from width i) 4 fresh-words (omega arith)
              ∙ laid-zeros (length xs / 3 ∷ length ks / 3 ∷ []) 128 (4 * i) 4 (state_from width i) 0 ks refl
              (omega arith);
          layer = tt;
        };
      }

-- ---- a put changes its place alone
module _ {r : Float} {xs : List Float} {ks : List ℕ} {held : ℕ → Held} {fs : List Float} {ws : List ℕ}
    (s : Stands r xs ks held fs ws) (p : ℕ) (hp : p < 32) (k : Kernel) (layer : ℕ) (hl : layer < layer_limit) where
  abbrev fit : Pieces
  fit = decomposed k (radius_of fs)

  -- what is written
  abbrev row7 : List Float
  row7 = seven k fit.error

  abbrev row48 : List Float
  row48 = fresh fit piece_limit 0

  abbrev row4 : List ℕ
  row4 = (1 + fit.count) ∷ at_first (faces_of ws) fit.count ∷ 0 ∷ layer ∷ []

  -- the floats after the first write, and after both; the words
  abbrev half : List Float
  half = write fs (kernel_from p) row7

  abbrev floats' : List Float
  floats' = write half (pieces_from p) row48

  abbrev words' : List ℕ
  words' = write ws (state_from width p) row4

  half-long : length half ≡ length fs
  half-long = length-write fs (kernel_from p) row7 (omega (arith, s.floats))

  floats_same : length floats' ≡ length fs
  floats_same = length-write half (pieces_from p) row48 (omega (arith, s.floats, half-long)) ∙ half-long

  words_same : length words' ≡ length ws
  words_same = length-write ws (state_from width p) row4 (omega (arith, s.words))

  -- floats that lie in neither of the two rows, and words that do not lie in the one
  other-floats : (at n : ℕ) → (at < kernel_from p → at + n ≤ kernel_from p) → (kernel_from p ≤ at → kernel_from p + 7 ≤ at)
      → (at < pieces_from p → at + n ≤ pieces_from p) → (pieces_from p ≤ at → pieces_from p + 48 ≤ at)
      → part floats' at n ≡ part fs at n
  other-floats at n a b c d =
      let x = s.floats in
      let y = half-long in
      part-other half at n (pieces_from p) row48 c d (omega arith)
      ∙ part-other fs at n (kernel_from p) row7 a b (omega arith)

  other-words : (at n : ℕ) → (at < state_from width p → at + n ≤ state_from width p)
      → (state_from width p ≤ at → state_from width p + 4 ≤ at) → part words' at n ≡ part ws at n
  other-words at n a b = let y = s.words in part-other ws at n (state_from width p) row4 a b (omega arith)

  place_after : (i : ℕ) → i < 32 → (b : Bool) → eqb p i ≡ b → PlaceHolds r (length ks / 3) fs ws i (held i)
      → PlaceHolds r (length ks / 3) floats' words' i (cond b (given k layer) (held i))
  place_after i l true e h =
      let o : p ≡ i = eqb-true p i e in
      let x = s.floats in
      let y = s.words in
      let z = half-long in
      rw (← o)
      (record {
        kernel =
            part-other half (kernel_from p) 7 (pieces_from p) row48 (λ u. omega arith) (λ u. omega arith) (omega arith)
            ∙ (part_same fs (kernel_from p) 7 row7 refl (omega arith)
            ∙ ap (λ (q : Float). seven_of q (given k layer)) s.size);
        pieces = part_same half (pieces_from p) 48 row48 refl (omega arith)
            ∙ ap (λ (q : Float). pieces_of q (given k layer)) s.size;
        state = part_same ws (state_from width p) 4 row4 refl (omega arith)
            ∙ (λ j. state_of (s.size j) (s.faces j) (given k layer));
        layer = hl;
      })
  place_after i l false e h =
      let o : p ≡ i → ⊥ = eqb-false p i e in
      record {
        kernel =
            other-floats (kernel_from i) 7 (λ u. omega arith) (λ u. omega arith) (λ u. omega arith) (λ u. omega arith)
            ∙ h.kernel;
        pieces =
            other-floats (pieces_from i) 48 (λ u. omega arith) (λ u. omega arith) (λ u. omega arith) (λ u. omega arith)
            ∙ h.pieces;
        state = other-words (state_from width i) 4 (λ u. omega arith) (λ u. omega arith) ∙ h.state;
        layer = h.layer;
      }

  pub put_stands : Stands r xs ks (λ i. cond (eqb p i) (given k layer) (held i)) (put_floats fs p k fit)
      (put_words width ws p fit layer)
  unfolding put_floats put_words
  put_stands =
      let x = s.floats in
      let y = s.words in
      let z = half-long in
      record {
        floats = rw floats_same s.floats;
        words = rw words_same s.words;
        size = write_before half (pieces_from p) row48 0 nan (omega arith) (omega arith)
            ∙ (write_before fs (kernel_from p) row7 0 nan (omega arith) (omega arith) ∙ s.size);
        verts = write_before ws (state_from width p) row4 0 0 (omega arith) (omega arith) ∙ s.verts;
        faces = write_before ws (state_from width p) row4 1 0 (omega arith) (omega arith) ∙ s.faces;
        coords =
            other-floats coords_from (length xs) (λ u. omega arith) (λ u. omega arith) (λ u. omega arith)
            (λ u. omega arith)
            ∙ s.coords;
        corners = other-words (corners_from width) (length ks) (λ u. omega arith) (λ u. omega arith) ∙ s.corners;
        places = λ i h. place_after i h (eqb p i) refl (s.places i h);
      }

-- ---- such a store is sound

-- a place just put: nothing is done, "with F = 0 all are finished"
first_sound : (n faces : ℕ) → n ≤ 16 → place_sound (1 + n) (at_first faces n) 0 faces ≡ true
unfolding place_sound at_first
first_sound n faces h =
    let e : 1 + n - 1 ≡ n = omega arith in
    rw (le-leb (1 + n) 17 (omega arith), ne_eqb (1 + n) 0 (λ z. omega arith), e) (go (eqb faces 0) refl)
  where
    either : (b : Bool) → cond b true true ≡ true
    either true = refl
    either false = refl

    go : (b : Bool) → eqb faces 0 ≡ b → leb (cond b n 0) n && cond (eqb (cond b n 0) n) true (ltb 0 faces) ≡ true
    go true e = rw (le-leb n n (omega arith), eq-eqb n n refl) refl
    go false e =
        let z : faces ≡ 0 → ⊥ = eqb-false faces 0 e in
        rw (le-leb 0 n (omega arith), lt-ltb 0 faces (omega arith)) (either (eqb 0 n))

module _ {r : Float} {xs : List Float} {ks : List ℕ} {held : ℕ → Held} {fs : List Float} {ws : List ℕ}
    (s : Stands r xs ks held fs ws) where
  -- what each place is to hold may be said otherwise
  pub held_as : (other : ℕ → Held) → ((i : ℕ) → i < 32 → held i ≡ other i) → Stands r xs ks other fs ws
  held_as other e =
      record {
        floats = s.floats;
        words = s.words;
        size = s.size;
        verts = s.verts;
        faces = s.faces;
        coords = s.coords;
        corners = s.corners;
        places = λ i h. subst (PlaceHolds r (length ks / 3) fs ws i) (e i h) (s.places i h);
      }

  -- the words of a place
  abbrev word_of : Held → ℕ → ℕ
  word_of h j = get_or (state_of r (length ks / 3) h) j 0

  word-is : (i j k : ℕ) → i < 32 → j < 4 → k ≡ state_from width i + j → get_or ws k 0 ≡ word_of (held i) j
  word-is i j k h l e =
      part_at ws (state_from width i) 4 j k 0 e l ∙ ap (λ (t : List ℕ). get_or t j 0) (s.places i h).state

  place_sound_lem : (i : ℕ) → i < 32 → place_sound_at width ws i ≡ true
  unfolding place_sound_at place_sound layer_sound
  place_sound_lem i h =
      rw (
        word-is i 0 (2 + 4 * i) h (omega arith) (omega arith),
        word-is i 1 (3 + 4 * i) h (omega arith) (omega arith),
        word-is i 2 (4 + 4 * i) h (omega arith) (omega arith),
        word-is i 3 (5 + 4 * i) h (omega arith) (omega arith),
        s.faces,
      )
      (go (held i) (s.places i h).layer)
    where
      go : (v : Held) → InLayer v
          → place_sound (word_of v 0) (word_of v 1) (word_of v 2) (length ks / 3) && layer_sound (word_of v 0) (word_of v 3)
          ≡ true
      go none l = refl
      go (given k layer) l =
          let n = (decomposed k r).count in
          rw (
            first_sound n (length ks / 3) (at_most_16 k r),
            ne_eqb (1 + n) 0 (λ z. omega arith),
            lt-ltb layer layer_limit l,
          ) refl

  pub stands-sound : Meshes (length xs) ks → store_check width fs ws ≡ passed
  stands-sound m =
      let x = div-add-mod' (length xs) 3 in
      let y = div-add-mod' (length ks) 3 in
      let z : 3 * (length ks / 3) ≡ length ks = omega (arith, m.corners, y) in
      let k : corners_of width ws ≡ ks = rw (s.faces, z) s.corners in
      passes fs ws (rw s.faces (omega (arith, s.words)))
      (rw s.verts (omega (arith, s.floats, m.coords, x)))
      (rw s.verts m.verts) (rw s.faces m.faces) place_sound_lem (rw (k, s.verts) m.below)
