-- 02, L10: "The writer's lines thus give the same mesh, radius, kernels and layers, with all steps still to do", and
-- "Writing a store read from the writer's own lines yields them byte for byte": for every sound store, its floats being
-- of the format, and any runs that are long enough for it. Assumes nothing.
use Rattle.std.specs.Result.{result_and}
use Rattle.std.specs.Prelude.{◌≡◌, ◌&&◌, cond, List, [], ◌∷◌, ◌++◌, eqb, leb, length, get_or, drop, Err}
use Rattle.std.proofs.Math.Path.{refl}
use Rattle.std.proofs.Common.{sym, ap, subst, ◌∙◌, inr, arith, length-drop, length-take-le, lt-ltb, le-leb, le-ltb, eq-eqb, ne_eqb}
use Rattle.std.proofs.Math.Bool.{Bool, true, false}
use Prim.Native.Nat.{ℕ, zero, suc, ◌+◌, ◌*◌, ◌-◌, ◌/◌, ◌%◌, ◌≤◌, ◌<◌}
use Rattle.std.proofs.Math.Decide.{dec_lt}
use Rattle.std.specs.Float.Ieee.{Float}
use Rattle.std.specs.Float.{nan}
use Rattle.base.specs.Answers.{Checked, passed}
use Rattle.base.specs.declared.refusal.Refusal.{Refusal}
use Rattle.base.specs.declared.refusal.Refusal.TheVariants.{Unsound, ShortStore, NoPlace, NoLayer}
use Rattle.mesh.specs.Checks.{vertex_limit, face_limit, all_below, mesh_check}
use Rattle.pieces.specs.Pieces.{decomposed}
use Rattle.layout.specs.Layout.{width, place_limit, layer_limit, radius_of, kernel_from, coords_from, state_from, corners_from, corners_of, verts_of, faces_of, status_of, layer_of}
use Rattle.base.specs.Loops.{every}
use Rattle.layout.specs.Soundness.{long_enough, place_sound_at, sound, store_check}
use Rattle.layout.specs.SoundLaws.{both, Fine, fine}
use Rattle.layout.specs.After.{After}
use Rattle.store.specs.Calls.{open_check}
use Rattle.store.specs.OpenLaws.{open_passes}
use Rattle.text.specs.Text.{Got}
use Rattle.text.specs.Form.{Form, Vals, print, ◌&◌}
use Rattle.script.specs.Lines.{vert_line, face_line, put_line}
use Rattle.script.specs.Written.{printed_lines, vert_at, face_at, put_at, vert_rows, face_rows, put_row, put_rows, lines_of, written, write_step}
use Rattle.reader.specs.ReadOf.{Script, kernel_in, layer_in, places_in, layers_in, form_check, script_check, load_step}
use Rattle.reader.specs.RoundTrip.{puts_from, script_of, kernel_of, put_says, Floats, read-written}
use Rattle.reader.specs.Leaves.{part, part_at, Held, none, given, seven_of, state_of, PlaceHolds, Stands, held_as, stands-sound}
use Rattle.reader.specs.LineByLine.{Taken, held_by, held_after, passing, leaves}

-- ---- what a store's script gives each place

-- a filled place's kernel, with its weight as it is kept, and its layer
abbrev pub held_in_lem : List Float → List ℕ → ℕ → Held
held_in_lem fs ws i = cond (eqb (status_of width ws i) 0) none (given (kernel_of fs i) (layer_of width ws i))

module _ (fs : List Float) (ws : List ℕ) where
  -- the puts of n places from i on; of place i alone, before those after it
  abbrev puts : ℕ → ℕ → List (Vals put_line)
  puts n i = puts_from width fs ws n i

  abbrev first : Bool → ℕ → ℕ → List (Vals put_line)
  first b n i = cond b (puts n (suc i)) (put_at width fs ws i ∷ puts n (suc i))

  -- places before those looked at keep what they held, the others get what the store has
  held_out : (n i : ℕ) (held : ℕ → Held) (j : ℕ) → j < i → held_after (puts n i) held j ≡ held j
  held_out zero i held j h = refl
  held_out (suc n) i held j h = go (eqb (status_of width ws i) 0) (λ next. held_out n (suc i) next j (omega arith))
    where
      go : (b : Bool) → ((next : ℕ → Held) → held_after (puts n (suc i)) next j ≡ next j)
          → held_after (first b n i) held j ≡ held j
      go true ih = ih held
      go false ih = ih (held_by (put_at width fs ws i) held) ∙ rw (ne_eqb i j (λ z. omega arith)) refl

  put-gives : (i : ℕ) → given (kernel_in (put_at width fs ws i)) (layer_in (put_at width fs ws i))
      ≡ given (kernel_of fs i) (layer_of width ws i)
  put-gives i = (λ j. given ((put_says width fs ws i).1 j) (layer_of width ws i))

  held_in : (n i : ℕ) (held : ℕ → Held) (j : ℕ) → held j ≡ none → i ≤ j → j < i + n
      → held_after (puts n i) held j ≡ held_in_lem fs ws j
  held_in zero i held j e h l = absurd (omega arith)
  held_in (suc n) i held j e h l =
      go (eqb (status_of width ws i) 0) refl (dec_lt i j) (λ next f o. held_in n (suc i) next j f o (omega arith))
    where
      go : (b : Bool) → eqb (status_of width ws i) 0 ≡ b → Dec (i < j)
          → ((next : ℕ → Held) → next j ≡ none → suc i ≤ j → held_after (puts n (suc i)) next j ≡ held_in_lem fs ws j)
          → held_after (first b n i) held j ≡ held_in_lem fs ws j
      go true s (yes o) ih = ih held e o
      go false s (yes o) ih = ih (held_by (put_at width fs ws i) held) (rw (ne_eqb i j (λ z. omega arith)) e) o
      go true s (no o) ih =
          let z : i ≡ j = omega arith in
          held_out n (suc i) held j (omega arith) ∙ (e ∙ rw (← z, s) refl)
      go false s (no o) ih =
          let z : i ≡ j = omega arith in
          held_out n (suc i) (held_by (put_at width fs ws i) held) j (omega arith)
          ∙ rw (← z, eq-eqb i i refl, s) (put-gives i)

  -- each put names a place, and a layer where the store's are
  named_in : (n i : ℕ) → i + n ≤ 32 → places_in (puts n i) ≡ true
  unfolding places_in
  named_in zero i h = refl
  named_in (suc n) i h = go (eqb (status_of width ws i) 0) (named_in n (suc i) (omega arith))
    where
      go : (b : Bool) → places_in (puts n (suc i)) ≡ true → places_in (first b n i) ≡ true
      go true ih = ih
      go false ih = rw (lt-ltb i 32 (omega arith), ih) refl

  layered-in : ((i : ℕ) → i < 32 → layer_of width ws i < layer_limit) → (n i : ℕ) → i + n ≤ 32
      → layers_in (puts n i) ≡ true
  unfolding layers_in
  layered-in l zero i h = refl
  layered-in l (suc n) i h = go (eqb (status_of width ws i) 0) (layered-in l n (suc i) (omega arith))
    where
      go : (b : Bool) → layers_in (puts n (suc i)) ≡ true → layers_in (first b n i) ≡ true
      go true ih = ih
      go false ih = rw (lt-ltb (layer_of width ws i) layer_limit (l i (omega arith)), ih) refl

  corners_below : store_check width fs ws ≡ passed → all_below (verts_of ws) (corners_of width ws) ≡ true
  unfolding store_check sound
  corners_below e = go (long_enough width fs ws) (sound width ws) refl e
    where
      below : Bool
      below = all_below (verts_of ws) (corners_of width ws)

      places : Bool
      places = every (place_sound_at width ws) place_limit

      go : (a b : Bool) → sound width ws ≡ b → cond a (cond b passed (Err Unsound)) (Err ShortStore) ≡ passed
          → below ≡ true
      go true true s h =
          (both places below
          (both (leb (verts_of ws) vertex_limit && leb (faces_of ws) face_limit) (places && below) s).1).1
      go true false s h = absurd (let z : ◌≡◌ {A = ℕ} 0 1 = cc in omega arith)
      go false b s h = absurd (let z : ◌≡◌ {A = ℕ} 0 1 = cc in omega arith)

-- ---- checks that pass

both-passed : {a b : Checked} → a ≡ passed → b ≡ passed → result_and a b ≡ passed
both-passed x y = rw (x, y) refl

test_is : (b : Bool) (r : Refusal) → b ≡ true → cond b passed (Err r) ≡ passed
test_is b r e = rw e refl

-- a mesh of v vertices and f faces
opens : (n : ℕ) (ks : List ℕ) (v f a b : ℕ) → n ≡ 3 * v → length ks ≡ 3 * f → v ≤ vertex_limit → f ≤ face_limit
    → all_below v ks ≡ true → coords_from + 3 * v ≤ a → corners_from width + 3 * f ≤ b
    → open_check width n ks a b ≡ passed
unfolding open_check mesh_check
opens n ks v f a b en ek hv hf below room space =
    let v0 : 3 * v % 3 ≡ 0 = omega arith in
    let f0 : 3 * f % 3 ≡ 0 = omega arith in
    let v1 : 3 * v / 3 ≡ v = omega arith in
    let f1 : 3 * f / 3 ≡ f = omega arith in
    rw (
      en,
      ek,
      v0,
      f0,
      v1,
      f1,
      le-ltb vertex_limit v hv,
      le-ltb face_limit f hf,
      below,
      le-leb (coords_from + 3 * v) a room,
      le-leb (corners_from width + 3 * f) b space,
    ) refl

-- ---- two runs with the same words say the same lines

same_at : {A : Type 0} (f g : List A) (at n k : ℕ) (d : A) → part f at n ≡ part g at n → at ≤ k → k < at + n
    → get_or f k d ≡ get_or g k d
same_at f g at n k d e l h =
    part_at f at n (k - at) k d (omega arith) (omega arith)
    ∙ (ap (λ t. get_or t (k - at) d) e ∙ sym (part_at g at n (k - at) k d (omega arith) (omega arith)))

printed-same : (f : Form) (v w : ℕ → Vals f) (n i : ℕ) → ((j : ℕ) → j < i + n → v j ≡ w j)
    → printed_lines f v n i ≡ printed_lines f w n i
printed-same f v w zero i h = refl
printed-same f v w (suc n) i h =
    (λ j. print f (h i (omega arith) j) ++ printed-same f v w n (suc i) (λ k l. h k (omega arith)) j)

-- coordinates and corners of a sound store
module _ (fs : List Float) (ws : List ℕ) (s : Fine width fs ws) where
  coords-long : length (part fs coords_from (3 * verts_of ws)) ≡ 3 * verts_of ws
  coords-long = length-take-le (3 * verts_of ws) (drop coords_from fs) (rw length-drop (omega (arith, s.mesh.floats)))

  corners-long : length (corners_of width ws) ≡ 3 * faces_of ws
  corners-long =
      length-take-le (3 * faces_of ws) (drop (corners_from width) ws) (rw length-drop (omega (arith, s.mesh.words)))

-- the runs gs and vs hold the mesh, the radius and the places of a store
module _ (fs : List Float) (ws : List ℕ) (gs : List Float) (vs : List ℕ) (s : Fine width fs ws)
    (t : Stands (radius_of fs) (part fs coords_from (3 * verts_of ws)) (corners_of width ws) (held_in_lem fs ws) gs vs) where
  coord-same : (k : ℕ) → coords_from ≤ k → k < coords_from + 3 * verts_of ws → get_or gs k nan ≡ get_or fs k nan
  coord-same k =
      same_at gs fs coords_from (3 * verts_of ws) k nan (ap (part gs coords_from) (sym (coords-long fs ws s)) ∙ t.coords)

  corner-same : (k : ℕ) → corners_from width ≤ k → k < corners_from width + 3 * faces_of ws → get_or vs k 0 ≡ get_or ws k 0
  corner-same k =
      same_at vs ws (corners_from width) (3 * faces_of ws) k 0
      (ap (part vs (corners_from width)) (sym (corners-long fs ws s)) ∙ t.corners)

  vert-same : (i : ℕ) → i < 0 + verts_of ws → vert_at gs i ≡ vert_at fs i
  vert-same i h =
      let k = coords_from + 3 * i in
      (λ j. coord-same k (omega arith) (omega arith) j & coord-same (k + 1) (omega arith) (omega arith) j
      & coord-same (k + 2) (omega arith) (omega arith) j & tt)

  face-same : (i : ℕ) → i < 0 + faces_of ws → face_at width vs i ≡ face_at width ws i
  face-same i h =
      let k = corners_from width + 3 * i in
      (λ j. corner-same k (omega arith) (omega arith) j & corner-same (k + 1) (omega arith) (omega arith) j
      & corner-same (k + 2) (omega arith) (omega arith) j & tt)

  -- the line of a place
  row_same : (i : ℕ) → i < 32 → put_row width gs vs i ≡ put_row width fs ws i
  unfolding put_row
  row_same i h = go (eqb (status_of width ws i) 0) (t.places i h)
    where
      r : Float
      r = radius_of fs

      m : ℕ
      m = length (corners_of width ws) / 3

      full : Held
      full = given (kernel_of fs i) (layer_of width ws i)

      -- word j and float j of the place
      word : (v : Held) → PlaceHolds r m gs vs i v → (j k : ℕ) → k ≡ state_from width i + j → j < 4
          → get_or vs k 0 ≡ get_or (state_of r m v) j 0
      word v p j k e l = part_at vs (state_from width i) 4 j k 0 e l ∙ ap (λ (u : List ℕ). get_or u j 0) p.state

      float : (v : Held) → PlaceHolds r m gs vs i v → (j k n : ℕ) → k ≡ kernel_from i + j → j < 7
          → get_or (seven_of r v) j nan ≡ get_or fs n nan
          → k ≡ n → get_or gs k nan ≡ get_or fs k nan
      float v p j k n e l d f =
          part_at gs (kernel_from i) 7 j k nan e l
          ∙ (ap (λ (u : List Float). get_or u j nan) p.kernel ∙ (d ∙ ap (λ (u : ℕ). get_or fs u nan) (sym f)))

      same : PlaceHolds r m gs vs i full → put_at width gs vs i ≡ put_at width fs ws i
      same p =
          let k = kernel_from i in
          (λ j.
          i & float full p 0 k (1 + 7 * i) (omega arith) (omega arith) refl (omega arith) j
          & float full p 1 (k + 1) (2 + 7 * i) refl (omega arith) refl (omega arith) j
          & float full p 2 (k + 2) (3 + 7 * i) refl (omega arith) refl (omega arith) j
          & float full p 3 (k + 3) (4 + 7 * i) refl (omega arith) refl (omega arith) j
          & float full p 4 (k + 4) (5 + 7 * i) refl (omega arith) refl (omega arith) j
          & float full p 5 (k + 5) (6 + 7 * i) refl (omega arith) refl (omega arith) j
          & inr (word full p 3 (5 + 4 * i) (omega arith) (omega arith) j & tt) & tt)

      go : (b : Bool) → PlaceHolds r m gs vs i (cond b none full)
          → cond (eqb (status_of width vs i) 0) [] (print put_line (put_at width gs vs i))
          ≡ cond b [] (print put_line (put_at width fs ws i))
      go true p = rw (word none p 0 (2 + 4 * i) (omega arith) (omega arith)) refl
      go false p =
          let n = (decomposed (kernel_of fs i) r).count in
          let e : eqb (status_of width vs i) 0 ≡ false
          = ap (λ (u : ℕ). eqb u 0) (word full p 0 (2 + 4 * i) (omega arith) (omega arith))
          ∙ ne_eqb (1 + n) 0 (λ z. omega arith) in
          rw e (ap (print put_line) {x = put_at width gs vs i} {y = put_at width fs ws i} (same p))

  puts-same : (n i : ℕ) → i + n ≤ 32 → put_rows width gs vs n i ≡ put_rows width fs ws n i
  unfolding put_rows
  puts-same zero i h = refl
  puts-same (suc n) i h = (λ j. row_same i (omega arith) j ++ puts-same n (suc i) (omega arith) j)

  pub same_lines : written width gs vs ≡ written width fs ws
  unfolding lines_of vert_rows face_rows
  same_lines =
      let x : verts_of vs ≡ verts_of ws = t.verts ∙ (let l = coords-long fs ws s in omega arith) in
      let y : faces_of vs ≡ faces_of ws = t.faces ∙ (let l = corners-long fs ws s in omega arith) in
      rw (
        x,
        y,
        t.size,
        printed-same vert_line (vert_at gs) (vert_at fs) (verts_of ws) 0 vert-same,
        printed-same face_line (face_at width vs) (face_at width ws) (faces_of ws) 0 face-same,
        puts-same 32 0 (omega arith),
      ) refl

-- ---- a sound store, written and read into any runs that are long enough
module _ (fs : List Float) (ws : List ℕ) (e : store_check width fs ws ≡ passed) (g : Floats fs)
    (gs : List Float) (vs : List ℕ) (room : coords_from + 3 * verts_of ws ≤ length gs)
    (space : corners_from width + 3 * faces_of ws ≤ length vs) where
  abbrev s : Fine width fs ws
  s = fine width fs ws e

  abbrev xs : List Float
  xs = part fs coords_from (3 * verts_of ws)

  abbrev ks : List ℕ
  ks = corners_of width ws

  opening-passes : open_check width (length xs) ks (length gs) (length vs) ≡ passed
  opening-passes =
      opens (length xs) ks (verts_of ws) (faces_of ws) (length gs) (length vs) (coords-long fs ws s)
      (corners-long fs ws s) s.mesh.verts s.mesh.faces
      (corners_below fs ws e) room space

  passes : script_check width (script_of width fs ws) (length gs) (length vs) ≡ passed
  passes =
      both-passed opening-passes
      (both-passed (test_is (places_in (puts_from width fs ws 32 0)) NoPlace (named_in fs ws 32 0 (omega arith)))
      (test_is (layers_in (puts_from width fs ws 32 0)) NoLayer (layered-in fs ws s.places.layer 32 0 (omega arith))))

  -- the reader's answer and runs
  abbrev again : After
  again = load_step width gs vs (written width fs ws)

  -- the writer's lines are not refused
  pub accepted : Taken again
  accepted =
      let d = read-written width fs ws e g in
      passing gs vs (written width fs ws) (ap (λ (h : Got Script). form_check h.text) d)
      (ap (λ (h : Got Script). script_check width h.val (length gs) (length vs)) d ∙ passes)

  -- "the same mesh, radius, kernels and layers, with all steps still to do"
  pub same_store : Stands (radius_of fs) xs ks (held_in_lem fs ws) again.floats again.words
  same_store =
      held_as
      (subst
      (λ (h : Got Script).
      Stands h.val.radius h.val.coords h.val.corners (held_after h.val.puts (λ i. none)) again.floats
      again.words)
      (read-written width fs ws e g) (leaves gs vs (written width fs ws) accepted))
      (held_in_lem fs ws) (λ i h. held_in fs ws 32 0 (λ j. none) i refl (omega arith) (omega arith))

  -- "Writing a store read from the writer's own lines yields them byte for byte"
  pub written-again : written width again.floats again.words ≡ written width fs ws
  written-again = same_lines fs ws again.floats again.words s same_store

  -- so the writer answers and writes the same of it as of the store
  pub writes_again : (bs : List ℕ) → write_step width again.floats again.words bs ≡ write_step width fs ws bs
  unfolding write_step
  writes_again bs =
      let m = (open_passes width (length xs) ks (length gs) (length vs) opening-passes).mesh in
      rw (stands-sound same_store m, e, written-again) refl
