-- Words in which the places that fail a test are empty: the other places and the mesh are as they were, and what was
-- sound stays so. Assumes nothing.
use Rattle.base.specs.Answers.{passed}
use Rattle.std.proofs.Math.Path.{◌≡◌, refl}
use Rattle.std.proofs.Common.{sym, ap, ◌∙◌, mul-le-mul, le_refl, add-one, arith, get_or-drop, ltb-true}
use Rattle.std.specs.Prelude.{Bool, ◌&&◌, ltb, take, replicate, Float, Err}
use Rattle.std.proofs.Math.Bool.{true, false, cond}
use mathlib.Core.List.{List}
use Prim.Native.Nat.{ℕ, zero, suc, ◌+◌, ◌*◌, ◌-◌, ◌≤◌, ◌<◌}
use Rattle.std.proofs.Math.Nat.{mul-suc}
use Rattle.std.proofs.Math.Decide.{dec_lt}
use Rattle.std.proofs.Math.Dec.{leb}
use Rattle.std.proofs.Math.ListN.{length, get_or, drop, length-replicate}
use Rattle.std.proofs.lemmas.List.{get_or-replicate}
use Rattle.base.specs.Loops.{every}
use Rattle.base.specs.LoopLaws.{every_at, every_all}
use Rattle.base.specs.declared.refusal.Refusal.TheVariants.{ShortStore, Unsound}
use Rattle.mesh.specs.Checks.{vertex_limit, face_limit, all_below}
use Rattle.layout.specs.Layout.{place_limit, layer_limit, state_from, corners_from, corners_of, verts_of, faces_of}
use Rattle.layout.specs.Layout.{status_of, finished_of, done_of, layer_of}
use Rattle.layout.specs.Runs.{write}
use Rattle.layout.specs.RunLaws.{length-write, write_before, write_at, write-rest, write-take}
use Rattle.layout.specs.Soundness.{long_enough, place_sound, layer_sound, place_sound_at, sound, store_check}
use Rattle.layout.specs.SoundLaws.{Ready, Worded, both}
use Rattle.layout.specs.Layers.{hiding}

-- ---- the words of a place end where those of the next begin
pub rows_apart : (q i k : ℕ) → i < k → q * i + q ≤ q * k
rows_apart q i k h =
    let z : q * suc i ≤ q * k = mul-le-mul (le_refl q) h in
    let y = rw (mul-suc q i) at z in
    omega arith

-- ---- the places below k that a test hides
module _ (q : ℕ) (test : ℕ → Bool) (ws : List ℕ) (long : corners_from q ≤ length ws) where
  row_ends : (k : ℕ) → suc k ≤ 32 → state_from q k + length (replicate {A = ℕ} q 0) ≤ corners_from q
  row_ends k h = let z = rows_apart q k 32 h in rw (length-replicate {A = ℕ} q 0) (omega arith)

  pub hiding-length : (k : ℕ) → k ≤ 32 → length (hiding q test ws k) ≡ length ws
  unfolding hiding
  hiding-length zero h = refl
  hiding-length (suc k) h = go (test k) (hiding-length k (omega arith))
    where
      go : (b : Bool) → length (hiding q test ws k) ≡ length ws
          → length (cond b (hiding q test ws k) (write (hiding q test ws k) (state_from q k) (replicate q 0)))
          ≡ length ws
      go true ih = ih
      go false ih =
          let e = row_ends k h in length-write (hiding q test ws k) (state_from q k) (replicate q 0) (omega arith) ∙ ih

  -- the words before the places, and those past the places that were looked at
  pub hiding_head : (k : ℕ) → k ≤ 32 → (n : ℕ) → n < 2 → get_or (hiding q test ws k) n 0 ≡ get_or ws n 0
  unfolding hiding
  hiding_head zero h n l = refl
  hiding_head (suc k) h n l = go (test k) (hiding_head k (omega arith) n l)
    where
      go : (b : Bool) → get_or (hiding q test ws k) n 0 ≡ get_or ws n 0
          → get_or (cond b (hiding q test ws k) (write (hiding q test ws k) (state_from q k) (replicate q 0))) n 0
          ≡ get_or ws n 0
      go true ih = ih
      go false ih =
          let e = row_ends k h in
          let m = hiding-length k (omega arith) in
          write_before (hiding q test ws k) (state_from q k) (replicate q 0) n 0 (omega arith) (omega arith) ∙ ih

  pub hiding-rest : (k : ℕ) → k ≤ 32 → (n : ℕ) → state_from q k ≤ n → drop n (hiding q test ws k) ≡ drop n ws
  unfolding hiding
  hiding-rest zero h n l = refl
  hiding-rest (suc k) h n l =
      let z = rw mul-suc at l in go (test k) (omega arith) (hiding-rest k (omega arith) n (omega arith))
    where
      go : (b : Bool) → state_from q k + q ≤ n → drop n (hiding q test ws k) ≡ drop n ws
          → drop n (cond b (hiding q test ws k) (write (hiding q test ws k) (state_from q k) (replicate q 0)))
          ≡ drop n ws
      go true z ih = ih
      go false z ih =
          let e = row_ends k h in
          let m = hiding-length k (omega arith) in
          let o = length-replicate {A = ℕ} q 0 in
          write-rest (hiding q test ws k) (state_from q k) (replicate q 0) n (omega arith) (omega arith) ∙ ih

  -- a word of a place below k: as it is where the place passes the test, else 0
  pub hiding_at : (k : ℕ) → k ≤ 32 → (i j n : ℕ) → i < k → j < q → n ≡ state_from q i + j
      → get_or (hiding q test ws k) n 0 ≡ cond (test i) (get_or ws n 0) 0
  unfolding hiding
  hiding_at zero h i j n l b e = absurd (omega arith)
  hiding_at (suc k) h i j n l b e = go (dec_lt i k) (test k) refl (λ (g : i < k). hiding_at k (omega arith) i j n g b e)
    where
      H : List ℕ
      H = hiding q test ws k

      go : Dec (i < k) → (t : Bool) → test k ≡ t → (i < k → get_or H n 0 ≡ cond (test i) (get_or ws n 0) 0)
          → get_or (cond t H (write H (state_from q k) (replicate q 0))) n 0 ≡ cond (test i) (get_or ws n 0) 0
      go (yes g) true s ih = ih g
      go (yes g) false s ih =
          let z = rows_apart q i k g in
          let y = row_ends k h in
          let m = hiding-length k (omega arith) in
          write_before H (state_from q k) (replicate q 0) n 0 (omega arith) (omega arith) ∙ ih g
      go (no g) true s ih =
          let o : i ≡ k = omega arith in
          let z : n ≡ n + 0 = omega arith in
          rw (o, s, z) (sym (get_or-drop n H 0 0)
          ∙ (ap (λ (r : List ℕ). get_or r 0 0) (hiding-rest k (omega arith) n (rw (e, o) (omega arith)))
          ∙ get_or-drop n ws 0 0))
      go (no g) false s ih =
          let o : i ≡ k = omega arith in
          let y = row_ends k h in
          let m = hiding-length k (omega arith) in
          rw (e, o, s) (write_at H (state_from q k) (replicate q 0) j 0 (omega arith)
          (rw (length-replicate {A = ℕ} q 0) b) ∙ get_or-replicate q j 0 0 b)

  -- one place more, in the words up to the corners
  pub shown-next : (k : ℕ) → k < 32 → test k ≡ true
      → take (corners_from q) (hiding q test ws k) ≡ take (corners_from q) (hiding q test ws (k + 1))
  unfolding hiding
  shown-next k h e = rw (add-one k, e) refl

  pub hidden_next : (k : ℕ) → k < 32 → test k ≡ false
      → write (take (corners_from q) (hiding q test ws k)) (state_from q k) (replicate q 0)
      ≡ take (corners_from q) (hiding q test ws (k + 1))
  unfolding hiding
  hidden_next k h e =
      let m = hiding-length k (omega arith) in
      rw (add-one k, e) (write-take (hiding q test ws k) (corners_from q) (state_from q k) (replicate q 0)
      (row_ends k h)
      (omega arith))

  -- nothing is hidden where every place passes
  pub hiding-none : (k : ℕ) → ((i : ℕ) → i < k → test i ≡ true) → hiding q test ws k ≡ ws
  unfolding hiding
  hiding-none zero h = refl
  hiding-none (suc k) h = rw (h k (omega arith)) (hiding-none k (λ i l. h i (omega arith)))

-- ---- all places that it hides
module _ (q : ℕ) (test : ℕ → Bool) (ws : List ℕ) (long : corners_from q ≤ length ws) where
  abbrev us : List ℕ
  us = hiding q test ws place_limit

  -- the mesh stays
  pub hid-long : corners_from q ≤ length us
  hid-long = let n = hiding-length q test ws long 32 (omega arith) in omega arith

  pub hid_verts : verts_of us ≡ verts_of ws
  hid_verts = hiding_head q test ws long 32 (omega arith) 0 (omega arith)

  pub hid_faces : faces_of us ≡ faces_of ws
  hid_faces = hiding_head q test ws long 32 (omega arith) 1 (omega arith)

  pub hid_corners : drop (corners_from q) us ≡ drop (corners_from q) ws
  hid_corners = hiding-rest q test ws long 32 (omega arith) (corners_from q) (omega arith)

  -- a place that passes is as it is, each other one empty
  module _ (three : 3 ≤ q) (i : ℕ) (h : i < 32) where
    at : (j n : ℕ) → j < q → n ≡ state_from q i + j → get_or us n 0 ≡ cond (test i) (get_or ws n 0) 0
    at j n l e = hiding_at q test ws long 32 (omega arith) i j n h l e

    pub hid_status : status_of q us i ≡ cond (test i) (status_of q ws i) 0
    hid_status = at 0 (2 + q * i) (omega arith) (omega arith)

    pub hid_finished : finished_of q us i ≡ cond (test i) (finished_of q ws i) 0
    hid_finished = at 1 (3 + q * i) (omega arith) (omega arith)

    pub hid-done : done_of q us i ≡ cond (test i) (done_of q ws i) 0
    hid-done = at 2 (4 + q * i) (omega arith) (omega arith)

    pub hid_layer : layer_of q us i ≡ cond (test i) (layer_of q ws i) 0
    hid_layer = go (ltb 3 q) refl
      where
        none : (b : Bool) → cond {A = ℕ} b 0 0 ≡ 0
        none true = refl
        none false = refl

        go : (b : Bool) → ltb 3 q ≡ b → cond b (get_or us (5 + q * i) 0) 0
            ≡ cond (test i) (cond b (get_or ws (5 + q * i) 0) 0) 0
        go true e = let z = ltb-true 3 q e in at 3 (5 + q * i) z (omega arith)
        go false e = sym (none (test i))

  -- the places are sound
  pub hid_worded : 3 ≤ q → (m : ℕ) → Worded q ws m → Worded q us m
  hid_worded three m w =
      record {
        long = hid-long;
        few = w.few;
        place = λ i h.
            rw (hid_status three i h, hid_finished three i h, hid-done three i h)
            (ready i (status_of q ws i) (finished_of q ws i) (done_of q ws i) (test i) h (w.place i h));
        layer = λ i h. rw (hid_layer three i h) (low (layer_of q ws i) (test i) (w.layer i h));
      }
    where
      ready : (i s n d : ℕ) (b : Bool) → i < 32 → Ready m i (s - 1) n d
          → Ready m i (cond b s 0 - 1) (cond b n 0) (cond b d 0)
      ready i s n d true h r = r
      ready i s n d false h r =
          record {
            place = h;
            pieces = omega arith;
            fits = omega arith;
            part = λ l. absurd (omega arith);
            low = omega arith;
          }

      low : (l : ℕ) (b : Bool) → l < layer_limit → cond b l 0 < layer_limit
      low l true h = h
      low l false h = omega arith

-- ---- and the store is
module _ (q : ℕ) (three : 3 ≤ q) (test : ℕ → Bool) (fs : List Float) (ws : List ℕ)
    (long : corners_from q ≤ length ws) where
  abbrev vs : List ℕ
  vs = hiding q test ws place_limit

  as_long : long_enough q fs vs ≡ long_enough q fs ws
  unfolding long_enough
  as_long = rw (hid_verts q test ws long, hid_faces q test ws long, hiding-length q test ws long 32 (omega arith)) refl

  place_sound_lem : (i : ℕ) → i < 32 → place_sound_at q ws i ≡ true → place_sound_at q vs i ≡ true
  unfolding place_sound_at place_sound layer_sound
  place_sound_lem i h e =
      rw (
        hid_status q test ws long three i h,
        hid_finished q test ws long three i h,
        hid-done q test ws long three i h,
        hid_layer q test ws long three i h,
        hid_faces q test ws long,
      )
      (go (status_of q ws i) (finished_of q ws i) (done_of q ws i) (layer_of q ws i) (faces_of ws) (test i) e)
    where
      go : (s n d l m : ℕ) (b : Bool) → place_sound s n d m && layer_sound s l ≡ true
          → place_sound (cond b s 0) (cond b n 0) (cond b d 0) m && layer_sound (cond b s 0) (cond b l 0) ≡ true
      go s n d l m true e = e
      go s n d l m false e = refl

  as-sound : sound q ws ≡ true → sound q vs ≡ true
  unfolding sound
  as-sound e =
      let r = both (leb (verts_of ws) vertex_limit && leb (faces_of ws) face_limit)
      (every (place_sound_at q ws) place_limit && all_below (verts_of ws) (corners_of q ws)) e in
      let t = both (every (place_sound_at q ws) place_limit) (all_below (verts_of ws) (corners_of q ws)) r.1 in
      let p = every_all (place_sound_at q vs) 32
      (λ i h. place_sound_lem i h (every_at (place_sound_at q ws) 32 i h t.0)) in
      rw (p, hid_verts q test ws long, hid_faces q test ws long, hid_corners q test ws long, r.0, t.1) refl

  pub hid-sound : store_check q fs ws ≡ passed → store_check q fs vs ≡ passed
  unfolding store_check
  hid-sound e = go (long_enough q fs ws) (sound q ws) refl refl e
    where
      go : (a b : Bool) → long_enough q fs ws ≡ a → sound q ws ≡ b
          → cond a (cond b passed (Err Unsound)) (Err ShortStore) ≡ passed
          → cond (long_enough q fs vs) (cond (sound q vs) passed (Err Unsound)) (Err ShortStore) ≡ passed
      go true true a b h = rw (as_long ∙ a, as-sound b) refl
      go true false a b h = absurd (let z : ◌≡◌ {A = ℕ} 0 1 = cc in omega arith)
      go false t a b h = absurd (let z : ◌≡◌ {A = ℕ} 0 1 = cc in omega arith)
