-- What a store that passes its checks has; and that the offsets of 01 go together. Assumes nothing.
use Rattle.std.specs.Result.{result_and}
use Rattle.std.proofs.Math.Path.{◌≡◌, refl}
use Rattle.std.specs.Prelude.{Bool, ◌&&◌, List, ℕ, suc, ◌+◌, ◌*◌, ◌-◌, ◌≤◌, ◌<◌, eqb, Float, get_or, Ok, Err}
use Rattle.std.proofs.Math.Bool.{true, false, cond, and-eq-true_iff}
use Rattle.std.proofs.Common.{arith, get_or-take, get_or-drop}
use Rattle.std.proofs.Math.Decide.{dec_lt}
use Rattle.std.proofs.Math.Dec.{ltb, leb}
use Rattle.std.proofs.Math.ListN.{length, length-drop}
use Rattle.std.proofs.Math.Seq.{length-take-le}
use borrow.Author.Tests.{ltb-true, leb-true, eqb-true}
use Rattle.base.specs.Loops.{every}
use Rattle.base.specs.LoopLaws.{every_at}
use Rattle.base.specs.Answers.{Checked, passed}
use Rattle.base.specs.declared.refusal.Refusal.TheVariants.{ShortStore, Unsound, NoPlace, Vacant}
use Rattle.mesh.specs.Checks.{vertex_limit, face_limit}
use Rattle.mesh.specs.CheckLaws.{below_each}
use Rattle.layout.specs.Layout.{width, place_limit, piece_limit, kernel_from, pieces_from, piece_from, coords_from}
use Rattle.layout.specs.Layout.{state_from, corners_from, corners_of, verts_of, faces_of, status_of, finished_of}
use Rattle.layout.specs.Layout.{done_of, layer_limit, layer_of}
use Rattle.layout.specs.Soundness.{long_enough, place_sound, layer_sound, place_sound_at, sound, store_check}
use Rattle.layout.specs.Soundness.{place_check, filled_check}

-- ---- 01's numbers: each part of a run begins where the one before it ends
pub pieces_follow : pieces_from 0 ≡ kernel_from place_limit
pieces_follow = refl

pub coords_follow : coords_from ≡ pieces_from place_limit
coords_follow = refl

pub next_place : (i : ℕ) → pieces_from (suc i) ≡ piece_from i piece_limit
next_place i = omega arith

pub corners_follow : corners_from width ≡ state_from width place_limit
corners_follow = refl

pub corners_are : corners_from width ≡ 130
corners_are = refl

-- ---- tests
pub both : (a b : Bool) → a && b ≡ true → (a ≡ true) × (b ≡ true)
both a b h = (and-eq-true_iff a b).0 h

-- two checks, one after the other, that pass
pub passed-both : (a b : Checked) → result_and a b ≡ passed → (a ≡ passed) × (b ≡ passed)
passed-both (Ok _) b e = (refl, e)
passed-both (Err r) b e = absurd (let z : ◌≡◌ {A = ℕ} 0 1 = cc in omega arith)

-- ---- what a place has: p pieces, `fin` of them finished, and `dn` of m faces done in the next
pub record Ready (m i p fin dn : ℕ) : Type 0 where
  pub place : i < 32
  pub pieces : p ≤ 16
  pub fits : fin ≤ p
  pub part : fin < p → dn < m
  pub low : dn ≤ m

pub place_ready : (m i s n d : ℕ) → i < 32 → place_sound s n d m ≡ true → Ready m i (s - 1) n d
unfolding place_sound
place_ready m i s n d hi e =
    go (leb-true s 17 (both (leb s 17) _ e).0) (eqb s 0) (eqb n (s - 1)) refl refl (both (leb s 17) _ e).1
  where
    go : s ≤ 17 → (x y : Bool) → eqb s 0 ≡ x → eqb n (s - 1) ≡ y
        → cond x (eqb n 0 && eqb d 0) (leb n (s - 1) && cond y (eqb d 0) (ltb d m)) ≡ true → Ready m i (s - 1) n d
    go few true y ex ey t =
        let z = both (eqb n 0) (eqb d 0) t in
        let s0 = eqb-true s 0 ex in
        let n0 = eqb-true n 0 z.0 in
        let d0 = eqb-true d 0 z.1 in
        record { place = hi; pieces = omega arith; fits = omega arith; part = λ h. omega arith; low = omega arith }
    go few false true ex ey t =
        let n0 = eqb-true n (s - 1) ey in
        let d0 = eqb-true d 0 (both (leb n (s - 1)) (eqb d 0) t).1 in
        record { place = hi; pieces = omega arith; fits = omega arith; part = λ h. omega arith; low = omega arith }
    go few false false ex ey t =
        let n0 = leb-true n (s - 1) (both (leb n (s - 1)) (ltb d m) t).0 in
        let d0 = ltb-true d m (both (leb n (s - 1)) (ltb d m) t).1 in
        record { place = hi; pieces = omega arith; fits = omega arith; part = λ h. omega arith; low = omega arith }

-- its layer is one of sixteen
pub layer_in_lem : (status layer : ℕ) → layer_sound status layer ≡ true → layer < layer_limit
unfolding layer_sound
layer_in_lem status layer e = go (eqb status 0) e
  where
    go : (b : Bool) → cond b (eqb layer 0) (ltb layer layer_limit) ≡ true → layer < layer_limit
    go true h = let z = eqb-true layer 0 h in omega arith
    go false h = ltb-true layer layer_limit h

-- layer 0 goes with any status
pub layer_none : (status : ℕ) → layer_sound status 0 ≡ true
unfolding layer_sound
layer_none status = go (eqb status 0)
  where
    go : (b : Bool) → cond b (eqb 0 0) (ltb 0 layer_limit) ≡ true
    go true = refl
    go false = refl

-- "with F = 0 all are finished"
pub none_unfinished : (i s n d : ℕ) → i < 32 → place_sound s n d 0 ≡ true → n ≡ s - 1
none_unfinished i s n d h e = let r = place_ready 0 i s n d h e in go (dec_lt n (s - 1)) r
  where
    go : Dec (n < s - 1) → Ready 0 i (s - 1) n d → n ≡ s - 1
    go (yes l) r = absurd (let z = r.part l in omega arith)
    go (no l) r = omega arith

-- ---- what a store with no fault has: a mesh of vs vertices and ms faces, and 32 places that are ready
pub record Meshed (q : ℕ) (fs : List Float) (ws : List ℕ) (vs ms : ℕ) : Type 0 where
  pub floats : coords_from + 3 * vs ≤ length fs
  pub words : corners_from q + 3 * ms ≤ length ws
  pub verts : vs ≤ vertex_limit
  pub faces : ms ≤ face_limit
  pub corners : (j : ℕ) → j < 3 * ms → get_or ws (corners_from q + j) 0 < vs

pub record Worded (q : ℕ) (ws : List ℕ) (ms : ℕ) : Type 0 where
  pub long : corners_from q ≤ length ws
  pub few : ms ≤ face_limit
  pub place : (i : ℕ) → i < 32 → Ready ms i (status_of q ws i - 1) (finished_of q ws i) (done_of q ws i)
  pub layer : (i : ℕ) → i < 32 → layer_of q ws i < layer_limit

pub record Fine (q : ℕ) (fs : List Float) (ws : List ℕ) : Type 0 where
  pub mesh : Meshed q fs ws (verts_of ws) (faces_of ws)
  pub places : Worded q ws (faces_of ws)

module _ (q : ℕ) (fs : List Float) (ws : List ℕ) where
  pub long_words : long_enough q fs ws ≡ true → corners_from q + 3 * faces_of ws ≤ length ws
  unfolding long_enough
  long_words a = leb-true (corners_from q + 3 * faces_of ws) (length ws)
      (both (leb (corners_from q + 3 * faces_of ws) (length ws)) _ a).0

  fine-sound : long_enough q fs ws ≡ true → sound q ws ≡ true → Fine q fs ws
  unfolding long_enough sound place_sound_at
  fine-sound a b =
      let l = both (leb (corners_from q + 3 * faces_of ws) (length ws)) _ a in
      let r = both (leb (verts_of ws) vertex_limit && leb (faces_of ws) face_limit) _ b in
      let s = both (leb (verts_of ws) vertex_limit) (leb (faces_of ws) face_limit) r.0 in
      let t = both (every (place_sound_at q ws) place_limit) _ r.1 in
      let k = long_words a in
      let n : length (corners_of q ws) ≡ 3 * faces_of ws = length-take-le (3 * faces_of ws) _
      (rw length-drop (omega arith)) in
      record {
        mesh = record {
          floats = leb-true (coords_from + 3 * verts_of ws) (length fs) l.1;
          words = k;
          verts = leb-true (verts_of ws) vertex_limit s.0;
          faces = leb-true (faces_of ws) face_limit s.1;
          corners =
              λ j h. rw (get_or-take, get_or-drop) at (below_each (verts_of ws) (corners_of q ws) t.1 j (omega arith));
        };
        places = record {
          long = omega arith;
          few = leb-true (faces_of ws) face_limit s.1;
          place = λ i h.
              place_ready (faces_of ws) i (status_of q ws i) (finished_of q ws i) (done_of q ws i) h
              (both (place_sound (status_of q ws i) (finished_of q ws i) (done_of q ws i) (faces_of ws)) _
              (every_at (place_sound_at q ws) place_limit i h t.0)).0;
          layer = λ i h.
              layer_in_lem (status_of q ws i) (layer_of q ws i)
              (both (place_sound (status_of q ws i) (finished_of q ws i) (done_of q ws i) (faces_of ws)) _
              (every_at (place_sound_at q ws) place_limit i h t.0)).1;
        };
      }

  pub fine : store_check q fs ws ≡ passed → Fine q fs ws
  unfolding store_check
  fine e = go (long_enough q fs ws) (sound q ws) refl refl e
    where
      go : (a b : Bool) → long_enough q fs ws ≡ a → sound q ws ≡ b
          → cond a (cond b passed (Err Unsound)) (Err ShortStore) ≡ passed → Fine q fs ws
      go true true a b h = fine-sound a b
      go true false a b h = absurd (let z : ◌≡◌ {A = ℕ} 0 1 = cc in omega arith)
      go false t a b h = absurd (let z : ◌≡◌ {A = ℕ} 0 1 = cc in omega arith)

  pub record Open (i : ℕ) : Type 0 where
    pub all : Fine q fs ws
    pub place : i < 32

  pub place_open : (i : ℕ) → place_check q fs ws i ≡ passed → Open i
  unfolding place_check
  place_open i e =
      let p = passed-both (store_check q fs ws) (cond (ltb i place_limit) passed (Err NoPlace)) e in
      record { all = fine p.0; place = go (ltb i place_limit) refl p.1 }
    where
      go : (b : Bool) → ltb i place_limit ≡ b → cond b passed (Err NoPlace) ≡ passed → i < 32
      go true b h = ltb-true i 32 b
      go false b h = absurd (let z : ◌≡◌ {A = ℕ} 0 1 = cc in omega arith)

  pub filled_open : (i : ℕ) → filled_check q fs ws i ≡ passed → Open i
  unfolding filled_check
  filled_open i e =
      place_open i (passed-both (place_check q fs ws i) (cond (eqb (status_of q ws i) 0) (Err Vacant) passed) e).0
