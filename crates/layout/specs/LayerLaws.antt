-- What a reading of a set of layers sees of the words: the places of the set as they are, each other place empty, and
-- the mesh. Assumes nothing.
use Rattle.base.specs.Answers.{passed}
use Rattle.std.specs.Prelude.{◌≡◌, refl, Bool, true, false, cond, List, ℕ, zero, suc, ◌+◌, ◌*◌, ◌≤◌, ◌<◌, ltb, length}
use Rattle.std.specs.Prelude.{get_or, take, drop, Float}
use Rattle.std.proofs.Common.{mul-le-mul, mul-suc, le_refl, arith, get_or-take, length-take-le, ltb-true}
use Rattle.base.specs.Loops.{every}
use Rattle.base.specs.LoopLaws.{every_at}
use Rattle.layout.specs.Layout.{layer_limit, state_from, corners_from, verts_of, faces_of, status_of, finished_of}
use Rattle.layout.specs.Layout.{done_of, layer_of}
use Rattle.layout.specs.Soundness.{store_check}
use Rattle.layout.specs.SoundLaws.{Worded, fine}
use Rattle.layout.specs.Left.{left_of}
use Rattle.layout.specs.Layers.{in_set, all_layers, in_layers}
use Rattle.layout.specs.HidingLaws.{hiding-length, hiding-none, hid_verts, hid_faces, hid_corners, hid_status}
use Rattle.layout.specs.HidingLaws.{hid_finished, hid_worded}

-- ---- the words as a reading of some layers sees them
module _ (q : ℕ) (layers : ℕ) (ws : List ℕ) (long : corners_from q ≤ length ws) where
  abbrev shown : ℕ → Bool
  shown i = in_set layers (layer_of q ws i)

  abbrev seen : List ℕ
  seen = in_layers q layers ws

  pub seen-length : length seen ≡ length ws
  unfolding in_layers
  seen-length = hiding-length q shown ws long 32 (omega arith)

  -- V and F, and the corners
  pub seen_verts : verts_of seen ≡ verts_of ws
  unfolding in_layers
  seen_verts = hid_verts q shown ws long

  pub seen_faces : faces_of seen ≡ faces_of ws
  unfolding in_layers
  seen_faces = hid_faces q shown ws long

  pub seen_corners : drop (corners_from q) seen ≡ drop (corners_from q) ws
  unfolding in_layers
  seen_corners = hid_corners q shown ws long

  -- a place of the set is as it is, each other place empty
  pub seen_status : 3 ≤ q → (i : ℕ) → i < 32 → status_of q seen i ≡ cond (shown i) (status_of q ws i) 0
  unfolding in_layers
  seen_status three i h = hid_status q shown ws long three i h

  pub seen_finished : 3 ≤ q → (i : ℕ) → i < 32 → finished_of q seen i ≡ cond (shown i) (finished_of q ws i) 0
  unfolding in_layers
  seen_finished three i h = hid_finished q shown ws long three i h

-- the places are sound as they are seen
pub seen_worded : (q layers : ℕ) → 3 ≤ q → (ws : List ℕ) (m : ℕ) → Worded q ws m → Worded q (in_layers q layers ws) m
unfolding in_layers
seen_worded q layers three ws m w = hid_worded q (λ i. in_set layers (layer_of q ws i)) ws w.long three m w

-- "with all sixteen it reads as before": such a reading sees every word of a sound store as it is
every_layer : (l : ℕ) → l < layer_limit → in_set all_layers l ≡ true
unfolding every
every_layer l h = every_at (in_set all_layers) layer_limit l h refl

pub all_sixteen : (q : ℕ) (fs : List Float) (ws : List ℕ) → store_check q fs ws ≡ passed
    → in_layers q all_layers ws ≡ ws
unfolding in_layers
all_sixteen q fs ws e =
    let w = (fine q fs ws e).places in
    hiding-none q (λ i. in_set all_layers (layer_of q ws i)) ws w.long 32
    (λ i h. every_layer (layer_of q ws i) (w.layer i h))

-- ---- the words up to the corners hold all of the places
module _ (q : ℕ) (three : 3 ≤ q) (ws : List ℕ) (i : ℕ) (h : i < 32) where
  below : (j : ℕ) → j < q → state_from q i + j < corners_from q
  below j l = let z : q * suc i ≤ q * 32 = mul-le-mul (le_refl q) h in let y = rw (mul-suc q i) at z in omega arith

  pub front_status : status_of q (take (corners_from q) ws) i ≡ status_of q ws i
  front_status = let z = below 0 (omega arith) in get_or-take (corners_from q) ws (2 + q * i) 0 (omega arith)

  pub front_finished : finished_of q (take (corners_from q) ws) i ≡ finished_of q ws i
  front_finished = let z = below 1 (omega arith) in get_or-take (corners_from q) ws (3 + q * i) 0 (omega arith)

  pub front-done : done_of q (take (corners_from q) ws) i ≡ done_of q ws i
  front-done = let z = below 2 (omega arith) in get_or-take (corners_from q) ws (4 + q * i) 0 (omega arith)

  pub front_layer : layer_of q (take (corners_from q) ws) i ≡ layer_of q ws i
  front_layer = go (ltb 3 q) refl
    where
      go : (b : Bool) → ltb 3 q ≡ b → cond b (get_or (take (corners_from q) ws) (5 + q * i) 0) 0
          ≡ cond b (get_or ws (5 + q * i) 0) 0
      go true e = let z = below 3 (ltb-true 3 q e) in get_or-take (corners_from q) ws (5 + q * i) 0 (omega arith)
      go false e = refl

pub front_worded : (q : ℕ) → 3 ≤ q → (ws : List ℕ) (m : ℕ) → Worded q ws m → Worded q (take (corners_from q) ws) m
front_worded q three ws m w =
    record {
      long = let n = length-take-le (corners_from q) ws w.long in omega arith;
      few = w.few;
      place = λ i h. rw (front_status q three ws i h, front_finished q three ws i h, front-done q three ws i h)
          (w.place i h);
      layer = λ i h. rw (front_layer q three ws i h) (w.layer i h);
    }

pub front-left : (q : ℕ) → 3 ≤ q → (ws : List ℕ) (m k : ℕ) → k ≤ 32
    → left_of q (take (corners_from q) ws) m k ≡ left_of q ws m k
unfolding left_of
front-left q three ws m zero h = refl
front-left q three ws m (suc k) h =
    rw (
      front-left q three ws m k (omega arith),
      front_status q three ws k h,
      front_finished q three ws k h,
      front-done q three ws k h,
    ) refl
