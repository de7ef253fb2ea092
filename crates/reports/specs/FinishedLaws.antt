-- The report of what is finished, as its code works it. Assumes nothing.
use Rattle.std.specs.Result.{result_and}
use Rattle.std.specs.Prelude.{◌≡◌, Bool, ◌&&◌, ℕ, zero, suc, ◌+◌, ◌-◌, ◌≤◌, ◌<◌, eqb, length, drop, Float, Err}
use Rattle.std.proofs.Math.Path.{refl, sym, ap}
use Rattle.std.proofs.Common.{◌∙◌, arith}
use Rattle.std.proofs.Math.Bool.{true, false, cond}
use mathlib.Core.List.{List, []}
use Rattle.std.proofs.Math.ListN.{take}
use Rattle.base.specs.Answers.{Answer, refused, Outcome, outcome, passed}
use Rattle.base.specs.declared.refusal.Refusal.{Refusal}
use Rattle.volume.specs.Volume.{body_volume}
use Rattle.density.specs.declared.convention.Convention.{Convention}
use Rattle.layout.specs.Layout.{width, place_limit, corners_from, verts_of, faces_of, status_of, finished_of, layer_of}
use Rattle.layout.specs.Soundness.{store_check}
use Rattle.layout.specs.SoundLaws.{Worded}
use Rattle.layout.specs.Left.{held}
use Rattle.layout.specs.Layers.{in_set, layers_check, in_layers}
use Rattle.layout.specs.HidingLaws.{hid_verts, hid_faces, hid_corners, hid_status, hid_finished, hid_worded}
use Rattle.layout.specs.LayerLaws.{seen-length, seen_verts, seen_faces, seen_corners, seen_status, front_status}
use Rattle.layout.specs.LayerLaws.{front_worded}
use Rattle.readings.specs.Readings.{Seen, report, answer_of, seen_by_lem, held_filled, held_seen}
use Rattle.readings.specs.Finished.{complete_at, complete_in, passed_over_lem, beside, finished_step}
use Rattle.readings.specs.Seeing.{shown, showing}
use Rattle.readings.specs.SeenLaws.{same-held, same_filled, same_worst}

-- where some places are emptied, no more are filled
pub fewer_filled : (q : ℕ) (us ws : List ℕ) (test : ℕ → Bool) (k : ℕ)
    → ((i : ℕ) → i < k → status_of q us i ≡ cond (test i) (status_of q ws i) 0)
    → held_filled q us k ≤ held_filled q ws k
unfolding held_filled
fewer_filled q us ws test zero h = omega arith
fewer_filled q us ws test (suc k) h =
    rw (h k (omega arith)) (go (held_filled q us k) (held_filled q ws k) (status_of q ws k) (test k)
    (fewer_filled q us ws test k (λ i l. h i (omega arith))))
  where
    go : (a b s : ℕ) (t : Bool) → a ≤ b → a + cond (eqb (cond t s 0) 0) 0 1 ≤ b + cond (eqb s 0) 0 1
    go a b s true l = omega arith
    go a b s false l = omega arith

module _ (q : ℕ) (three : 3 ≤ q) (layers : ℕ) (ws : List ℕ) (long : corners_from q ≤ length ws) where
  -- the words of its layers, those of the places that it covers, and both tests at once
  abbrev S : List ℕ
  S = in_layers q layers ws

  abbrev C : List ℕ
  C = complete_in q layers ws

  abbrev T : List ℕ
  T = showing q layers true ws

  pub long-seen : corners_from q ≤ length S
  long-seen = let n = seen-length q layers ws long in omega arith

  -- the mesh stays
  complete-verts : verts_of C ≡ verts_of ws
  unfolding complete_in
  complete-verts = hid_verts q (complete_at q ws) S long-seen ∙ seen_verts q layers ws long

  pub complete_faces : faces_of C ≡ faces_of ws
  unfolding complete_in
  complete_faces = hid_faces q (complete_at q ws) S long-seen ∙ seen_faces q layers ws long

  complete-corners : drop (corners_from q) C ≡ drop (corners_from q) ws
  unfolding complete_in
  complete-corners = hid_corners q (complete_at q ws) S long-seen ∙ seen_corners q layers ws long

  pub complete_body : (fs : List Float) → body_volume (held q fs C (verts_of C) (faces_of C)) (faces_of C)
      ≡ body_volume (held q fs ws (verts_of ws) (faces_of ws)) (faces_of ws)
  complete_body fs = rw (complete-verts, complete_faces, complete-corners) refl

  -- a place that is complete is as its layers show it, each other one empty
  pub complete_status : (i : ℕ) → i < 32 → status_of q C i ≡ cond (complete_at q ws i) (status_of q S i) 0
  unfolding complete_in
  complete_status i h = hid_status q (complete_at q ws) S long-seen three i h

  pub complete_finished : (i : ℕ) → i < 32 → finished_of q C i ≡ cond (complete_at q ws i) (finished_of q S i) 0
  unfolding complete_in
  complete_finished i h = hid_finished q (complete_at q ws) S long-seen three i h

  pub filled_complete : held_filled q C 32 ≤ held_filled q S 32
  filled_complete = fewer_filled q C S (complete_at q ws) 32 complete_status

  -- both tests at once show the same places
  at_once : (i : ℕ) → i < 32 → status_of q C i ≡ status_of q (take (corners_from q) T) i
  unfolding showing
  at_once i h =
      complete_status i h
      ∙ (rw (seen_status q layers ws long three i h)
      (go (complete_at q ws i) (in_set layers (layer_of q ws i)) (status_of q ws i))
      ∙ sym (front_status q three T i h ∙ hid_status q (λ i. shown q layers true ws i) ws long three i h))
    where
      go : (a b : Bool) (s : ℕ) → cond a (cond b s 0) 0 ≡ cond (a && b) s 0
      go true b s = refl
      go false b s = refl

  pub filled_at_once : held_filled q (take (corners_from q) T) 32 ≡ held_filled q C 32
  filled_at_once = sym (same_filled q [] C (take (corners_from q) T) 32 at_once)

  pub filled_seen : held_filled q (take (corners_from q) S) 32 ≡ held_filled q S 32
  filled_seen = same_filled q [] (take (corners_from q) S) S 32 (λ i h. front_status q three S i h)

  pub seen_at_once : (fs : List Float)
      → held_seen q fs C ≡ seen_by_lem q fs (take (corners_from q) T)
      (body_volume (held q fs ws (verts_of ws) (faces_of ws)) (faces_of ws))
  unfolding held_seen
  seen_at_once fs =
      let t = take (corners_from q) T in
      rw
      (complete_body fs, same-held q fs C t 32 at_once, same_filled q fs C t 32 at_once, same_worst q fs C t 32 at_once)
      refl

-- the words that are covered are those of a store whose places are sound
pub complete_ready : (layers : ℕ) (ws t : List ℕ) (m : ℕ) → t ≡ take (corners_from width) (showing width layers true ws)
    → Worded width ws m → Worded width t m
unfolding showing
complete_ready layers ws t m e w =
    rw e
    (front_worded width (omega arith) (showing width layers true ws) m
    (hid_worded width (λ i. shown width layers true ws i) ws w.long (omega arith) m w))

-- ---- the call's two answers, and the subtraction that it makes
module _ (fs : List Float) (ws : List ℕ) (layers : ℕ) where
  pub covered_fewer : (s t : List ℕ) → corners_from width ≤ length ws
      → s ≡ take (corners_from width) (in_layers width layers ws)
      → t ≡ take (corners_from width) (showing width layers true ws)
      → held_filled width t place_limit ≤ held_filled width s place_limit
  covered_fewer s t long d e =
      rw (d, e, filled_at_once width (omega arith) layers ws long, filled_seen width (omega arith) layers ws long)
      (filled_complete width (omega arith) layers ws long)

  pub passed_is : (s t : List ℕ) → corners_from width ≤ length ws
      → s ≡ take (corners_from width) (in_layers width layers ws)
      → t ≡ take (corners_from width) (showing width layers true ws)
      → held_filled width s place_limit - held_filled width t place_limit ≡ passed_over_lem width layers ws
  unfolding passed_over_lem
  passed_is s t long d e =
      rw (d, e, filled_at_once width (omega arith) layers ws long, filled_seen width (omega arith) layers ws long) refl

  pub finished_refused : (v : Convention) (r : Refusal)
      → result_and (store_check width fs ws) (layers_check layers) ≡ Err r
      → refused r ≡ finished_step width fs ws layers v
  unfolding finished_step
  finished_refused v r h = rw h refl

  pub finished_told : (v : Convention) → result_and (store_check width fs ws) (layers_check layers) ≡ passed
      → corners_from width ≤ length ws
      → (t : List ℕ) → t ≡ take (corners_from width) (showing width layers true ws)
      → (n : ℕ) → n ≡ passed_over_lem width layers ws
      → (a : Answer) → outcome a [] ≡ answer_of (report v)
      (seen_by_lem width fs t (body_volume (held width fs ws (verts_of ws) (faces_of ws)) (faces_of ws)))
      → beside n a ≡ finished_step width fs ws layers v
  unfolding finished_step
  finished_told v h long t e n p a g =
      let b = body_volume (held width fs ws (verts_of ws) (faces_of ws)) (faces_of ws) in
      let x : a ≡ (answer_of (report v) (held_seen width fs (complete_in width layers ws))).reply
      = ap (λ (o : Outcome). o.reply) g
      ∙ ap (λ (l : List ℕ). (answer_of (report v) (seen_by_lem width fs l b)).reply) e
      ∙ sym (ap (λ (z : Seen). (answer_of (report v) z).reply) (seen_at_once width (omega arith) layers ws long fs)) in
      rw (h, p) (ap (beside (passed_over_lem width layers ws)) x)
