-- 02, L1: "Every density equals the single reading at that point"; what a track leaves. Assumes nothing.
use Rattle.std.specs.Result.{result_and}
use Rattle.std.specs.Prelude.{◌≡◌, Bool, ◌&&◌, cond, List, [], ◌∷◌, ◌++◌, map, ℕ, ◌/◌, ◌<◌, length, Float, Ok, Err}
use Rattle.std.proofs.Math.Path.{refl, ap}
use Rattle.std.proofs.Common.{sym, ◌∙◌, zero-add, arith, get_or-take, le-leb}
use Rattle.std.proofs.Math.Bool.{true, false}
use Rattle.std.proofs.Math.Dec.{ltb}
use Rattle.std.proofs.Math.ListN.{get_or, drop}
use Rattle.std.proofs.Math.Seq.{take-append_seam, drop-append_seam}
use Rattle.std.specs.Float.Ieee.{nan}
use Rattle.base.specs.Answers.{accepted, counted, Outcome, outcome, guarded_run, Checked, passed}
use Rattle.base.specs.RefusalLaws.{not-zero}
use Rattle.base.specs.declared.refusal.Refusal.TheVariants.{Unfinished}
use Rattle.density.specs.declared.convention.Convention.{Convention}
use Rattle.layout.specs.Layout.{place_limit, faces_of}
use Rattle.layout.specs.Soundness.{store_check}
use Rattle.layout.specs.Left.{left_of}
use Rattle.layout.specs.Layers.{layers_check, in_layers}
use Rattle.layout.specs.Runs.{write}
use Rattle.along.specs.Along.{point_at, along}
use Rattle.along.specs.AlongLaws.{stretch-length, stretch_at}
use Rattle.readings.specs.Readings.{density, track, by_mass, bare, rescaled, applied, density_at, track_check}
use Rattle.readings.specs.Readings.{held_seen, refusing, guarded_read, read_step}

-- the words written, and those past them
front : (vs l : List Float) (i : ℕ) (d : Float) → i < length vs → get_or (write l 0 vs) i d ≡ get_or vs i d
unfolding write
front vs l i d h = sym (get_or-take (length vs) (vs ++ drop (length vs) l) i d h)
    ∙ ap (λ (r : List Float). get_or r i d) (take-append_seam vs (drop (length vs) l))

past : (vs l : List Float) → drop (length vs) (write l 0 vs) ≡ drop (length vs) l
unfolding write
past vs l = drop-append_seam vs (drop (length vs) l)

-- "A track of no points .. succeeds where no refusal before 14 applies"
pub no_points : (room : ℕ) → track_check 0 room ≡ passed
unfolding track_check
no_points room = rw (le-leb 0 room (omega arith)) refl

module _ (q : ℕ) (fs : List Float) (ws : List ℕ) (layers : ℕ) (v : Convention) (points out : List Float) where
  abbrev S : List ℕ
  S = in_layers q layers ws

  -- 4, 5 or 16
  abbrev C : Checked
  C = result_and (store_check q fs ws) (layers_check layers)

  abbrev F : List Float → Float
  F = density_at (map (rescaled (applied v (held_seen q fs S).parts)) (map bare (held_seen q fs S).parts))

  abbrev W : List Float
  W = write out 0 (along F points (length points / 3))

  abbrev one : Checked → Bool → List Float → Outcome
  one a b x =
      guarded_read a (density v x) (cond b (refusing (density v x) Unfinished) (outcome (accepted (F x ∷ [])) []))

  abbrev all : Checked → Bool → Checked → Outcome
  all a b c = guarded_read a (track v points out)
      (cond b (refusing (track v points out) Unfinished)
      (guarded_run c out (outcome (counted (length points / 3 ∷ [])) W)))

  abbrev got : Outcome
  got = read_step q fs ws layers (track v points out)

  -- where the track is not refused, the density reading at each of its points is not, and answers the word that is
  -- written there
  pub each_point : (i : ℕ) → i < length points / 3 → got.reply.refusal ≡ 0
      → read_step q fs ws layers (density v (point_at points i)) ≡ outcome (accepted (get_or got.out i nan ∷ [])) []
  unfolding read_step
  each_point i l =
      go C (by_mass v && ltb 0 (left_of q S (faces_of S) place_limit)) (track_check (length points) (length out))
    where
      word : get_or W i nan ≡ F (point_at points i)
      word = front (along F points (length points / 3)) out i nan
          (rw (stretch-length F points 0 (length points / 3)) l)
          ∙ (stretch_at F points 0 (length points / 3) i nan l ∙ ap (λ (n : ℕ). F (point_at points n)) (zero-add i))

      go : (a : Checked) (b : Bool) (c : Checked) → (all a b c).reply.refusal ≡ 0
          → one a b (point_at points i) ≡ outcome (accepted (get_or (all a b c).out i nan ∷ [])) []
      go (Err e) b c h = not-zero e h
      go (Ok _) true c h = absurd (omega arith)
      go (Ok _) false (Err e) h = not-zero e h
      go (Ok _) false (Ok _) h = rw word refl

  -- "a run's words past what a call writes stay untouched"
  pub rest-stays : drop (length points / 3) got.out ≡ drop (length points / 3) out
  unfolding read_step
  rest-stays = go C (by_mass v && ltb 0 (left_of q S (faces_of S) place_limit))
      (track_check (length points) (length out))
    where
      go : (a : Checked) (b : Bool) (c : Checked)
          → drop (length points / 3) (all a b c).out ≡ drop (length points / 3) out
      go (Err e) b c = refl
      go (Ok _) true c = refl
      go (Ok _) false (Err e) = refl
      go (Ok _) false (Ok _) =
          let n = stretch-length F points 0 (length points / 3) in
          ap (λ (k : ℕ). drop k W) (sym n)
          ∙ (past (along F points (length points / 3)) out ∙ ap (λ (k : ℕ). drop k out) n)

  -- "for 8 a track counts as a density": where the density reading is refused, the track is refused alike
  pub refused-alike : (x : List Float) → ((read_step q fs ws layers (density v x)).reply.refusal ≡ 0 → ⊥)
      → got.reply ≡ (read_step q fs ws layers (density v x)).reply
  unfolding read_step
  refused-alike x =
      go C (by_mass v && ltb 0 (left_of q S (faces_of S) place_limit)) (track_check (length points) (length out))
    where
      go : (a : Checked) (b : Bool) (c : Checked) → ((one a b x).reply.refusal ≡ 0 → ⊥)
          → (all a b c).reply ≡ (one a b x).reply
      go (Err e) b c h = refl
      go (Ok _) true c h = refl
      go (Ok _) false c h = absurd (h refl)
