-- 02, L7: the report of what is finished "equals the ordinary report of a store holding just those places", "is never
-- refused as unfinished", and is the ordinary report of its layers where nothing is left in them. Assumes nothing.
use Rattle.std.specs.Result.{result_and}
use Rattle.std.specs.Prelude.{◌≡◌, Bool, List, ℕ, zero, suc, ◌*◌, ◌-◌, ◌≤◌, ◌<◌, ltb, length, Float, Err}
use Rattle.std.proofs.Math.Path.{refl, sym}
use Rattle.std.proofs.Common.{◌∙◌, suc-mul}
use Rattle.std.proofs.Math.Bool.{true, false, cond}
use Rattle.std.proofs.Math.Decide.{dec_lt}
use native.Mathlib.Omega.{arith}
use Rattle.std.proofs.Math.Dec.{eqb}
use borrow.Author.Tests.{eqb-true, eqb-false, lt-ltb}
use Rattle.base.specs.Refusals.{number}
use Rattle.base.specs.Answers.{granted, passed}
use Rattle.base.specs.declared.refusal.Refusal.TheVariants.{ShortStore, Unsound, NoLayer, Unfinished}
use Rattle.density.specs.declared.convention.Convention.{Convention}
use Rattle.layout.specs.Layout.{place_limit, corners_from, faces_of, status_of, finished_of, done_of, layer_of}
use Rattle.layout.specs.Soundness.{long_enough, sound, store_check}
use Rattle.layout.specs.SoundLaws.{Ready, fine}
use Rattle.layout.specs.Left.{left_at, left_of}
use Rattle.layout.specs.LeftLaws.{left-none}
use Rattle.layout.specs.Layers.{in_set, all_layers, layers_check, in_layers}
use Rattle.layout.specs.HidingLaws.{hid-sound}
use Rattle.layout.specs.LayerLaws.{seen_faces, seen_status, seen_finished, seen_worded}
use Rattle.readings.specs.Readings.{report, answer_of, held_seen, read_step}
use Rattle.readings.specs.Finished.{complete_at, complete_in, passed_over_lem, beside, finished_step}
use Rattle.readings.specs.SeenLaws.{same-held, same_filled, same_worst, seen_body}
use Rattle.readings.specs.Layered.{reads_as_before}
use Rattle.reports.specs.FinishedLaws.{long-seen, complete_body, complete_status, complete_finished}

-- ---- work left, place by place
none_left : (q : ℕ) (ws : List ℕ) (m k : ℕ) → ((i : ℕ) → i < k → status_of q ws i - 1 ≤ finished_of q ws i)
    → left_of q ws m k ≡ 0
unfolding left_of
none_left q ws m zero h = refl
none_left q ws m (suc k) h =
    rw (
      none_left q ws m k (λ i l. h i (omega arith)),
      ← left-none m (status_of q ws k) (finished_of q ws k)
          (done_of q ws k) (h k (omega arith)),
    ) refl

each_left : (q : ℕ) (ws : List ℕ) (m k : ℕ) → left_of q ws m k ≡ 0 → (i : ℕ) → i < k → left_at q ws m i ≡ 0
unfolding left_of
each_left q ws m zero e i h = absurd (omega arith)
each_left q ws m (suc k) e i h = go (dec_lt i k) (each_left q ws m k (omega arith) i)
  where
    go : Dec (i < k) → (i < k → left_at q ws m i ≡ 0) → left_at q ws m i ≡ 0
    go (yes l) ih = ih l
    go (no l) ih = let z : i ≡ k = omega arith in rw z (omega arith)

-- a sound place with nothing left is complete
all_finished : (m i p n d : ℕ) → Ready m i p n d → (p - n) * m - d ≡ 0 → n ≡ p
all_finished m i p n d r e = go (p - n) refl e
  where
    go : (j : ℕ) → p - n ≡ j → j * m - d ≡ 0 → n ≡ p
    go zero f g = omega (arith, r.fits)
    go (suc j) f g = absurd (let a = r.part (omega arith) in let b = rw (suc-mul j m) at g in omega arith)

module _ (q : ℕ) (three : 3 ≤ q) (fs : List Float) (ws : List ℕ) (layers : ℕ) (v : Convention) where
  abbrev seen : List ℕ
  seen = in_layers q layers ws

  abbrev covered : List ℕ
  covered = complete_in q layers ws

  -- ---- what it covers is a sound store with nothing left
  module _ (ok : store_check q fs ws ≡ passed) where
    long : corners_from q ≤ length ws
    long = (fine q fs ws ok).places.long

    covered-sound : store_check q fs covered ≡ passed
    unfolding complete_in in_layers
    covered-sound =
        hid-sound q three (complete_at q ws) fs seen (long-seen q three layers ws long)
        (hid-sound q three (λ i. in_set layers (layer_of q ws i)) fs ws long ok)

    covered-complete : (i : ℕ) → i < 32 → status_of q covered i - 1 ≤ finished_of q covered i
    unfolding complete_at
    covered-complete i h =
        rw (
          complete_status q three layers ws long i h,
          complete_finished q three layers ws long i h,
          seen_status q layers ws long three i h,
          seen_finished q layers ws long three i h,
        )
        (go (status_of q ws i) (finished_of q ws i) (in_set layers (layer_of q ws i)) (complete_at q ws i) refl)
      where
        go : (s n : ℕ) (b c : Bool) → eqb n (s - 1) ≡ c → cond c (cond b s 0) 0 - 1 ≤ cond c (cond b n 0) 0
        go s n true true e = let z = eqb-true n (s - 1) e in omega arith
        go s n false true e = omega arith
        go s n b false e = omega arith

    covered-left : left_of q covered (faces_of covered) place_limit ≡ 0
    covered-left = none_left q covered (faces_of covered) 32 covered-complete

    -- "It equals the ordinary report of a store holding just those places"
    pub report_of_those : layers < 65536
        → finished_step q fs ws layers v ≡ beside (passed_over_lem q layers ws)
        (read_step q fs covered all_layers (report v)).reply
    unfolding finished_step layers_check
    report_of_those h =
        rw (ok, lt-ltb layers 65536 h, reads_as_before q fs covered (report v), covered-sound, covered-left) refl

    -- ---- with nothing left in its layers it covers all their places
    module _ (none : left_of q seen (faces_of seen) place_limit ≡ 0) where
      all-covered : (i : ℕ) → i < 32 → status_of q covered i ≡ status_of q seen i
      unfolding complete_at
      all-covered i h =
          let w = (fine q fs ws ok).places in
          let r = (seen_worded q layers three ws (faces_of ws) w).place i h in
          let f = seen_faces q layers ws long in
          let e = rw f at (each_left q seen (faces_of seen) 32 none i h) in
          let z = all_finished (faces_of ws) i (status_of q seen i - 1) (finished_of q seen i) (done_of q seen i) r e in
          complete_status q three layers ws long i h
          ∙ go (status_of q ws i) (finished_of q ws i) (in_set layers (layer_of q ws i)) (complete_at q ws i) refl
          (seen_status q layers ws long three i h) (seen_finished q layers ws long three i h) z
        where
          go : (s n : ℕ) (b c : Bool) → eqb n (s - 1) ≡ c → status_of q seen i ≡ cond b s 0
              → finished_of q seen i ≡ cond b n 0 → finished_of q seen i ≡ status_of q seen i - 1
              → cond c (status_of q seen i) 0 ≡ status_of q seen i
          go s n b true e x y z = refl
          go s n true false e x y z = absurd (eqb-false n (s - 1) e (omega arith))
          go s n false false e x y z = sym x

      all_seen : held_seen q fs covered ≡ held_seen q fs seen
      unfolding held_seen
      all_seen =
          rw (
            complete_body q three layers ws long fs,
            seen_body q fs ws layers long,
            same-held q fs covered seen 32 all-covered,
            same_filled q fs covered seen 32 all-covered,
            same_worst q fs covered seen 32 all-covered,
          ) refl

      none_passed : passed_over_lem q layers ws ≡ 0
      unfolding passed_over_lem
      none_passed = rw (same_filled q fs covered seen 32 all-covered) (omega arith)

      -- then it is their ordinary report and passes over none
      pub report_of_all : layers < 65536
          → finished_step q fs ws layers v ≡ beside 0 (read_step q fs ws layers (report v)).reply
      unfolding finished_step read_step layers_check
      report_of_all h = rw (ok, lt-ltb layers 65536 h, none, none_passed, all_seen) refl

  -- ---- "It is never refused as unfinished", whatever the runs hold
  pub never_unfinished : (finished_step q fs ws layers v).refusal ≡ number Unfinished → ⊥
  unfolding finished_step store_check layers_check
  never_unfinished = go (long_enough q fs ws) (sound q ws) (ltb layers 65536)
    where
      go : (a b c : Bool)
          → (granted (result_and (cond a (cond b passed (Err Unsound)) (Err ShortStore))
          (cond c passed (Err NoLayer)))
          (beside (passed_over_lem q layers ws) (answer_of (report v) (held_seen q fs covered)).reply)).refusal
          ≡ number Unfinished → ⊥
      go true true true e = omega arith
      go true true false e = omega arith
      go true false c e = omega arith
      go false b c e = omega arith
