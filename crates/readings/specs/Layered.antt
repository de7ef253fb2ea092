-- 02, L5: "with all sixteen it reads as before"; and what a reading of no layer answers. Assumes nothing.
use Rattle.std.specs.Result.{result_and}
use Rattle.std.specs.Prelude.{◌≡◌, Bool, ◌&&◌, length, Float, Ok, Err}
use Rattle.std.proofs.Math.Path.{refl}
use Rattle.std.proofs.Common.{ap, ◌∙◌, arith, le-leb}
use Rattle.std.proofs.Math.Bool.{true, false, cond}
use mathlib.Core.List.{List, [], ◌∷◌}
use Prim.Native.Nat.{ℕ, zero, suc, ◌≤◌, ◌<◌, ◌^◌}
use Rattle.std.proofs.Math.Nat.{zero-div, zero-mul, zero-sub}
use Rattle.base.specs.Floats.{+0}
use Rattle.base.specs.Loops.{times}
use Rattle.base.specs.Answers.{accepted, counted, Outcome, outcome, Checked, passed}
use Rattle.base.specs.declared.refusal.Refusal.TheVariants.{Unfinished}
use Rattle.volume.specs.Volume.{body_volume}
use Rattle.density.specs.declared.convention.Convention.{Convention}
use Rattle.density.specs.Densitize.{densitize_of}
use Rattle.density.specs.Reports.{report_of}
use Rattle.layout.specs.Layout.{place_limit, verts_of, faces_of, status_of, layer_of}
use Rattle.layout.specs.Soundness.{store_check}
use Rattle.layout.specs.SoundLaws.{fine}
use Rattle.layout.specs.Left.{held, left_of}
use Rattle.layout.specs.Layers.{in_set, all_layers, layers_check, in_layers}
use Rattle.layout.specs.LayerLaws.{all_sixteen, seen_status}
use Rattle.layout.specs.RunLaws.{write-none}
use Rattle.readings.specs.Readings.{density, report, list, Reading, needs_work, refusing, seeing, reported}
use Rattle.readings.specs.Readings.{raw_mass_lem, density_at, answer_of, reading_of, guarded_read, held_all_lem}
use Rattle.readings.specs.Readings.{held_filled, held_worst, held_seen, read_step}
use Rattle.readings.specs.SeenLaws.{seen_body}

-- ---- "with all sixteen it reads as before": as 01's reading, which knows of no layers
pub reads_as_before : (q : ℕ) (fs : List Float) (ws : List ℕ) (r : Reading)
    → read_step q fs ws all_layers r ≡ guarded_read (store_check q fs ws) r
    (reading_of r (left_of q ws (faces_of ws) place_limit) (held_seen q fs ws))
unfolding read_step layers_check
reads_as_before q fs ws r = go (store_check q fs ws) refl
  where
    before : List ℕ → Outcome
    before us = reading_of r (left_of q us (faces_of us) place_limit) (held_seen q fs us)

    go : (a : Checked) → store_check q fs ws ≡ a
        → guarded_read (result_and a passed) r (before (in_layers q all_layers ws)) ≡ guarded_read a r (before ws)
    go (Ok _) e = ap before (all_sixteen q fs ws e)
    go (Err x) e = refl

-- ---- places that are all empty: nothing is held, and nothing is left
module _ (q : ℕ) (fs : List Float) (ws : List ℕ) where
  none-held : (k : ℕ) → ((i : ℕ) → i < k → status_of q ws i ≡ 0) → held_all_lem q fs ws k ≡ []
  unfolding held_all_lem
  none-held zero h = refl
  none-held (suc k) h = rw (none-held k (λ i l. h i (omega arith)), h k (omega arith)) refl

  none_filled : (k : ℕ) → ((i : ℕ) → i < k → status_of q ws i ≡ 0) → held_filled q ws k ≡ 0
  unfolding held_filled
  none_filled zero h = refl
  none_filled (suc k) h = rw (none_filled k (λ i l. h i (omega arith)), h k (omega arith)) refl

  none-worst : (k : ℕ) → ((i : ℕ) → i < k → status_of q ws i ≡ 0) → held_worst q fs ws k ≡ +0
  unfolding held_worst
  none-worst zero h = refl
  none-worst (suc k) h = rw (h k (omega arith)) (none-worst k (λ i l. h i (omega arith)))

  none_left : (m k : ℕ) → ((i : ℕ) → i < k → status_of q ws i ≡ 0) → left_of q ws m k ≡ 0
  unfolding left_of
  none_left m zero h = refl
  none_left m (suc k) h =
      rw (none_left m k (λ i l. h i (omega arith)), h k (omega arith), zero-sub, zero-mul, zero-sub) refl

-- ---- a reading of no layer of a sound store sees no piece and is never unfinished; the volume is the whole mesh's
module _ (q : ℕ) (three : 3 ≤ q) (fs : List Float) (ws : List ℕ) (ok : store_check q fs ws ≡ passed) where
  abbrev body : Float
  body = body_volume (held q fs ws (verts_of ws) (faces_of ws)) (faces_of ws)

  abbrev S : List ℕ
  S = in_layers q 0 ws

  all-empty : (i : ℕ) → i < 32 → status_of q S i ≡ 0
  all-empty i h =
      let e : in_set 0 (layer_of q ws i) ≡ false = rw (zero-div (2 ^ layer_of q ws i)) refl in
      seen_status q 0 ws (fine q fs ws ok).places.long three i h ∙ rw e refl

  none_seen : held_seen q fs S ≡ seeing [] body 0 +0
  unfolding held_seen
  none_seen =
      rw (
        none-held q fs S 32 all-empty,
        none_filled q fs S 32 all-empty,
        none-worst q fs S 32 all-empty,
        seen_body q fs ws 0 (fine q fs ws ok).places.long,
      ) refl

  pub no_layer : (r : Reading) → read_step q fs ws 0 r ≡ answer_of r (seeing [] body 0 +0)
  unfolding read_step layers_check
  no_layer r = rw (ok, none_left q fs S (faces_of S) 32 all-empty, none_seen) (go (needs_work r))
    where
      go : (b : Bool) → cond (b && false) (refusing r Unfinished) (answer_of r (seeing [] body 0 +0))
          ≡ answer_of r (seeing [] body 0 +0)
      go true = refl
      go false = refl

  pub no_layer_density : (v : Convention) (x : List Float)
      → read_step q fs ws 0 (density v x) ≡ outcome (accepted (+0 ∷ [])) []
  unfolding density_at densitize_of times
  no_layer_density v x = no_layer (density v x)

  pub no_layer_list : (v : Convention) (out : List Float)
      → read_step q fs ws 0 (list v out) ≡ outcome (counted (0 ∷ [])) out
  no_layer_list v out = no_layer (list v out) ∙ rw (le-leb 0 (length out) (omega arith), write-none out 0) refl

  pub no_layer_report : (v : Convention)
      → read_step q fs ws 0 (report v) ≡ outcome (reported (report_of v +0 +0 body) 0 0 +0) []
  unfolding raw_mass_lem density_at densitize_of times
  no_layer_report v = no_layer (report v)
