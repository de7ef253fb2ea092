-- The readings' definitions, as their code works them. Assumes nothing.
use Rattle.std.specs.Result.{result_and}
use Rattle.std.specs.Prelude.{◌≡◌, refl, Bool, true, false, ◌&&◌, List, [], ◌∷◌, map, ℕ, ◌*◌, ◌≤◌, ◌<◌, length, Float, Ok, Err}
use Rattle.std.proofs.Math.Path.{sym, ap}
use Rattle.std.proofs.Common.{◌∙◌, le-leb}
use Rattle.std.proofs.Math.Bool.{cond}
use Rattle.std.proofs.lemmas.List.{length-map}
use Rattle.std.proofs.lemmas.Bool.{lt-leb}
use Rattle.layout.specs.Runs.{write}
use Rattle.readings.specs.Lists.{rescaled_sixes}
use Rattle.std.proofs.Math.Dec.{ltb}
use Rattle.base.specs.Answers.{refused, counted, Outcome, outcome, Checked, passed}
use Rattle.base.specs.declared.refusal.Refusal.{Refusal}
use Rattle.base.specs.declared.refusal.Refusal.TheVariants.{Unfinished, ShortList}
use Rattle.layout.specs.Layout.{place_limit, faces_of}
use Rattle.layout.specs.Soundness.{store_check}
use Rattle.layout.specs.SoundLaws.{Fine, fine, passed-both}
use Rattle.layout.specs.Left.{left_of}
use Rattle.layout.specs.Layers.{layers_check, in_layers}
use Rattle.layout.specs.LayerLaws.{seen_faces}
use Rattle.readings.specs.Readings.{Part, bare, listing, Reading, needs_work, answer_of, refusing, guarded_read}
use Rattle.readings.specs.Readings.{held_seen, read_step}
use Rattle.readings.specs.Checks.{read_check}

-- a reading is its check, then its answer
pub read_as : (q : ℕ) (fs : List Float) (ws : List ℕ) (layers : ℕ) (r : Reading)
    → read_step q fs ws layers r ≡ guarded_read (read_check q fs ws layers (needs_work r)) r
    (answer_of r (held_seen q fs (in_layers q layers ws)))
unfolding read_step read_check
read_as q fs ws layers r =
    go (result_and (store_check q fs ws) (layers_check layers))
    (needs_work r && ltb 0 (left_of q (in_layers q layers ws) (faces_of (in_layers q layers ws)) place_limit))
  where
    A : Outcome
    A = answer_of r (held_seen q fs (in_layers q layers ws))

    go : (a : Checked) (b : Bool) → guarded_read a r (cond b (refusing r Unfinished) A)
        ≡ guarded_read (result_and a (cond b (Err Unfinished) passed)) r A
    go (Ok _) true = refl
    go (Ok _) false = refl
    go (Err e) b = refl

-- it passes only on a store that passes
pub read_passed : (q : ℕ) (fs : List Float) (ws : List ℕ) (layers : ℕ) (needs : Bool)
    → read_check q fs ws layers needs ≡ passed → store_check q fs ws ≡ passed
unfolding read_check
read_passed q fs ws layers needs h =
    (passed-both (store_check q fs ws) _ (passed-both (result_and (store_check q fs ws) (layers_check layers)) _ h).0).0

pub read_fine : (q : ℕ) (fs : List Float) (ws : List ℕ) (layers : ℕ) (needs : Bool) {c : Checked}
    → c ≡ read_check q fs ws layers needs → c ≡ passed → Fine q fs ws
read_fine q fs ws layers needs e h = fine q fs ws (read_passed q fs ws layers needs (sym e ∙ h))

pub read_refused : (q : ℕ) (fs : List Float) (ws : List ℕ) (layers : ℕ) (r : Reading) (e : Refusal)
    → read_check q fs ws layers (needs_work r) ≡ Err e → read_step q fs ws layers r ≡ refusing r e
read_refused q fs ws layers r e h =
    read_as q fs ws layers r ∙ ap (λ (c : Checked). guarded_read c r
    (answer_of r (held_seen q fs (in_layers q layers ws)))) h

-- ---- a check of the store and of the layers that ended in c, and what follows then
module _ (q : ℕ) (fs : List Float) (ws : List ℕ) (layers : ℕ) {c : Checked}
    (e : c ≡ result_and (store_check q fs ws) (layers_check layers)) where
  pub check_fine : c ≡ passed → Fine q fs ws
  check_fine h = fine q fs ws (passed-both (store_check q fs ws) (layers_check layers) (sym e ∙ h)).0

  abbrev then : Bool → Checked → Checked
  then needs a =
      result_and a (cond (needs
      && ltb 0 (left_of q (in_layers q layers ws) (faces_of (in_layers q layers ws)) place_limit))
      (Err Unfinished) passed)

  pub check_failed : (needs : Bool) (r : Refusal) → c ≡ Err r → Err r ≡ read_check q fs ws layers needs
  unfolding read_check
  check_failed needs r h = ap (then needs) (sym h ∙ e)

  pub check_idle : (needs : Bool) → c ≡ passed → needs ≡ false → passed ≡ read_check q fs ws layers needs
  unfolding read_check
  check_idle needs h n = ap (λ (b : Bool). then b passed) (sym n) ∙ ap (then needs) (sym h ∙ e)

  pub check_work : (needs b : Bool) (m : ℕ) → c ≡ passed → needs ≡ true → m ≡ faces_of ws
      → b ≡ ltb 0 (left_of q (in_layers q layers ws) m place_limit)
      → cond b (Err Unfinished) passed ≡ read_check q fs ws layers needs
  unfolding read_check
  check_work needs b m h n k l =
      let f : m ≡ faces_of (in_layers q layers ws) = k ∙ sym (seen_faces q layers ws (check_fine h).places.long) in
      let g : b ≡ ltb 0 (left_of q (in_layers q layers ws) (faces_of (in_layers q layers ws)) place_limit)
      = l ∙ ap (λ (x : ℕ). ltb 0 (left_of q (in_layers q layers ws) x place_limit)) f in
      ap (λ (x : Bool). cond x (Err Unfinished) passed) g
      ∙ (ap (λ (x : Bool). then x passed) (sym n) ∙ ap (then needs) (sym h ∙ e))

-- a list's two answers
module _ (s : Float) (ps : List Part) (out : List Float) (n : ℕ) (e : n ≡ length ps) where
  pub listing_in : (out' : List Float) → 6 * n ≤ length out → out' ≡ write out 0 (rescaled_sixes s ps)
      → outcome (counted (n ∷ [])) out' ≡ listing s (map bare ps) out
  listing_in out' h r =
      let k : length (map bare ps) ≡ n = length-map ps bare ∙ sym e in
      rw (k, le-leb (6 * n) (length out) h, r) refl

  pub listing_out : length out < 6 * n → outcome (refused ShortList) out ≡ listing s (map bare ps) out
  listing_out h =
      let k : length (map bare ps) ≡ n = length-map ps bare ∙ sym e in
      rw (k, lt-leb (6 * n) (length out) h) refl
