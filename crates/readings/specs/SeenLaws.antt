-- A reading of some layers looks at the words up to the corners alone, with the places outside the layers empty, and at
-- the whole mesh. Assumes nothing.
use Rattle.base.specs.Answers.{Checked, passed}
use Rattle.std.specs.Prelude.{◌≡◌, Bool, true, false, cond, replicate, Float}
use Rattle.std.proofs.Math.Path.{refl, ap}
use Rattle.std.proofs.Common.{sym, ◌∙◌, arith}
use mathlib.Core.List.{List}
use Prim.Native.Nat.{ℕ, zero, suc, ◌+◌, ◌-◌, ◌*◌, ◌≤◌, ◌<◌}
use Rattle.std.proofs.Math.ListN.{length, take}
use Rattle.std.proofs.Math.Seq.{length-take-le}
use Rattle.volume.specs.Volume.{body_volume}
use Rattle.layout.specs.Layout.{width, place_limit, corners_from, verts_of, faces_of, status_of}
use Rattle.layout.specs.SoundLaws.{Worded, fine}
use Rattle.layout.specs.Left.{held, left_of}
use Rattle.layout.specs.Runs.{write}
use Rattle.layout.specs.RunLaws.{length-write}
use Rattle.layout.specs.Layers.{hiding, in_layers}
use Rattle.layout.specs.HidingLaws.{shown-next, hidden_next}
use Rattle.layout.specs.LayerLaws.{seen_verts, seen_faces, seen_corners, seen_worded, front_status, front_worded}
use Rattle.layout.specs.LayerLaws.{front-left}
use Rattle.layout.specs.HidingLaws.{hid_worded}
use Rattle.readings.specs.Readings.{Reading, needs_work, answer_of, guarded_read, seen_by_lem, held_all_lem}
use Rattle.readings.specs.Readings.{held_filled, held_worst, held_seen, read_step}
use Rattle.readings.specs.Checks.{read_check}
use Rattle.readings.specs.Seeing.{shown, showing}
use Rattle.readings.specs.ReadLaws.{read_as, read_passed}

-- ---- what is held of a place is told by its status
module _ (q : ℕ) (fs : List Float) (ws us : List ℕ) where
  pub same-held : (k : ℕ) → ((i : ℕ) → i < k → status_of q ws i ≡ status_of q us i)
      → held_all_lem q fs ws k ≡ held_all_lem q fs us k
  unfolding held_all_lem
  same-held zero h = refl
  same-held (suc k) h = rw (same-held k (λ i l. h i (omega arith)), h k (omega arith)) refl

  pub same_filled : (k : ℕ) → ((i : ℕ) → i < k → status_of q ws i ≡ status_of q us i)
      → held_filled q ws k ≡ held_filled q us k
  unfolding held_filled
  same_filled zero h = refl
  same_filled (suc k) h = rw (same_filled k (λ i l. h i (omega arith)), h k (omega arith)) refl

  pub same_worst : (k : ℕ) → ((i : ℕ) → i < k → status_of q ws i ≡ status_of q us i)
      → held_worst q fs ws k ≡ held_worst q fs us k
  unfolding held_worst
  same_worst zero h = refl
  same_worst (suc k) h = rw (same_worst k (λ i l. h i (omega arith)), h k (omega arith)) refl

-- ---- the volume is the whole mesh's
pub seen_body : (q : ℕ) (fs : List Float) (ws : List ℕ) (layers : ℕ) → corners_from q ≤ length ws
    → body_volume (held q fs (in_layers q layers ws) (verts_of (in_layers q layers ws))
    (faces_of (in_layers q layers ws)))
    (faces_of (in_layers q layers ws))
    ≡ body_volume (held q fs ws (verts_of ws) (faces_of ws)) (faces_of ws)
seen_body q fs ws layers long =
    rw (seen_verts q layers ws long, seen_faces q layers ws long, seen_corners q layers ws long) refl

pub seen_as : (q : ℕ) (fs : List Float) (ws : List ℕ) (layers : ℕ) → 3 ≤ q → corners_from q ≤ length ws
    → held_seen q fs (in_layers q layers ws)
    ≡ seen_by_lem q fs (take (corners_from q) (in_layers q layers ws))
    (body_volume (held q fs ws (verts_of ws) (faces_of ws)) (faces_of ws))
unfolding held_seen
seen_as q fs ws layers three long =
    let s = in_layers q layers ws in
    let t = take (corners_from q) s in
    let e : (i : ℕ) → i < 32 → status_of q s i ≡ status_of q t i = λ i h. sym (front_status q three s i h) in
    rw (seen_body q fs ws layers long, same-held q fs s t 32 e, same_filled q fs s t 32 e, same_worst q fs s t 32 e)
    refl

-- a reading that is not refused, by the words that are seen
pub read_seen : (q : ℕ) (fs : List Float) (ws : List ℕ) (layers : ℕ) (r : Reading) → 3 ≤ q
    → read_check q fs ws layers (needs_work r) ≡ passed
    → (s : List ℕ) → s ≡ take (corners_from q) (in_layers q layers ws)
    → read_step q fs ws layers r ≡ answer_of r
    (seen_by_lem q fs s (body_volume (held q fs ws (verts_of ws) (faces_of ws)) (faces_of ws)))
read_seen q fs ws layers r three h s e =
    let long = (fine q fs ws (read_passed q fs ws layers (needs_work r) h)).places.long in
    let body = body_volume (held q fs ws (verts_of ws) (faces_of ws)) (faces_of ws) in
    read_as q fs ws layers r
    ∙ (ap (λ (c : Checked). guarded_read c r (answer_of r (held_seen q fs (in_layers q layers ws)))) h
    ∙ ap (answer_of r) (seen_as q fs ws layers three long ∙ ap (λ (t : List ℕ). seen_by_lem q fs t body) (sym e)))

-- the words that are seen are those of a store whose places are sound
pub seen_ready : (layers : ℕ) (ws s : List ℕ) (m : ℕ) → s ≡ take (corners_from width) (in_layers width layers ws)
    → Worded width ws m → Worded width s m
seen_ready layers ws s m e w =
    rw e (front_worded width (omega arith) (in_layers width layers ws) m
    (seen_worded width layers (omega arith) ws m w))

-- and each place that is seen, of the complete ones too, has room for its pieces
pub shown_fit : (layers : ℕ) (only : Bool) (ws : List ℕ) {s : List ℕ} (m : ℕ)
    → s ≡ take (corners_from width) (showing width layers only ws)
    → Worded width ws m → (i : ℕ) → i < 32 → status_of width s i - 1 ≤ 16
unfolding showing
shown_fit layers only ws m e w i h =
    let test : ℕ → Bool = λ k. shown width layers only ws k in
    let r = front_worded width (omega arith) (showing width layers only ws) m
    (hid_worded width test ws w.long (omega arith) m w) in
    rw e ((r.place i h).pieces)

pub seen_left : (layers : ℕ) (ws s : List ℕ) (m : ℕ) → s ≡ take (corners_from width) (in_layers width layers ws)
    → left_of width s m place_limit ≡ left_of width (in_layers width layers ws) m place_limit
seen_left layers ws s m e =
    ap (λ (t : List ℕ). left_of width t m place_limit) e
    ∙ front-left width (omega arith) (in_layers width layers ws) m 32 (omega arith)

-- ---- the loop that empties the places that are not seen, in the words up to the corners
module _ (layers : ℕ) (only : Bool) (ws : List ℕ) where
  abbrev test : ℕ → Bool
  test i = shown width layers only ws i

  -- the places below k were looked at
  pub record Looked (k : ℕ) (s : List ℕ) : Type 0 where
    pub low : k ≤ 32
    pub size : length s ≡ 130
    pub same : s ≡ take 130 (hiding width test ws k)

  pub none_looked : corners_from width ≤ length ws → {s : List ℕ} → s ≡ take 130 ws → Looked 0 s
  unfolding hiding
  none_looked long e = record { low = omega arith; size = ap length e ∙ length-take-le 130 ws long; same = e }

  pub next_looked : corners_from width ≤ length ws → (k : ℕ) {s t : List ℕ} → Looked k s → k < 32
      → t ≡ cond (test k) s (write s (2 + 4 * k) (replicate 4 0)) → Looked (k + 1) t
  next_looked long k {s} {t} g h = go (test k) refl
    where
      go : (b : Bool) → test k ≡ b → t ≡ cond b s (write s (2 + 4 * k) (replicate 4 0)) → Looked (k + 1) t
      go true e r =
          record {
            low = omega arith;
            size = ap length r ∙ g.size;
            same = r ∙ (g.same ∙ shown-next width test ws long k h e);
          }
      go false e r =
          record {
            low = omega arith;
            size = ap length r ∙ (length-write s (2 + 4 * k) (replicate 4 0) (omega (arith, g.size)) ∙ g.size);
            same = r ∙ (ap (λ (l : List ℕ). write l (2 + 4 * k) (replicate 4 0)) g.same
                ∙ hidden_next width test ws long k h e);
          }

  pub all_looked : (k : ℕ) {s : List ℕ} → Looked k s → 32 ≤ k → s ≡ take 130 (showing width layers only ws)
  unfolding showing
  all_looked k g h = let e : k ≡ 32 = omega (arith, g.low) in rw e at g.same
