-- What a carry that is not refused was given, and the places' records one after another. Assumes nothing.
use Rattle.base.specs.Answers.{passed}
use mathlib.Core.Path.{◌≡◌, refl, sym, ◌∙◌}
use mathlib.Core.Bool.{Bool, true, false}
use mathlib.Core.List.{List, [], ◌∷◌}
use Prim.Native.Nat.{ℕ, zero, suc, ◌+◌, ◌*◌, ◌≤◌, ◌<◌}
use native.Mathlib.Nat.{mul-suc}
use native.Mathlib.Numerals.{add-one}
use native.Mathlib.Omega.{arith}
use lib.Dec.{leb}
use lib.ListN.{length, set, length-set, length-append}
use lib.Ieee.{Float}
use borrow.Author.Tests.{leb-true}
use Rattle.layout.specs.Layout.{width, place_limit, coords_from, corners_from, verts_of, faces_of, status_of}
use Rattle.layout.specs.Layout.{finished_of, done_of}
use Rattle.layout.specs.Runs.{write}
use Rattle.layout.specs.RunLaws.{sets-write, write-more, write-none}
use Rattle.layout.specs.Soundness.{long_enough, sound, store_check}
use Rattle.layout.specs.SoundLaws.{Fine, fine, both}
use Rattle.carry.specs.Carry.{old_width, carried_rows, room_for, carry_check}

-- ---- an old store with no fault, and room for it
pub record Carries (fs : List Float) (ws : List ℕ) (gs : List Float) (us : List ℕ) : Type 0 where
  pub old : Fine old_width fs ws
  pub words : corners_from width + 3 * faces_of ws ≤ length us
  pub floats : coords_from + 3 * verts_of ws ≤ length gs

pub carry_passes : (fs : List Float) (ws : List ℕ) (gs : List Float) (us : List ℕ) → carry_check fs ws gs us ≡ passed
    → Carries fs ws gs us
unfolding carry_check store_check
carry_passes fs ws gs us h = go (long_enough old_width fs ws) (room_for ws gs us) (sound old_width ws) refl refl refl
  where
    go : (a b d : Bool) → long_enough old_width fs ws ≡ a → room_for ws gs us ≡ b → sound old_width ws ≡ d
        → Carries fs ws gs us
    go true true true x y z =
        let r = both (leb (corners_from width + 3 * faces_of ws) (length us))
        (leb (coords_from + 3 * verts_of ws) (length gs)) y in
        record {
          old = fine old_width fs ws (rw (x, z) refl);
          words = leb-true (corners_from width + 3 * faces_of ws) (length us) r.0;
          floats = leb-true (coords_from + 3 * verts_of ws) (length gs) r.1;
        }
    go false b d x y z = absurd (let e = simp (x, y, z) at h in let o : ◌≡◌ {A = ℕ} 0 1 = cc in omega arith)
    go true false true x y z = absurd (let e = simp (x, y, z) at h in let o : ◌≡◌ {A = ℕ} 0 1 = cc in omega arith)
    go true false false x y z = absurd (let e = simp (x, y, z) at h in let o : ◌≡◌ {A = ℕ} 0 1 = cc in omega arith)
    go true true false x y z = absurd (let e = simp (x, y, z) at h in let o : ◌≡◌ {A = ℕ} 0 1 = cc in omega arith)

-- ---- the records of the places below k stand in u, which was l
pub rows-length : (ws : List ℕ) (k : ℕ) → length (carried_rows ws k) ≡ 4 * k
unfolding carried_rows
rows-length ws zero = refl
rows-length ws (suc k) = rw (length-append, mul-suc, rows-length ws k) (omega arith)

pub record Rowed (l ws : List ℕ) (k : ℕ) (u : List ℕ) : Type 0 where
  pub within : k ≤ place_limit
  pub long : length u ≡ length l
  pub same : u ≡ write l 2 (carried_rows ws k)

pub none_rowed : (l ws : List ℕ) → Rowed l ws 0 l
unfolding carried_rows
none_rowed l ws = record { within = omega arith; long = refl; same = sym (write-none l 2) }

module _ {l ws : List ℕ} {k : ℕ} {u : List ℕ} (c : Rowed l ws k u) (h : k < place_limit)
    (b : corners_from width ≤ length l) where
  abbrev row : List ℕ
  row = status_of old_width ws k ∷ finished_of old_width ws k ∷ done_of old_width ws k ∷ 0 ∷ []

  abbrev filled : List ℕ
  filled =
      set
      (set (set (set u (2 + 4 * k) (status_of old_width ws k)) (3 + 4 * k) (finished_of old_width ws k)) (4 + 4 * k)
      (done_of old_width ws k)) (5 + 4 * k) 0

  filled_is : filled ≡ write l 2 (carried_rows ws (k + 1))
  unfolding carried_rows
  filled_is =
      let m = c.long in
      let n = rows-length ws k in
      let e : 3 + 4 * k ≡ suc (2 + 4 * k) = omega arith in
      let f : 4 + 4 * k ≡ suc (suc (2 + 4 * k)) = omega arith in
      let g : 5 + 4 * k ≡ suc (suc (suc (2 + 4 * k))) = omega arith in
      let s : filled ≡ write u (2 + 4 * k) row = rw (e, f, g) (sets-write row u (2 + 4 * k) (omega arith)) in
      let p : 2 + 4 * k ≡ 2 + length (carried_rows ws k) = omega arith in
      s ∙ rw (add-one, c.same, p) (write-more l 2 (carried_rows ws k) row (omega arith))

  pub one_rowed : Rowed l ws (k + 1) filled
  one_rowed = record { within = omega arith; long = simp length-set c.long; same = filled_is }
