-- What the call hands on, and that what comes back is `squeeze_step`. Assumes nothing.
use mathlib.Core.Path.{◌≡◌, refl, ap, ◌∙◌}
use mathlib.Core.List.{List, [], ◌∷◌, ◌++◌}
use Prim.Native.Nat.{ℕ, ◌+◌, ◌*◌, ◌-◌, ◌≤◌}
use native.Mathlib.Omega.{arith}
use lib.ListN.{length, get_or, take, drop, set, length-map}
use lib.Seq.{get_or-take, get_or-drop}
use lib.Ieee.{Float}
use Rattle.base.specs.Answers.{counted, passed}
use Rattle.layout.specs.RunLaws.{length_part}
use Rattle.layout.specs.Layout.{width, coords_from, corners_from, verts_of, faces_of}
use Rattle.layout.specs.Soundness.{store_check}
use Rattle.layout.specs.SoundLaws.{fine}
use Rattle.layout.specs.After.{after}
use Rattle.squeeze.specs.Squeeze.{rank, renumbered, squeezed, squeeze_step}
use Rattle.squeeze.specs.Marks.{MeshOf}
use Rattle.squeeze.specs.MarkLaws.{rank-le}
use Rattle.squeeze.specs.SqueezeLaws.{squeezed-length, part-write}

module _ (fs : List Float) (ws : List ℕ) (ok : store_check width fs ws ≡ passed) where
  abbrev vs : ℕ
  vs = verts_of ws

  abbrev ms : ℕ
  ms = faces_of ws

  -- the parts as the code lends them
  abbrev XS : List Float
  XS = take (coords_from + 3 * vs - coords_from) (drop coords_from fs)

  abbrev KS : List ℕ
  KS = take (corners_from width + 3 * ms - corners_from width) (drop (corners_from width) ws)

  long-corners : length KS ≡ 3 * ms
  long-corners = length_part ws (corners_from width) (3 * ms) (fine width fs ws ok).mesh.words

  pub mesh_held : MeshOf XS KS vs
  mesh_held =
      let h = (fine width fs ws ok).mesh in
      let n = long-corners in
      record {
        coords = length_part fs coords_from (3 * vs) h.floats;
        verts = h.verts;
        below = record {
          corner = λ j l.
              let e : get_or KS j 0 ≡ get_or ws (corners_from width + j) 0
              = get_or-take (corners_from width + 3 * ms - corners_from width) (drop (corners_from width) ws) j 0
              (omega arith)
              ∙ get_or-drop (corners_from width) ws j 0 in
              omega (arith, h.corners j (omega arith));
        };
      }

  pub few_kept : (k : ℕ) → k ≡ rank KS vs → (k ≤ vs) × (vs ≤ 1048576)
  few_kept k e = (omega (arith, rank-le KS vs), (fine width fs ws ok).mesh.verts)

  pub called : (k : ℕ) (ys : List Float) (ls : List ℕ) → k ≡ rank KS vs → ys ≡ squeezed KS XS vs → ls ≡ renumbered KS
      → after (counted (3 * (vs - k) ∷ []))
      (take coords_from fs ++ (ys ++ drop (coords_from + 3 * vs - coords_from) (drop coords_from fs)))
      (set
      (take (corners_from width) ws
      ++ (ls ++ drop (corners_from width + 3 * ms - corners_from width) (drop (corners_from width) ws))) 0 k)
      ≡ squeeze_step width fs ws
  unfolding squeeze_step
  called k ys ls ek ey el =
      let a : coords_from + 3 * vs - coords_from ≡ 3 * vs = omega arith in
      let b : corners_from width + 3 * ms - corners_from width ≡ 3 * ms = omega arith in
      let m : length ys ≡ coords_from + 3 * vs - coords_from = ap length ey ∙ squeezed-length KS XS vs ∙ omega arith in
      let n : length ls ≡ corners_from width + 3 * ms - corners_from width
      = ap length el ∙ length-map KS (rank KS) ∙ long-corners ∙ omega arith in
      rw (
        part-write fs ys coords_from (coords_from + 3 * vs) m,
        part-write ws ls (corners_from width) (corners_from width + 3 * ms) n,
        ok,
        ek,
        ey,
        el,
        a,
        b,
      ) refl

-- what the call needs
pub ruleset all = (fine, mesh_held, few_kept, called)
