-- Two stores whose radii and counts agree: what is left to compare, as the code lends it. Assumes nothing.
use mathlib.Core.Path.{◌≡◌, refl}
use mathlib.Core.Bool.{Bool, true, ◌&&◌}
use mathlib.Core.List.{List}
use Prim.Native.Nat.{ℕ, ◌+◌, ◌*◌, ◌-◌}
use native.Mathlib.Nat.{add-sub_cancel_left}
use borrow.Author.Tests.{eq-eqb}
use lib.ListN.{take, drop}
use lib.Ieee.{Float}
use Rattle.layout.specs.Layout.{width, radius_of, coords_from, corners_from, verts_of, faces_of}
use Rattle.adopt.specs.Same.{same_float, same_floats, same_words}
use Rattle.adopt.specs.Adopt.{same_body_lem}

module _ (fs gs : List Float) (ws us : List ℕ) where
  -- the coordinates and the corners of a run, as the code lends them
  abbrev coords : List Float → List Float
  coords xs = take (coords_from + 3 * verts_of ws - coords_from) (drop coords_from xs)

  abbrev corners : List ℕ → List ℕ
  corners ks = take (corners_from width + 3 * faces_of ws - corners_from width) (drop (corners_from width) ks)

  pub the_rest_same : {r : Bool} (a b : Bool) → r ≡ same_float (radius_of fs) (radius_of gs) → r ≡ true
      → verts_of ws ≡ verts_of us → faces_of ws ≡ faces_of us
      → a ≡ same_floats (coords fs) (coords gs) → b ≡ same_words (corners ws) (corners us)
      → (a && b) ≡ same_body_lem width fs ws gs us
  unfolding same_body_lem
  the_rest_same {r} a b er hr hv hf ea eb =
      rw (
        ea,
        eb,
        add-sub_cancel_left coords_from (3 * verts_of ws),
        add-sub_cancel_left (corners_from width) (3 * faces_of ws),
        ← er,
        hr,
        eq-eqb (verts_of ws) (verts_of us) hv,
        eq-eqb (faces_of ws) (faces_of us) hf,
        ← hv,
        ← hf,
      ) refl
