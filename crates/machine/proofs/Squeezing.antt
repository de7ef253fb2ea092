-- A squeezed mesh: what the runs hold of it, that it is valid, and that the work left is the same. Assumes nothing.
use mathlib.Core.Path.{◌≡◌, refl, sym, ap, ◌∙◌}
use mathlib.Core.List.{List, [], ◌∷◌, ◌++◌, map, map_congr_left, append_assoc}
use Prim.Native.Nat.{ℕ, zero, suc, ◌+◌, ◌-◌, ◌≤◌, ◌<◌, min}
use native.Mathlib.Nat.{add-zero}
use native.Mathlib.Omega.{arith}
use lib.ListN.{length, get_or, set, replicate, length-append, length-map, replicate-append-replicate}
use lib.Seq.{drop-append_seam}
use lib.Ieee.{Float}
use Rattle.base.specs.Floats.{+0}
use Rattle.layout.specs.Runs.{write}
use Rattle.mesh.specs.Triangles.{triangle_at}
use Rattle.mesh.specs.CheckLaws.{below_each}
use Rattle.mesh.specs.declared.vectors.V3.{V3}
use Rattle.volume.specs.Volume.{volume_to}
use Rattle.volume.specs.Laws.{same_volume}
use Rattle.kernel.specs.Field.{centre_of}
use Rattle.kernel.specs.declared.kernel.Kernel.{Kernel}
use Rattle.pieces.specs.Pieces.{part_at}
use Rattle.pieces.specs.declared.pieces.Pieces.{Pieces}
use Rattle.layout.specs.Layout.{coords_from, corners_from}
use Rattle.squeeze.specs.Squeeze.{rank, renumbered, kept_to, freed_of, squeezed}
use Rattle.mesh.specs.Corners.{Below}
use Rattle.squeeze.specs.MarkLaws.{rank-le}
use Rattle.squeeze.specs.SqueezeLaws.{kept-length, squeezed-length}
use Rattle.squeeze.specs.TriangleLaws.{same_triangle, still_below}
use Rattle.machine.specs.Machine.{Mesh, Place, empty, full, left_place, left_sum, slim, freed_by}
use Rattle.machine.specs.Holding.{triangles, flat, floats7, cells, place_row, words_of}
use Rattle.machine.specs.Valid.{Within, Shape, Valid}
use Rattle.machine.proofs.Sixteen.{sixteen, laid_out_lem}
use Rattle.machine.proofs.Slim.{thinned, slim-is, freed_is}
use Rattle.machine.proofs.Rows.{Width, flat-length, write_append_add}
use Rattle.machine.proofs.Held.{each_row, each7, each48}

front : {A : Type 0} (q vs rest : List A) → length vs ≡ length q → write (q ++ rest) 0 vs ≡ vs ++ rest
unfolding write
front q vs rest h = rw (h, drop-append_seam q rest) refl

-- the middle of a run written anew
write_mid : {A : Type 0} (p q vs rest : List A) (n : ℕ) → length p ≡ n → length vs ≡ length q
    → write (p ++ (q ++ rest)) n vs ≡ p ++ (vs ++ rest)
write_mid p q vs rest n e h =
    ap (λ (k : ℕ). write (p ++ (q ++ rest)) k vs) (sym e ∙ sym (add-zero (length p)))
    ∙ write_append_add p (q ++ rest) 0 vs ∙ ap (λ (t : List _). p ++ t) (front q vs rest h)

-- ---- the same radius, faces and triangles, on other coordinates and corners
abbrev pub remesh : Mesh → List Float → List ℕ → ℕ → Mesh
remesh m xs ks w = record { radius = m.radius; coords = xs; corners = ks; verts = w; faces = m.faces }

module _ (m : Mesh) (xs : List Float) (ks : List ℕ) (w : ℕ) where
  pub left-same : (s : Place) → left_place (remesh m xs ks w) s ≡ left_place m s
  left-same empty = refl
  left-same (full k fit o p l) = refl

  pub left-sum-same : (ss : List Place) → left_sum (remesh m xs ks w) ss ≡ left_sum m ss
  left-sum-same [] = refl
  left-sum-same (s ∷ ss) = rw (left-same s, left-sum-same ss) refl

  row_same : (wd : ℕ) (s : Place) → place_row wd (remesh m xs ks w) s ≡ place_row wd m s
  row_same wd empty = refl
  row_same wd (full k fit o p l) = refl

  module _ (same : (f : ℕ) → f < m.faces → triangle_at xs ks f ≡ triangles m f) where
    pub volume_same : (c : V3) (sigma : Float) (n : ℕ) → n ≤ m.faces
        → volume_to (triangle_at xs ks) c sigma n ≡ volume_to (triangles m) c sigma n
    volume_same c sigma n h =
        same_volume {t = triangle_at xs ks} {u = triangles m} {n = n} (λ f l. same f (omega arith)) c sigma

    cells_same : (k : Kernel) (fit : Pieces) (n j t : ℕ) → cells (remesh m xs ks w) k fit n j t ≡ cells m k fit n j t
    cells_same k fit zero j t = refl
    cells_same k fit (suc n) j t =
        rw (
          volume_same (centre_of k) (part_at fit j).sigma (min m.faces t) (omega arith),
          cells_same k fit n (suc j) (t - m.faces),
        ) refl

    sixteen-same : (s : Place) → sixteen (remesh m xs ks w) s ≡ sixteen m s
    sixteen-same empty = refl
    sixteen-same (full k fit o p l) = cells_same k fit 16 0 p

-- squeezed once more
pub squeezed_shape : (m : Mesh) (xs : List Float) (ks : List ℕ) (w : ℕ) → Shape (remesh m xs ks w)
    → Shape (remesh m (kept_to ks xs w) (renumbered ks) (rank ks w))
squeezed_shape m xs ks w g =
    record {
      coords = kept-length ks xs w;
      corners = length-map ks (rank ks) ∙ g.corners;
      verts = omega (arith, rank-le ks w, g.verts);
      faces = g.faces;
      below = still_below ks xs w (record { corner = below_each w ks g.below });
    }

-- ---- the mesh of a machine, squeezed
left_thin : (m : Mesh) (ss : List Place) → left_sum (thinned m) ss ≡ left_sum m ss
left_thin m ss =
    left-sum-same m (kept_to m.corners m.coords m.verts) (renumbered m.corners)
    (rank m.corners m.verts) ss

module _ (m : Mesh) (ss : List Place) (v : Valid m ss) where
  abbrev kept : List Float
  kept = kept_to m.corners m.coords m.verts

  abbrev fewer : ℕ
  fewer = rank m.corners m.verts

  below : Below m.verts m.corners
  below = record { corner = below_each m.verts m.corners v.mesh.below }

  thin-triangles : (f : ℕ) → f < m.faces → triangle_at kept (renumbered m.corners) f ≡ triangles m f
  thin-triangles f h = same_triangle m.corners m.coords m.verts below f (omega (arith, v.mesh.corners))

  within-thin : (s : Place) → Within m s → Within (thinned m) s
  within-thin empty h = h
  within-thin (full k fit o p l) h =
      record { of_kernel = h.of_kernel; few = h.few; clean = h.clean; steps = h.steps; layer = h.layer }

  thin-valid : Valid (thinned m) ss
  thin-valid =
      record {
        mesh = squeezed_shape m m.coords m.corners m.verts v.mesh;
        places = v.places;
        within = λ i. within-thin (get_or ss i empty) (v.within i);
      }

  same-mesh : slim m ≡ thinned m
  same-mesh = slim-is m below

  pub slim_valid : Valid (slim m) ss
  slim_valid = rw same-mesh thin-valid

  pub left-slim : left_sum (slim m) ss ≡ left_sum m ss
  left-slim = rw same-mesh (left_thin m ss)

module _ (wd : ℕ) (fm : Width wd) (m : Mesh) (ss : List Place) (v : Valid m ss) where
  regroup : (a : List Float) (n g : ℕ) (xs : List Float)
      → (a ++ replicate n +0) ++ (replicate g +0 ++ xs) ≡ a ++ (replicate (n + g) +0 ++ xs)
  regroup a n g xs =
      append_assoc a (replicate n +0) (replicate g +0 ++ xs)
      ∙ ap (λ (l : List Float). a ++ l)
      (sym (append_assoc (replicate n +0) (replicate g +0) xs)
      ∙ ap (λ (l : List Float). l ++ xs) (replicate-append-replicate n g +0))

  floats-thinned : (g : ℕ) (xs : List Float)
      → write (laid_out_lem m ss (replicate g +0 ++ xs)) coords_from (squeezed m.corners m.coords m.verts)
      ≡ laid_out_lem (thinned m) ss (replicate (freed_of m.corners m.verts + g) +0 ++ xs)
  unfolding laid_out_lem
  floats-thinned g xs =
      let a = m.radius ∷ flat (map floats7 ss) in
      let b = flat (map (sixteen m) ss) in
      let p = a ++ b in
      let rest = replicate g +0 ++ xs in
      let vs = squeezed m.corners m.coords m.verts in
      let k = kept m ss v in
      let past = replicate (freed_of m.corners m.verts + g) +0 ++ xs in
      let n : length p ≡ coords_from
      = rw (
        length-append,
        flat-length 7 (map floats7 ss) (each7 wd fm m ss),
        flat-length 48 (map (sixteen m) ss) (each48 wd fm m ss),
        length-map,
        length-map,
        v.places,
      ) refl in
      let l : length vs ≡ length m.coords
      = squeezed-length m.corners m.coords m.verts ∙ sym v.mesh.coords in
      let s : map (sixteen (thinned m)) ss ≡ map (sixteen m) ss
      = map_congr_left {l = ss}
      (λ t h. sixteen-same m k (renumbered m.corners) (fewer m ss v) (thin-triangles m ss v) t) in
      ap (λ (t : List Float). write t coords_from vs) (sym (append_assoc a b (m.coords ++ rest)))
      ∙ (write_mid p m.coords vs rest coords_from n l
      ∙ (ap (λ (t : List Float). p ++ t) (regroup k (freed_of m.corners m.verts) g xs)
      ∙ (append_assoc a b (k ++ past) ∙ ap (λ (r : List (List Float)). a ++ (flat r ++ (k ++ past))) (sym s))))

  words-thinned : (ys : List ℕ)
      → set (write (words_of wd m ss ys) (corners_from wd) (renumbered m.corners)) 0 (rank m.corners m.verts)
      ≡ words_of wd (thinned m) ss ys
  unfolding words_of
  words-thinned ys =
      let p = m.verts ∷ m.faces ∷ flat (map (place_row wd m) ss) in
      let n : length p ≡ corners_from wd
      = rw (flat-length wd (map (place_row wd m) ss) (each_row wd fm m ss), length-map, v.places) (omega arith) in
      let s : map (place_row wd (thinned m)) ss ≡ map (place_row wd m) ss
      = map_congr_left {l = ss} (λ t h. row_same m (kept m ss v) (renumbered m.corners) (fewer m ss v) wd t) in
      ap (λ (t : List ℕ). set t 0 (rank m.corners m.verts))
      (write_mid p m.corners (renumbered m.corners) ys (corners_from wd) n
      (length-map m.corners (rank m.corners)))
      ∙ ap
      (λ (r : List (List ℕ)). rank m.corners m.verts ∷ m.faces ∷ (flat r ++ (renumbered m.corners ++ ys)))
      (sym s)

  -- what the store's squeeze writes holds the machine's slim mesh
  pub floats_squeezed : (g : ℕ) (xs : List Float)
      → write (laid_out_lem m ss (replicate g +0 ++ xs)) coords_from (squeezed m.corners m.coords m.verts)
      ≡ laid_out_lem (slim m) ss (replicate (freed_by m + g) +0 ++ xs)
  floats_squeezed g xs = rw (same-mesh m ss v, freed_is m) (floats-thinned g xs)

  pub words_squeezed : (ys : List ℕ)
      → set (write (words_of wd m ss ys) (corners_from wd) (renumbered m.corners)) 0 (rank m.corners m.verts)
      ≡ words_of wd (slim m) ss ys
  words_squeezed ys = rw (same-mesh m ss v) (words-thinned ys)
