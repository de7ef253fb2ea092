-- 02, L12: with squeezes or without them, the other calls of a list answer and write the same. Assumes nothing.
use mathlib.Core.Path.{◌≡◌, refl, sym, ap, subst, ◌∙◌}
use mathlib.Core.Bool.{Bool, true, false, cond}
use mathlib.Core.List.{List, [], ◌∷◌}
use Prim.Native.Nat.{ℕ, zero, suc, ◌+◌, ◌<◌}
use native.Mathlib.Omega.{arith}
use lib.Dec.{ltb, leb}
use lib.ListN.{get_or}
use lib.Ieee.{Float}
use Rattle.base.specs.Floats.{+0}
use Rattle.base.specs.Loops.{iterate}
use Rattle.base.specs.Answers.{refused}
use Rattle.base.specs.declared.refusal.Refusal.TheVariants.{NoPlace, NoLayer}
use Rattle.mesh.specs.Triangles.{triangle_at}
use Rattle.mesh.specs.CheckLaws.{below_each}
use Rattle.volume.specs.Volume.{origin_point}
use Rattle.kernel.specs.Field.{centre_of}
use Rattle.kernel.specs.declared.kernel.Kernel.{Kernel}
use Rattle.pieces.specs.declared.pieces.Pieces.{Pieces}
use Rattle.pieces.specs.declared.fit.Fit.{Fit}
use Rattle.pieces.specs.Pieces.{decomposed, part_at}
use Rattle.pieces.specs.FitEnd.{fit_of}
use Rattle.layout.specs.Layout.{place_limit}
use Rattle.density.specs.declared.convention.Convention.{Convention}
use Rattle.readings.specs.Readings.{Reading, report, raw_mass_lem, answer_of}
use Rattle.page.specs.Page.{Row, row, page_answer}
use Rattle.squeeze.specs.Squeeze.{rank, renumbered, kept_to}
use Rattle.mesh.specs.Corners.{Below}
use Rattle.squeeze.specs.TriangleLaws.{same_triangle}
use Rattle.machine.specs.Machine.{Mesh, Place, empty, full, seen_places, complete_places, passed_places, bump, Machine, Turn, turn, freed_by, steps_of, put_turn, clear_turn, reweigh_turn}
use Rattle.machine.specs.Holding.{triangles}
use Rattle.machine.specs.Fresh.{fit_afresh, fresh_row, fresh_rows, worked_afresh, finished_afresh, page_afresh}
use Rattle.machine.specs.Calls.{Call, put, clear, reweigh, advance, squeeze, read, finished, page, lines, machine, holding, without, Heard, heard_of, steady, heard}
use Rattle.machine.specs.Valid.{Shape, Valid}
use Rattle.machine.proofs.Rows.{Layered}
use Rattle.machine.proofs.Parts.{fresh_part, fresh_at, fresh_place, fresh_all, fresh_seen}
use Rattle.machine.proofs.Afresh.{place_mass, joined}
use Rattle.machine.proofs.Slim.{slim-is}
use Rattle.machine.proofs.Look.{same_seen}
use Rattle.machine.proofs.Squeezing.{remesh, squeezed_shape, left-same, left-sum-same, volume_same}
use Rattle.machine.proofs.Claim.{one_call, kept}

-- ---- on another mesh of the same radius, faces and triangles
module _ (m : Mesh) (xs : List Float) (ks : List ℕ) (w : ℕ) where
  abbrev n : Mesh
  n = remesh m xs ks w

  bump-same : (ss : List Place) → bump n ss ≡ bump m ss
  bump-same [] = refl
  bump-same (s ∷ ss) = rw (left-same m xs ks w s, bump-same ss) refl

  bumps-same : (k : ℕ) (ss : List Place) → iterate (bump n) k ss ≡ iterate (bump m) k ss
  bumps-same zero ss = refl
  bumps-same (suc k) ss = ap (bump n) (bumps-same k ss) ∙ bump-same (iterate (bump m) k ss)

  complete-same : (ss : List Place) → complete_places n ss ≡ complete_places m ss
  complete-same [] = refl
  complete-same (s ∷ ss) = rw (left-same m xs ks w s, complete-same ss) refl

  passed-same : (ss : List Place) → passed_places n ss ≡ passed_places m ss
  passed-same [] = refl
  passed-same (s ∷ ss) = rw (left-same m xs ks w s, passed-same ss) refl

  module _ (same : (f : ℕ) → f < m.faces → triangle_at xs ks f ≡ triangles m f) where
    part_same : (k : Kernel) (fit : Pieces) (j : ℕ) → fresh_part n k fit j ≡ fresh_part m k fit j
    part_same k fit j =
        ap (λ (x : Float). record { kernel = (fresh_part m k fit j).kernel; volume = x })
        (volume_same m xs ks w same (centre_of k) (part_at fit j).sigma m.faces (omega arith))

    parts_same : (k : Kernel) (fit : Pieces) (j : ℕ) → fresh_at n k fit j ≡ fresh_at m k fit j
    parts_same k fit zero = refl
    parts_same k fit (suc j) = rw (parts_same k fit j, part_same k fit j) refl

    place_same : (s : Place) → fresh_place n s ≡ fresh_place m s
    place_same empty = refl
    place_same (full k fit o p l) = let f = fit_afresh m.radius k fit o in parts_same k f f.count

    all_same : (ss : List Place) → fresh_all n ss ≡ fresh_all m ss
    all_same [] = refl
    all_same (s ∷ ss) = rw (place_same s, all_same ss) refl

    seen_same : (ss : List Place) → fresh_seen n ss ≡ fresh_seen m ss
    unfolding fresh_seen
    seen_same ss =
        same_seen (all_same ss) (volume_same m xs ks w same origin_point +0 m.faces (omega arith)) refl refl

    pub afresh_same : Shape n → Shape m → (ss : List Place) (r : Reading) → worked_afresh n ss r ≡ worked_afresh m ss r
    afresh_same g h ss r = sym (joined n g ss r) ∙ (ap (answer_of r) (seen_same ss) ∙ joined m h ss r)

    module _ (g : Shape n) (h : Shape m) where
      pub finished_same : (ss : List Place) (cv : Convention) → finished_afresh n ss cv ≡ finished_afresh m ss cv
      unfolding finished_afresh
      finished_same ss cv =
          rw (passed-same ss, complete-same ss, afresh_same g h (complete_places m ss) (report cv)) refl

      row_same : (i : ℕ) (s : Place) → fresh_row n i s ≡ fresh_row m i s
      row_same i empty = refl
      row_same i (full k fit o p l) =
          ap (λ (x : Float). row i (fit_afresh m.radius k fit o).count x ∷ [])
          (sym (place_mass n g k fit o p l) ∙ (ap raw_mass_lem (place_same (full k fit o p l)) ∙ place_mass m h k fit o p l))

      rows_same : (i : ℕ) (ss : List Place) → fresh_rows n i ss ≡ fresh_rows m i ss
      rows_same i [] = refl
      rows_same i (s ∷ ss) = rw (row_same i s, rows_same (suc i) ss) refl

      pub page_same : (ss : List Place) (bs : List ℕ) → page_afresh n ss bs ≡ page_afresh m ss bs
      unfolding page_afresh
      page_same ss bs = ap (λ (rs : List Row). page_answer rs bs) (rows_same 0 ss)

-- ---- a machine on another mesh
abbrev pub remade : Machine → List Float → List ℕ → ℕ → ℕ → Machine
remade m xs ks w g =
    record {
      mesh = remesh m.mesh xs ks w;
      places = m.places;
      charged = m.charged;
      dropped = m.dropped;
      freed = g;
    }

abbrev pub lifted : Turn → List Float → List ℕ → ℕ → ℕ → Turn
lifted t xs ks w g = record { next = remade t.next xs ks w g; reply = t.reply; out = t.out; bytes = t.bytes }

-- a mesh with the triangles of a machine's
pub record Alike (m : Mesh) (xs : List Float) (ks : List ℕ) (w : ℕ) : Type 0 where
  pub shape : Shape (remesh m xs ks w)
  pub was : Shape m
  pub same : (f : ℕ) → f < m.faces → triangle_at xs ks f ≡ triangles m f

-- one call that is no squeeze
pub record Goes (m : Machine) (c : Call) (xs : List Float) (ks : List ℕ) (w g : ℕ) : Type 0 where
  pub lift : machine (remade m xs ks w g) c ≡ lifted (machine m c) xs ks w g
  pub mesh : (machine m c).next.mesh ≡ m.mesh

module _ (m : Machine) (xs : List Float) (ks : List ℕ) (w g : ℕ) where
  pub put_goes : (i : ℕ) (k : Kernel) (l : ℕ) → Goes m (put i k l) xs ks w g
  unfolding machine
  put_goes i k l = record { lift = lift (ltb i place_limit) (leb l 15); mesh = stays (ltb i place_limit) (leb l 15) }
    where
      fit : Pieces
      fit = decomposed k m.mesh.radius

      end : Fit
      end = fit_of k m.mesh.radius

      made : Machine → Bool → Bool → Turn
      made n a b = cond a (cond b (put_turn n i k fit end l) (turn n (refused NoLayer))) (turn n (refused NoPlace))

      lift : (a b : Bool) → made (remade m xs ks w g) a b ≡ lifted (made m a b) xs ks w g
      lift true true = rw (left-same m.mesh xs ks w (get_or m.places i empty)) refl
      lift true false = refl
      lift false b = refl

      stays : (a b : Bool) → (made m a b).next.mesh ≡ m.mesh
      stays true true = refl
      stays true false = refl
      stays false b = refl

  pub clear_goes : (i : ℕ) → Goes m (clear i) xs ks w g
  unfolding machine
  clear_goes i =
      record {
        lift = lift (ltb i place_limit) (get_or m.places i empty);
        mesh = stays (ltb i place_limit) (get_or m.places i empty);
      }
    where
      lift : (b : Bool) (s : Place)
          → cond b (clear_turn (remade m xs ks w g) i s) (turn (remade m xs ks w g) (refused NoPlace))
          ≡ lifted (cond b (clear_turn m i s) (turn m (refused NoPlace))) xs ks w g
      lift true empty = refl
      lift true (full k fit o p l) = refl
      lift false s = refl

      stays : (b : Bool) (s : Place) → (cond b (clear_turn m i s) (turn m (refused NoPlace))).next.mesh ≡ m.mesh
      stays true empty = refl
      stays true (full k fit o p l) = refl
      stays false s = refl

  pub reweigh_goes : (i : ℕ) (x : Float) → Goes m (reweigh i x) xs ks w g
  unfolding machine
  reweigh_goes i x =
      record {
        lift = lift (ltb i place_limit) (get_or m.places i empty);
        mesh = stays (ltb i place_limit) (get_or m.places i empty);
      }
    where
      lift : (b : Bool) (s : Place)
          → cond b (reweigh_turn (remade m xs ks w g) i x s) (turn (remade m xs ks w g) (refused NoPlace))
          ≡ lifted (cond b (reweigh_turn m i x s) (turn m (refused NoPlace))) xs ks w g
      lift true empty = refl
      lift true (full k fit o p l) = refl
      lift false s = refl

      stays : (b : Bool) (s : Place) → (cond b (reweigh_turn m i x s) (turn m (refused NoPlace))).next.mesh ≡ m.mesh
      stays true empty = refl
      stays true (full k fit o p l) = refl
      stays false s = refl

  pub advance_goes : (k : ℕ) → Goes m (advance k) xs ks w g
  unfolding machine
  advance_goes k =
      let ss = iterate (bump m.mesh) (steps_of m k) m.places in
      record {
        lift =
            rw (
              left-sum-same m.mesh xs ks w m.places,
              bumps-same m.mesh xs ks w (steps_of m k) m.places,
              left-sum-same m.mesh xs ks w ss,
            ) refl;
        mesh = refl;
      }

  pub read_goes : Alike m.mesh xs ks w → (ls : ℕ) (r : Reading) → Goes m (read ls r) xs ks w g
  unfolding machine
  read_goes a ls r =
      let ss = seen_places ls m.places in
      let f = afresh_same m.mesh xs ks w a.same a.shape a.was ss r in
      record { lift = rw (left-sum-same m.mesh xs ks w ss, f) refl; mesh = refl }

  pub finished_goes : Alike m.mesh xs ks w → (ls : ℕ) (cv : Convention) → Goes m (finished ls cv) xs ks w g
  unfolding machine
  finished_goes a ls cv =
      let ss = seen_places ls m.places in
      record { lift = rw (finished_same m.mesh xs ks w a.same a.shape a.was ss cv) refl; mesh = refl }

  pub page_goes : Alike m.mesh xs ks w → (bs : List ℕ) → Goes m (page bs) xs ks w g
  unfolding machine
  page_goes a bs =
      record {
        lift =
            rw (
              left-sum-same m.mesh xs ks w m.places,
              page_same m.mesh xs ks w a.same a.shape a.was m.places bs,
            ) refl;
        mesh = refl;
      }

-- ---- a list of calls
abbrev pub told : Turn → Heard
told t = record { reply = t.reply; out = t.out; bytes = t.bytes }

abbrev pub heard_by : (Call → Bool) → Machine → List Call → List Heard
heard_by pick m [] = []
heard_by pick m (c ∷ cs) =
    let rest = heard_by pick (machine m c).next cs in
    cond (pick c) (told (machine m c) ∷ rest) rest

pub corners_below : (m : Mesh) → Shape m → Below m.verts m.corners
corners_below m g = record { corner = below_each m.verts m.corners g.below }

-- one squeeze more
pub squeezed-alike : (m : Mesh) (xs : List Float) (ks : List ℕ) (w : ℕ) → Alike m xs ks w
    → Alike m (kept_to ks xs w) (renumbered ks) (rank ks w)
squeezed-alike m xs ks w a =
    let g = a.shape in
    let b : Below w ks = record { corner = below_each w ks g.below } in
    record {
      shape = squeezed_shape m xs ks w g;
      was = a.was;
      same = λ f h. same_triangle ks xs w b f (omega (arith, g.corners)) ∙ a.same f h;
    }

module _ (m : Machine) (c : Call) (cs : List Call) (xs : List Float) (ks : List ℕ) (w g : ℕ) where
  one-heard : Goes m c xs ks w g → Alike m.mesh xs ks w
      → (Alike (machine m c).next.mesh xs ks w
      → heard_by steady (remade (machine m c).next xs ks w g) cs ≡ heard_by steady (machine m c).next (without cs))
      → ◌≡◌ {A = List Heard}
      (told (machine (remade m xs ks w g) c) ∷ heard_by steady (machine (remade m xs ks w g) c).next cs)
      (told (machine m c) ∷ heard_by steady (machine m c).next (without cs))
  one-heard s a ih =
      rw s.lift
      (ap (λ (os : List Heard). told (machine m c) ∷ os) (ih (subst (λ (t : Mesh). Alike t xs ks w) (sym s.mesh) a)))

same-heard : (cs : List Call) (m : Machine) (xs : List Float) (ks : List ℕ) (w g : ℕ) → Alike m.mesh xs ks w
    → heard_by steady (remade m xs ks w g) cs ≡ heard_by steady m (without cs)
unfolding machine
same-heard [] m xs ks w g a = refl
same-heard (put i k l ∷ cs) m xs ks w g a =
    one-heard m (put i k l) cs xs ks w g (put_goes m xs ks w g i k l) a
    (same-heard cs (machine m (put i k l)).next xs ks w g)
same-heard (clear i ∷ cs) m xs ks w g a =
    one-heard m (clear i) cs xs ks w g (clear_goes m xs ks w g i) a
    (same-heard cs (machine m (clear i)).next xs ks w g)
same-heard (reweigh i x ∷ cs) m xs ks w g a =
    one-heard m (reweigh i x) cs xs ks w g (reweigh_goes m xs ks w g i x) a
    (same-heard cs (machine m (reweigh i x)).next xs ks w g)
same-heard (advance k ∷ cs) m xs ks w g a =
    one-heard m (advance k) cs xs ks w g (advance_goes m xs ks w g k) a
    (same-heard cs (machine m (advance k)).next xs ks w g)
same-heard (squeeze ∷ cs) m xs ks w g a =
    let n = remesh m.mesh xs ks w in
    rw (slim-is n (corners_below n a.shape))
    (same-heard cs m (kept_to ks xs w) (renumbered ks) (rank ks w) (freed_by n + g) (squeezed-alike m.mesh xs ks w a))
same-heard (read ls r ∷ cs) m xs ks w g a =
    one-heard m (read ls r) cs xs ks w g (read_goes m xs ks w g a ls r) a
    (same-heard cs (machine m (read ls r)).next xs ks w g)
same-heard (finished ls cv ∷ cs) m xs ks w g a =
    one-heard m (finished ls cv) cs xs ks w g (finished_goes m xs ks w g a ls cv) a
    (same-heard cs (machine m (finished ls cv)).next xs ks w g)
same-heard (page bs ∷ cs) m xs ks w g a =
    one-heard m (page bs) cs xs ks w g (page_goes m xs ks w g a bs) a
    (same-heard cs (machine m (page bs)).next xs ks w g)
same-heard (lines bs ∷ cs) m xs ks w g a = same-heard cs m xs ks w g a

-- ---- a reading of the machine's mesh is one of the mesh opened
pub record From (o m : Mesh) : Type 0 where
  pub radius : m.radius ≡ o.radius
  faces : m.faces ≡ o.faces
  alike : Alike o m.coords m.corners m.verts

pub from_start : (m : Mesh) → Shape m → From m m
from_start m g = record { radius = refl; faces = refl; alike = record { shape = g; was = g; same = λ f h. refl } }

pub from_next : (o : Mesh) (m : Machine) (c : Call) → From o m.mesh → From o (machine m c).next.mesh
unfolding machine
from_next o m (put i k l) f = subst (From o) (sym (put_goes m [] [] 0 0 i k l).mesh) f
from_next o m (clear i) f = subst (From o) (sym (clear_goes m [] [] 0 0 i).mesh) f
from_next o m (reweigh i x) f = subst (From o) (sym (reweigh_goes m [] [] 0 0 i x).mesh) f
from_next o m (advance n) f = f
from_next o m squeeze f =
    rw
    (slim-is m.mesh
    (corners_below (remesh o m.mesh.coords m.mesh.corners m.mesh.verts) f.alike.shape))
    (record {
      radius = f.radius;
      faces = f.faces;
      alike = squeezed-alike o m.mesh.coords m.mesh.corners m.mesh.verts f.alike;
    })
from_next o m (read ls r) f = f
from_next o m (finished ls cv) f = f
from_next o m (page bs) f = f
from_next o m (lines bs) f = f

module _ (o m : Mesh) (f : From o m) where
  mesh_is : m ≡ remesh o m.coords m.corners m.verts
  mesh_is =
      ap
      (λ (x : Float).
      record { radius = x; coords = m.coords; corners = m.corners; verts = m.verts; faces = m.faces }) f.radius
      ∙ ap
      (λ (n : ℕ). record { radius = o.radius; coords = m.coords; corners = m.corners; verts = m.verts; faces = n })
      f.faces

  pub on-opened : (ss : List Place) (r : Reading) → worked_afresh m ss r ≡ worked_afresh o ss r
  on-opened ss r =
      ap (λ (x : Mesh). worked_afresh x ss r) mesh_is
      ∙ afresh_same o m.coords m.corners m.verts f.alike.same f.alike.shape f.alike.was ss r

  pub finished_opened : (ss : List Place) (cv : Convention) → finished_afresh m ss cv ≡ finished_afresh o ss cv
  finished_opened ss cv =
      ap (λ (x : Mesh). finished_afresh x ss cv) mesh_is
      ∙ finished_same o m.coords m.corners m.verts f.alike.same f.alike.shape f.alike.was ss cv

  pub page_opened : (ss : List Place) (bs : List ℕ) → page_afresh m ss bs ≡ page_afresh o ss bs
  page_opened ss bs =
      ap (λ (x : Mesh). page_afresh x ss bs) mesh_is
      ∙ page_same o m.coords m.corners m.verts f.alike.same f.alike.shape f.alike.was ss bs

module _ (wd : ℕ) (fm : Layered wd) (exF : List Float) (exW : List ℕ) where
  pub store-heard : (pick : Call → Bool) (cs : List Call) (m : Machine) → Valid m.mesh m.places
      → heard_of pick wd (holding wd m exF exW) cs ≡ heard_by pick m cs
  store-heard pick [] m v = refl
  store-heard pick (c ∷ cs) m v =
      rw (one_call wd fm m v exF exW c)
      (ap (λ (os : List Heard). cond (pick c) (told (machine m c) ∷ os) os)
      (store-heard pick cs (machine m c).next (kept m v c).valid))

  pub unaltered : (m : Machine) → Valid m.mesh m.places → (cs : List Call)
      → heard wd (holding wd m exF exW) cs ≡ heard wd (holding wd m exF exW) (without cs)
  unaltered m v cs =
      let a : Alike m.mesh m.mesh.coords m.mesh.corners m.mesh.verts
      = record { shape = v.mesh; was = v.mesh; same = λ f h. refl } in
      store-heard steady cs m v
      ∙ (same-heard cs m m.mesh.coords m.mesh.corners m.mesh.verts m.freed a
      ∙ sym (store-heard steady (without cs) m v))
