-- Many hands: an adoption on a store that holds a machine, from another store that holds one, does what the machine
-- does; so does every list of events whose adoptions are from such stores. Assumes nothing.
use Rattle.std.specs.Prelude.{Err}
use mathlib.Core.Path.{◌≡◌, refl, sym, ap, subst, ◌∙◌}
use mathlib.Core.Bool.{Bool, true, false, ◌&&◌, cond}
use mathlib.Core.List.{List, [], ◌∷◌, map}
use Prim.Native.Nat.{ℕ, ◌+◌, ◌-◌, ◌<◌}
use native.Mathlib.Decide.{dec_lt}
use native.Mathlib.Omega.{arith}
use lib.Dec.{ltb, eqb}
use lib.ListN.{get_or}
use lib.Ieee.{Float}
use borrow.Author.Tests.{lt-ltb, le-ltb, eq-eqb, ne_eqb, eqb-true}
use Rattle.base.specs.Answers.{refused, passed}
use Rattle.base.specs.declared.refusal.Refusal.{Refusal}
use Rattle.base.specs.declared.refusal.Refusal.TheVariants.{NoPlace, Vacant}
use Rattle.kernel.specs.declared.kernel.Kernel.{Kernel}
use Rattle.pieces.specs.declared.pieces.Pieces.{Pieces}
use Rattle.layout.specs.Layout.{place_limit, kernel_from, pieces_from, state_from, status_of}
use Rattle.layout.specs.Runs.{write}
use Rattle.layout.specs.After.{after}
use Rattle.layout.specs.SoundLaws.{both}
use Rattle.adopt.specs.Same.{same_float, same_floats, same_words}
use Rattle.adopt.specs.SameLaws.{same-float-is, same-float_self, same_floats_is, same_floats_self, same_words_is, same_words_self}
use Rattle.adopt.specs.Adopt.{adopt_check, same_body_lem, adopted, another, adopt_step}
use Rattle.machine.specs.Machine.{Mesh, Provenance, Place, empty, full, need, left_sum, Machine, Turn, turn}
use Rattle.machine.specs.Holding.{place_row, floats7, words_of}
use Rattle.machine.specs.Calls.{Call, Store, Result, result, past, holding}
use Rattle.machine.specs.Events.{Event, call, adopt, same_mesh, adopt_into, adopt_turn, turn_of, result_of, leaves_all, machine_after, leaves, after_all, charged_over, done_over}
use Rattle.machine.specs.Valid.{Within, Valid}
use Rattle.machine.specs.Bills.{Every}
use Rattle.machine.proofs.Rows.{Width, Layered, formed}
use Rattle.machine.proofs.Sixteen.{sixteen, laid_out_lem}
use Rattle.machine.proofs.Held.{radius-held, verts_held, faces_held, coords_held, corners_held, status_held, row-held, seven-held, pieces_held, write_floats, write_words}
use Rattle.machine.proofs.Sane.{long-enough, is-sound}
use Rattle.machine.proofs.Sweep.{left_at_lem}
use Rattle.machine.proofs.Claim.{inner, shown_in, left-set, with_place, Kept, kept, shown, held_in, one_call}

-- ---- two meshes are the same by the test exactly when they are one mesh
abbrev mesh_by : Float → List Float → List ℕ → ℕ → ℕ → Mesh
mesh_by r xs ks v f = record { radius = r; coords = xs; corners = ks; verts = v; faces = f }

pub mesh_is : (m o : Mesh) → same_mesh m o ≡ true → o ≡ m
unfolding same_mesh
mesh_is m o h =
    let a = both (same_float m.radius o.radius) _ h in
    let b = both (eqb m.verts o.verts && eqb m.faces o.faces) _ a.1 in
    let n = both (eqb m.verts o.verts) (eqb m.faces o.faces) b.0 in
    let c = both (same_floats m.coords o.coords) (same_words m.corners o.corners) b.1 in
    go (same-float-is m.radius o.radius a.0) (same_floats_is m.coords o.coords c.0)
    (same_words_is m.corners o.corners c.1) (eqb-true m.verts o.verts n.0)
    (eqb-true m.faces o.faces n.1)
  where
    go : {r t : Float} {xs ys : List Float} {ks ls : List ℕ} {v w f g : ℕ} → r ≡ t → xs ≡ ys → ks ≡ ls → v ≡ w → f ≡ g
        → mesh_by t ys ls w g ≡ mesh_by r xs ks v f
    go a b c d e = cc

pub mesh_self : (m o : Mesh) → o ≡ m → same_mesh m o ≡ true
unfolding same_mesh
mesh_self m o e =
    rw (
      e,
      same-float_self m.radius,
      eq-eqb m.verts m.verts refl,
      eq-eqb m.faces m.faces refl,
      same_floats_self m.coords,
      same_words_self m.corners,
    ) refl

-- ---- one adoption: this store has the runs FS and WS, the other one GS and US
module _
    (wd : ℕ) (fm : Width wd) (m o : Machine) (v : Valid m.mesh m.places) (w : Valid o.mesh o.places)
    (xs : List Float) (ys : List ℕ) (ps : List Float) (qs : List ℕ) where
  abbrev FS : List Float
  FS = laid_out_lem m.mesh m.places (past m xs)

  abbrev WS : List ℕ
  WS = words_of wd m.mesh m.places ys

  abbrev GS : List Float
  GS = laid_out_lem o.mesh o.places (past o ps)

  abbrev US : List ℕ
  US = words_of wd o.mesh o.places qs

  -- the bodies are compared as the meshes are
  body-held : same_body_lem wd FS WS GS US ≡ same_mesh m.mesh o.mesh
  unfolding same_body_lem same_mesh
  body-held =
      rw (
        radius-held m.mesh m.places (past m xs),
        radius-held o.mesh o.places (past o ps),
        verts_held wd m.mesh m.places ys,
        verts_held wd o.mesh o.places qs,
        faces_held wd m.mesh m.places ys,
        faces_held wd o.mesh o.places qs,
        coords_held wd fm m.mesh m.places v.places (past m xs) v.mesh.coords,
        coords_held wd fm o.mesh o.places w.places (past o ps) w.mesh.coords,
        corners_held wd fm m.mesh m.places v.places ys v.mesh.corners,
        corners_held wd fm o.mesh o.places w.places qs w.mesh.corners,
      ) refl

  module _ (i j : ℕ) where
    -- ---- the check: neither store is short or unsound
    places-asked : adopt_check wd FS WS i GS US j
        ≡ cond (ltb i place_limit && ltb j place_limit) (cond (eqb (status_of wd US j) 0) (Err Vacant) passed)
        (Err NoPlace)
    unfolding adopt_check
    places-asked =
        rw (
          long-enough wd fm m.mesh m.places v (past m xs) ys,
          long-enough wd fm o.mesh o.places w (past o ps) qs,
          is-sound wd fm m.mesh m.places v (past m xs) ys,
          is-sound wd fm o.mesh o.places w (past o ps) qs,
        ) refl

    -- what comes across, and what the machine takes
    bodies : i < 32 → (k : Kernel) (fit : Pieces) (b : Provenance) (p l : ℕ) (z : Bool)
        → same_mesh m.mesh o.mesh ≡ z
        → result
        (cond z
        (after (adopted fit.count (need o.mesh fit - p))
        (write (write FS (kernel_from i) (floats7 (full k fit b p l))) (pieces_from i)
        (sixteen o.mesh (full k fit b p l)))
        (write WS (state_from wd i) (place_row wd o.mesh (full k fit b p l))))
        (after another FS WS))
        ≡ shown_in wd xs ys
        (cond z (turn (adopt_into m i k fit b p l) (adopted fit.count (need m.mesh fit - p))) (turn m another))
    bodies h k fit b p l true e =
        rw (
          mesh_is m.mesh o.mesh e,
          write_floats wd fm m.mesh m.places v.places (past m xs) i h (full k fit b p l),
          write_words wd fm m.mesh m.places v.places ys i h (full k fit b p l),
        ) refl
    bodies h k fit b p l false e = refl

    adopt-in : i < 32 → j < 32 → (s : Place) → get_or o.places j empty ≡ s
        → result (adopt_step wd FS WS i GS US j) ≡ shown_in wd xs ys (adopt_turn m i o.mesh s)
    unfolding adopt_step
    adopt-in hi hj empty e =
        let st = status_held wd fm o.mesh o.places w.places qs j hj in
        rw (places-asked, lt-ltb i 32 hi, lt-ltb j 32 hj, st, e) refl
    adopt-in hi hj (full k fit b p l) e =
        let n : 1 + fit.count - 1 ≡ fit.count = omega arith in
        rw (
          places-asked,
          lt-ltb i 32 hi,
          lt-ltb j 32 hj,
          body-held,
          faces_held wd o.mesh o.places qs,
          left_at_lem wd fm o.mesh o.places w qs j hj,
          status_held wd fm o.mesh o.places w.places qs j hj,
          seven-held wd fm o.mesh o.places w.places (past o ps) j hj,
          pieces_held wd fm o.mesh o.places w.places (past o ps) j hj,
          row-held wd fm o.mesh o.places w.places qs j hj,
          e,
          n,
          ne_eqb (1 + fit.count) 0 (λ z. omega arith),
        )
        (bodies hi k fit b p l (same_mesh m.mesh o.mesh) refl)

    adopt-held : result_of wd (inner wd m xs ys) (adopt i o (inner wd o ps qs) j)
        ≡ shown_in wd xs ys (turn_of m (adopt i o (inner wd o ps qs) j))
    unfolding adopt_step
    adopt-held = go (dec_lt i 32) (dec_lt j 32)
      where
        turned : Turn
        turned = adopt_turn m i o.mesh (get_or o.places j empty)

        none : Turn
        none = turn m (refused NoPlace)

        go : Dec (i < 32) → Dec (j < 32) → result (adopt_step wd FS WS i GS US j)
            ≡ shown_in wd xs ys (cond (ltb i place_limit) (cond (ltb j place_limit) turned none) none)
        go (yes h) (yes g) = adopt-in h g (get_or o.places j empty) refl ∙ rw (lt-ltb i 32 h, lt-ltb j 32 g) refl
        go (yes h) (no g) = rw (places-asked, lt-ltb i 32 h, le-ltb j 32 (omega arith)) refl
        go (no h) g = rw (places-asked, le-ltb i 32 (omega arith)) refl

-- ---- what an adoption's turn may be: refused, of another body, or one that takes place j of the other store
module _
    (m o : Machine) (t : Store) (i j : ℕ) (P : Turn → Type 0) (refuses : (r : Refusal) → P (turn m (refused r)))
    (differs : P (turn m another))
    (takes : (k : Kernel) (fit : Pieces) (b : Provenance) (p l : ℕ) → i < 32
    → get_or o.places j empty ≡ full k fit b p l → same_mesh m.mesh o.mesh ≡ true
    → P (turn (adopt_into m i k fit b p l) (adopted fit.count (need m.mesh fit - p)))) where
  by_place : i < 32 → (s : Place) → get_or o.places j empty ≡ s → P (adopt_turn m i o.mesh s)
  by_place h empty e = refuses Vacant
  by_place h (full k fit b p l) e = go (same_mesh m.mesh o.mesh) refl
    where
      go : (z : Bool) → same_mesh m.mesh o.mesh ≡ z
          → P
          (cond z (turn (adopt_into m i k fit b p l) (adopted fit.count (need m.mesh fit - p))) (turn m another))
      go true c = takes k fit b p l h e c
      go false c = differs

  pub either-turn : P (turn_of m (adopt i o t j))
  either-turn = go (dec_lt i 32) (ltb j place_limit)
    where
      taking : Turn
      taking = adopt_turn m i o.mesh (get_or o.places j empty)

      none : Turn
      none = turn m (refused NoPlace)

      go : Dec (i < 32) → (y : Bool) → P (cond (ltb i place_limit) (cond y taking none) none)
      go (yes h) true = rw (lt-ltb i 32 h) (by_place h (get_or o.places j empty) refl)
      go (yes h) false = rw (lt-ltb i 32 h) (refuses NoPlace)
      go (no h) y = rw (le-ltb i 32 (omega arith)) (refuses NoPlace)

-- what it keeps
adopt_kept : (m o : Machine) → Valid m.mesh m.places → Valid o.mesh o.places → (t : Store) (i j : ℕ)
    → Kept m (adopt i o t j) (turn_of m (adopt i o t j))
adopt_kept m o v w t i j =
    either-turn m o t i j (Kept m (adopt i o t j)) (λ r. record { valid = v; balance = refl; charged = omega arith })
    (record { valid = v; balance = refl; charged = omega arith })
    (λ k fit b p l h e c.
    let s = full k fit b p l in
    let y = subst (Within o.mesh) e (w.within j) in
    let z = left-set m.mesh m.places i s (rw v.places h) in
    record {
      valid = with_place m v i s (subst (λ (x : Mesh). Within x s) (mesh_is m.mesh o.mesh c) y);
      balance = omega arith;
      charged = omega arith;
    })

-- the mesh stays, whatever the other store is
pub mesh_stays : (m o : Machine) (t : Store) (i j : ℕ) → (turn_of m (adopt i o t j)).next.mesh ≡ m.mesh
mesh_stays m o t i j =
    either-turn m o t i j (λ (x : Turn). x.next.mesh ≡ m.mesh) (λ r. refl) refl (λ k fit b p l h e c. refl)

-- ---- a store that holds a machine, with the excess xs and ys
pub record Holds (wd : ℕ) (m : Machine) (s : Store) (xs : List Float) (ys : List ℕ) : Type 0 where
  pub runs : s ≡ holding wd m xs ys
  pub valid : Valid m.mesh m.places

-- ---- an event whose other store holds its machine, with whatever excess
abbrev pub Brought : ℕ → Event → Type 0
Brought wd (call c) = Unit {0}
Brought wd (adopt i o t j) = (xs : List Float) × (ys : List ℕ) × Holds wd o t xs ys

pub own_calls : (wd : ℕ) (cs : List Call) → Every (Brought wd) (map call cs)
own_calls wd [] = tt {0}
own_calls wd (c ∷ cs) = (tt {0}, own_calls wd cs)

module _ (wd : ℕ) (ly : Layered wd) (m : Machine) (v : Valid m.mesh m.places) where
  pub kept_at : (e : Event) → Brought wd e → Kept m e (turn_of m e)
  kept_at (call c) b = kept m v c
  kept_at (adopt i o t j) b = adopt_kept m o v b.2.valid t i j

  module _ (xs : List Float) (ys : List ℕ) where
    pub one_event : (e : Event) → Brought wd e → result_of wd (holding wd m xs ys) e ≡ shown wd xs ys (turn_of m e)
    one_event (call c) b = one_call wd ly m v xs ys c
    one_event (adopt i o t j) b =
        let w = b.2.valid in
        let u = inner wd o b.0 b.1 in
        let n = turn_of m (adopt i o t j) in
        ap (λ (s : Store). result_of wd (holding wd m xs ys) (adopt i o s j)) (b.2.runs ∙ held_in wd o w b.0 b.1)
        ∙ (ap (λ (s : Store). result_of wd s (adopt i o u j)) (held_in wd m v xs ys)
        ∙ (adopt-held wd (formed ly) m o v w xs ys b.0 b.1 i j
        ∙ ap (λ (s : Store). record { runs = s; reply = n.reply; out = n.out; bytes = n.bytes })
        (sym (held_in wd n.next (adopt_kept m o v w t i j).valid xs ys))))

-- ---- every list of events
module _ (wd : ℕ) (ly : Layered wd) (xs : List Float) (ys : List ℕ) where
  abbrev Sums : Machine → List Event → Type 0
  Sums m es =
      done_over wd (holding wd m xs ys) es + left_sum (machine_after m es).mesh (machine_after m es).places
      + (machine_after m es).dropped
      ≡ charged_over wd (holding wd m xs ys) es + left_sum m.mesh m.places + m.dropped

  pub books : (es : List Event) → Every (Brought wd) es → (m : Machine) → Valid m.mesh m.places → Sums m es
  books [] bs m v = refl
  books (e ∷ es) bs m v =
      let k = kept_at wd ly m v e bs.0 in
      let i = books es bs.1 (turn_of m e).next k.valid in
      rw (one_event wd ly m v xs ys e bs.0) (omega (arith, i, k.balance))

  pub charges : (es : List Event) → Every (Brought wd) es → (m : Machine) → Valid m.mesh m.places
      → (machine_after m es).charged ≡ m.charged + charged_over wd (holding wd m xs ys) es
  charges [] bs m v = omega arith
  charges (e ∷ es) bs m v =
      let k = kept_at wd ly m v e bs.0 in
      let i = charges es bs.1 (turn_of m e).next k.valid in
      rw (one_event wd ly m v xs ys e bs.0) (omega (arith, i, k.charged))

  pub last : (es : List Event) → Every (Brought wd) es → {m : Machine} {s : Store} → Holds wd m s xs ys
      → Holds wd (machine_after m es) (leaves_all wd s es) xs ys
  last [] bs h = h
  last (e ∷ es) bs {m} {s} h =
      last es bs.1
      (record {
        runs = ap (λ (t : Store). (result_of wd t e).runs) h.runs
            ∙ ap (λ (r : Result). r.runs) (one_event wd ly m h.valid xs ys e bs.0);
        valid = (kept_at wd ly m h.valid e bs.0).valid;
      })

  -- and of the store's own calls
  pub after_calls : (cs : List Call) {m : Machine} {s : Store} → Holds wd m s xs ys
      → Holds wd (after_all m cs) (leaves wd s cs) xs ys
  after_calls cs h = last (map call cs) (own_calls wd cs) h

  -- the runs that hold a machine hold it
  pub its_runs : (m : Machine) → Valid m.mesh m.places → Holds wd m (holding wd m xs ys) xs ys
  its_runs m v = record { runs = refl; valid = v }
