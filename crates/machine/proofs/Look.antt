-- A reading of a store that holds a machine is the machine's reading, worked afresh. Assumes nothing.
use Rattle.std.specs.Prelude.{Err}
use mathlib.Core.Path.{◌≡◌, refl, sym, ap, ◌∙◌}
use mathlib.Core.List.{List, [], ◌∷◌, ◌++◌, map, append_assoc, append-nil}
use mathlib.Core.Bool.{Bool, true, false, ◌&&◌, cond, true≢false}
use Prim.Native.Nat.{ℕ, zero, suc, ◌+◌, ◌*◌, ◌^◌, ◌≤◌, ◌<◌}
use native.Mathlib.Decide.{dec_lt}
use native.Mathlib.Omega.{arith}
use lib.ListN.{length, take, get_or, length-append}
use lib.Seq.{take-suc, take_all}
use lib.Dec.{ltb, leb, eqb}
use lib.Ieee.{Float, nan, lt, of_bits}
use borrow.Author.Tests.{lt-ltb, le-ltb, le-leb, lt-leb, ltb-false, ne_eqb}
use Rattle.base.specs.Floats.{+0, greater}
use Rattle.base.specs.declared.refusal.Refusal.TheVariants.{Unfinished, NoLayer}
use Rattle.volume.specs.Volume.{body_volume}
use Rattle.kernel.specs.declared.kernel.Kernel.{Kernel}
use Rattle.pieces.specs.declared.pieces.Pieces.{Pieces}
use Rattle.density.specs.declared.convention.Convention.{Convention}
use Rattle.density.specs.declared.convention.Convention.TheVariants.{Raw, Rho0, Mass}
use Rattle.density.specs.Conventions.{bulk_of, target_of, rho0_scale_lem, mass_scale, applied_scale_lem}
use Rattle.layout.specs.Layout.{verts_of, faces_of}
use Rattle.layout.specs.Left.{held, left_of}
use Rattle.layout.specs.Layers.{layers_check}
use Rattle.base.specs.Answers.{Outcome, outcome, passed}
use Rattle.readings.specs.Readings.{Reading, density, report, list, track, by_mass, needs_work, Part, bare, density_at, raw_mass_lem, origin, applied, rescaled, Seen, seeing, listing, tracking, answer_of, refusing, reading_of, held_filled, held_worst, held_seen, guarded_read, read_step}
use Rattle.machine.specs.Machine.{Mesh, Place, empty, full, left_sum, seen_place, seen_places}
use Rattle.machine.specs.Holding.{triangles, place_row, words_of}
use Rattle.machine.specs.Fresh.{Worked, work_place, work_all, worst_from, worked_afresh}
use Rattle.machine.specs.Calls.{by_target, needs}
use Rattle.machine.specs.Valid.{Within, Valid}
use Rattle.machine.proofs.Rows.{Width, Layered, formed}
use Rattle.machine.proofs.Sixteen.{laid_out_lem}
use Rattle.machine.proofs.Held.{verts_held, faces_held, get7, status_held, coords_held, corners_held}
use Rattle.machine.proofs.Sane.{no_fault}
use Rattle.machine.proofs.Sweep.{left-held}
use Rattle.machine.proofs.Read.{fit_afresh_lem, There, bare_all, complete_all}
use Rattle.machine.proofs.Layers.{seen-or-none, emptied_there, emptied_valid, layers_held}
use Rattle.machine.proofs.Parts.{fresh_seen}
use Rattle.machine.proofs.Afresh.{joined}
use Rattle.machine.proofs.Listed.{worst_append}

-- ---- the readings' row 8 is the machine's
same_target : (v : Convention) → by_mass v ≡ by_target v
same_target Raw = refl
same_target (Rho0 b) = refl
same_target (Mass t b) = refl

same-needs : (r : Reading) → needs_work r ≡ needs r
same-needs (density v x) = same_target v
same-needs (report v) = refl
same-needs (list v out) = same_target v
same-needs (track v points out) = same_target v

-- ---- a reading that needs no work does not look at volumes
zero-not : lt +0 +0 ≡ false
unfolding lt of_bits
zero-not = refl

scale-blind : (v : Convention) → by_mass v ≡ false → (raw raw' scale : Float)
    → applied_scale_lem v raw scale ≡ applied_scale_lem v raw' scale
unfolding applied_scale_lem mass_scale target_of
scale-blind Raw n raw raw' scale = refl
scale-blind (Rho0 b) n raw raw' scale = refl
scale-blind (Mass t b) n raw raw' scale = rw (n, zero-not) refl

applied-blind : (v : Convention) → by_mass v ≡ false → (ps qs : List Part) → map bare ps ≡ map bare qs
    → applied v ps ≡ applied v qs
applied-blind v n ps qs e =
    scale-blind v n (raw_mass_lem ps) (raw_mass_lem qs) (rho0_scale_lem (bulk_of v) (density_at (map bare ps) origin))
    ∙ ap (λ (ks : List Kernel). applied_scale_lem v (raw_mass_lem qs) (rho0_scale_lem (bulk_of v) (density_at ks origin))) e

pub blind : (r : Reading) → needs_work r ≡ false → (s t : Seen) → map bare s.parts ≡ map bare t.parts
    → answer_of r s ≡ answer_of r t
blind (density v x) n s t e =
    ap
    (λ (a : Float). outcome
    (record { refusal = 0; counts = []; floats = density_at (map (rescaled a) (map bare s.parts)) x ∷ [] }) [])
    (applied-blind v n s.parts t.parts e)
    ∙ ap
    (λ (ks : List Kernel). outcome
    (record { refusal = 0; counts = []; floats = density_at (map (rescaled (applied v t.parts)) ks) x ∷ [] }) []) e
blind (report v) n s t e = absurd (true≢false n)
blind (list v out) n s t e =
    ap (λ (a : Float). listing a (map bare s.parts) out) (applied-blind v n s.parts t.parts e)
    ∙ ap (λ (ks : List Kernel). listing (applied v t.parts) ks out) e
blind (track v points out) n s t e =
    ap (λ (a : Float). tracking a (map bare s.parts) points out) (applied-blind v n s.parts t.parts e)
    ∙ ap (λ (ks : List Kernel). tracking (applied v t.parts) ks points out) e

pub same_seen : {p p' : List Part} {b b' : Float} {n n' : ℕ} {e e' : Float} → p ≡ p' → b ≡ b' → n ≡ n' → e ≡ e'
    → seeing p b n e ≡ seeing p' b' n' e'
same_seen hp hb hn he = rw (hp, hb, hn, he) refl

-- one place more, behind
work_snoc : (r : Float) (l : List Place) (s : Place) → work_all r (l ++ (s ∷ [])) ≡ work_all r l ++ work_place r s
work_snoc r [] s = append-nil (work_place r s)
work_snoc r (x ∷ l) s =
    ap (λ (t : List Worked). work_place r x ++ t) (work_snoc r l s)
    ∙ sym (append_assoc (work_place r x) (work_all r l) (work_place r s))

-- ---- the floats hold all places ss, the words only the places ts that a reading sees
module _
    (wd : ℕ) (fm : Width wd) (m : Mesh) (ss ts : List Place) (hs : length ss ≡ 32) (v : Valid m ts)
    (there : There ts ss) (xs : List Float) (ys : List ℕ) where
  abbrev FS : List Float
  FS = laid_out_lem m ss xs

  abbrev WS : List ℕ
  WS = words_of wd m ts ys

  -- ---- count and greatest error
  not-empty : (fit : Pieces) → eqb (1 + fit.count) 0 ≡ false
  not-empty fit = ne_eqb (1 + fit.count) 0 (λ e. omega arith)

  filled-one : (s : Place) → cond (eqb (get_or (place_row wd m s) 0 0) 0) 0 1 ≡ length (work_place m.radius s)
  filled-one empty = refl
  filled-one (full k fit o p l) = rw (not-empty fit) refl

  worst-one : (i : ℕ) → i < 32 → (e : Float) (s : Place) → get_or ts i empty ≡ s → Within m s
      → cond (eqb (get_or (place_row wd m s) 0 0) 0) e (greater e (get_or FS (7 + 7 * i) nan))
      ≡ worst_from e (work_place m.radius s)
  worst-one i h e empty q w = refl
  worst-one i h e (full k fit o p l) q w =
      let a : 7 + 7 * i ≡ 1 + (7 * i + 6) = omega arith in
      rw (not-empty fit, a, get7 wd fm m ss hs xs i h 6 (omega arith), there i k fit o p l q)
      (ap (λ (f : Pieces). greater e f.error) (fit_afresh_lem m.radius k fit o w.of_kernel))

  filled-to : (n : ℕ) → n ≤ 32 → held_filled wd WS n ≡ length (work_all m.radius (take n ts))
  unfolding held_filled
  filled-to zero h = refl
  filled-to (suc n) h =
      rw (
        status_held wd fm m ts v.places ys n h,
        filled-one (get_or ts n empty),
        filled-to n (omega arith),
        take-suc ts n empty (rw v.places h),
        work_snoc m.radius (take n ts) (get_or ts n empty),
        length-append (work_all m.radius (take n ts)) (work_place m.radius (get_or ts n empty)),
      ) refl

  worst-to : (n : ℕ) → n ≤ 32 → held_worst wd FS WS n ≡ worst_from +0 (work_all m.radius (take n ts))
  unfolding held_worst
  worst-to zero h = refl
  worst-to (suc n) h =
      let all = work_all m.radius (take n ts) in
      rw (
        status_held wd fm m ts v.places ys n h,
        worst-to n (omega arith),
        worst-one n h (worst_from +0 all) (get_or ts n empty) refl (v.within n),
        take-suc ts n empty (rw v.places h),
        work_snoc m.radius (take n ts) (get_or ts n empty),
        worst_append +0 all (work_place m.radius (get_or ts n empty)),
      ) refl

  all : take 32 ts ≡ ts
  all = take_all 32 ts (rw v.places (omega arith))

  body-held : body_volume (held wd FS WS (verts_of WS) (faces_of WS)) (faces_of WS) ≡ body_volume (triangles m) m.faces
  body-held =
      rw (
        verts_held wd m ts ys,
        faces_held wd m ts ys,
        coords_held wd fm m ss hs xs v.mesh.coords,
        corners_held wd fm m ts v.places ys v.mesh.corners,
      ) refl

  pub filled_held : held_filled wd WS 32 ≡ length (work_all m.radius ts)
  filled_held = filled-to 32 (omega arith) ∙ ap (λ (l : List Place). length (work_all m.radius l)) all

  -- with nothing left a reading sees what is worked afresh
  pub complete-seen : left_sum m ts ≡ 0 → held_seen wd FS WS ≡ fresh_seen m ts
  unfolding held_seen fresh_seen
  complete-seen z =
      same_seen (complete_all wd fm m ss ts hs v there xs ys z) body-held filled_held
      (worst-to 32 (omega arith) ∙ ap (λ (l : List Place). worst_from +0 (work_all m.radius l)) all)

  bare-seen : map bare (held_seen wd FS WS).parts ≡ map bare (fresh_seen m ts).parts
  unfolding held_seen fresh_seen
  bare-seen = bare_all wd fm m ss ts hs v there xs ys

  read-parts : (r : Reading)
      → reading_of r (left_of wd WS (faces_of WS) 32) (held_seen wd FS WS) ≡ reading_of r (left_sum m ts) (fresh_seen m ts)
  read-parts r =
      rw (faces_held wd m ts ys, left-held wd fm m ts v ys) (go (needs_work r) refl (ltb 0 (left_sum m ts)) refl)
    where
      go : (b : Bool) → needs_work r ≡ b → (c : Bool) → ltb 0 (left_sum m ts) ≡ c
          → cond (b && c) (refusing r Unfinished) (answer_of r (held_seen wd FS WS))
          ≡ cond (b && c) (refusing r Unfinished) (answer_of r (fresh_seen m ts))
      go false n c e = blind r n (held_seen wd FS WS) (fresh_seen m ts) bare-seen
      go true n true e = refl
      go true n false e = ap (answer_of r) (complete-seen (let z = ltb-false 0 (left_sum m ts) e in omega arith))

  pub seen-held : (r : Reading)
      → reading_of r (left_of wd WS (faces_of WS) 32) (held_seen wd FS WS)
      ≡ cond (needs r && ltb 0 (left_sum m ts)) (refusing r Unfinished) (worked_afresh m ts r)
  seen-held r =
      read-parts r
      ∙ (ap (cond (needs_work r && ltb 0 (left_sum m ts)) (refusing r Unfinished)) (joined m v.mesh ts r)
      ∙ ap (λ (b : Bool). cond (b && ltb 0 (left_sum m ts)) (refusing r Unfinished) (worked_afresh m ts r))
      (same-needs r))

-- ---- a reading of a set of layers
module _
    (wd : ℕ) (ly : Layered wd) (m : Mesh) (ss : List Place) (v : Valid m ss) (xs : List Float) (ys : List ℕ)
    (layers : ℕ) (r : Reading) where
  abbrev seen : List Place
  seen = seen_places layers ss

  -- of the places that are seen: by the fields held, and by the machine
  abbrev byFields : Outcome
  byFields =
      let ws = words_of wd m seen ys in
      reading_of r (left_of wd ws (faces_of ws) 32) (held_seen wd (laid_out_lem m ss xs) ws)

  abbrev byMachine : Outcome
  byMachine = cond (needs r && ltb 0 (left_sum m seen)) (refusing r Unfinished) (worked_afresh m seen r)

  pub read_held : read_step wd (laid_out_lem m ss xs) (words_of wd m ss ys) layers r
      ≡ cond (leb (2 ^ 16) layers) (refusing r NoLayer) byMachine
  unfolding read_step layers_check
  read_held =
      rw (no_fault wd (formed ly) m ss v xs ys, layers_held layers wd ly m ss v.places ys) (go (dec_lt layers 65536))
    where
      held : byFields ≡ byMachine
      held =
          let f = seen_place layers in
          let o = seen-or-none layers in
          seen-held wd (formed ly) m ss seen v.places (emptied_valid f o m ss v) (emptied_there f o ss) xs ys r

      go : Dec (layers < 65536) → guarded_read (cond (ltb layers 65536) passed (Err NoLayer)) r byFields
          ≡ cond (leb (2 ^ 16) layers) (refusing r NoLayer) byMachine
      go (yes h) = rw (lt-ltb layers 65536 h, lt-leb 65536 layers h) held
      go (no h) = rw (le-ltb layers 65536 (omega arith), le-leb 65536 layers (omega arith)) refl
