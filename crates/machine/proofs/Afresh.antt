-- What a reading makes of the machine's pieces is what demand 2's functions answer on the list of them, six floats
-- each. Assumes nothing.
use mathlib.Core.Path.{◌≡◌, refl, sym, ap, ◌∙◌}
use mathlib.Core.List.{List, [], ◌∷◌, map, map-append}
use Prim.Native.Nat.{ℕ, zero, suc, ◌/◌, ◌%◌}
use native.Mathlib.Omega.{arith}
use lib.ListN.{length, length-map}
use lib.Ieee.{Float}
use borrow.Author.Tests.{le-ltb}
use Rattle.base.specs.Floats.{+0}
use Rattle.base.specs.Answers.{Answer, accepted, counted, outcome, guarded_run, passed}
use Rattle.mesh.specs.Checks.{vertex_limit, face_limit, mesh_check}
use Rattle.kernel.specs.Field.{centre_of, field_check}
use Rattle.volume.specs.Volume.{body_volume}
use Rattle.kernel.specs.declared.kernel.Kernel.{Kernel}
use Rattle.pieces.specs.declared.pieces.Pieces.{Pieces}
use Rattle.pieces.specs.Kernels.{piece_at}
use Rattle.mass.specs.Total.{field_mass}
use Rattle.mass.specs.Calls.{body_volume_call, field_mass_call}
use Rattle.density.specs.declared.convention.Convention.{Convention}
use Rattle.density.specs.Densitize.{densitized}
use Rattle.density.specs.Conventions.{bulk_of, rho0_scale_lem, applied_scale_lem}
use Rattle.layout.specs.Runs.{write}
use Rattle.along.specs.AlongLaws.{stretch-same}
use Rattle.readings.specs.Readings.{Reading, density, report, list, track, Part, bare, density_at, raw_mass_lem, origin, applied, rescaled, sixes, track_check, seeing, answer_of}
use Rattle.readings.specs.SixLaws.{as_six, list_sound, sixes-again, six-rescaled, densitized-on, sized, mass_on}
use Rattle.machine.specs.Machine.{Mesh, Provenance, Place, empty, full}
use Rattle.machine.specs.Holding.{triangles}
use Rattle.machine.specs.Fresh.{fit_afresh, work_all, pieces_to, pieces_of, all_pieces, worst_from, value_of, mass_of, origin_of, scaled_list, reading_on, worked_afresh}
use Rattle.machine.proofs.Parts.{fresh_at, fresh_place, fresh_all, fresh_seen}
use Rattle.machine.specs.Valid.{Shape}

abbrev part_of : Mesh → Kernel → Part
part_of m k = sized (triangles m) m.faces k

-- ---- the parts are the pieces with their volumes
module _ (m : Mesh) where
  parts-to : (k : Kernel) (fit : Pieces) (n : ℕ) → fresh_at m k fit n ≡ map (part_of m) (pieces_to k fit n)
  unfolding piece_at centre_of
  parts-to k fit zero = refl
  parts-to k fit (suc n) = rw (parts-to k fit n, map-append (part_of m) (pieces_to k fit n) (piece_at k fit n ∷ [])) refl

  parts_all : (ss : List Place) → fresh_all m ss ≡ map (part_of m) (all_pieces (work_all m.radius ss))
  parts_all [] = refl
  parts_all (empty ∷ ss) = parts_all ss
  parts_all (full k fit o p l ∷ ss) =
      let f = fit_afresh m.radius k fit o in
      let a = pieces_of (record { kernel = k; fit = f }) in
      rw (parts-to k f f.count, parts_all ss, map-append (part_of m) a (all_pieces (work_all m.radius ss))) refl

  bare_parts : (ks : List Kernel) → map bare (map (part_of m) ks) ≡ map as_six ks
  bare_parts [] = refl
  bare_parts (k ∷ ks) = rw (bare_parts ks) refl

-- ---- on a mesh that its check passes
module _ (m : Mesh) (g : Shape m) where
  face-count : length m.corners / 3 ≡ m.faces
  face-count = omega arith

  mesh-sound : mesh_check (length m.coords) m.corners ≡ passed
  unfolding mesh_check
  mesh-sound =
      let a : length m.coords % 3 ≡ 0 = omega arith in
      let b : length m.corners % 3 ≡ 0 = omega arith in
      let c : length m.coords / 3 ≡ m.verts = omega arith in
      rw
      (a, b, c, face-count, le-ltb vertex_limit m.verts g.verts, le-ltb face_limit m.faces g.faces, g.below)
      refl

  mass-call : (ks : List Kernel)
      → field_mass_call m.coords m.corners (sixes ks)
      ≡ accepted (field_mass (triangles m) m.faces (sixes ks) ∷ [])
  unfolding field_mass_call field_check
  mass-call ks = rw (mesh-sound, list_sound ks, face-count) refl

  body_call : body_volume_call m.coords m.corners ≡ accepted (body_volume (triangles m) m.faces ∷ [])
  unfolding body_volume_call
  body_call = rw (mesh-sound, face-count) refl

  module _ (ks : List Kernel) where
    raw-on : raw_mass_lem (map (part_of m) ks) ≡ mass_of m ks
    raw-on = mass_on (triangles m) m.faces ks ∙ ap value_of (sym (mass-call ks))

    origin_on : density_at (map bare (map (part_of m) ks)) origin ≡ origin_of ks
    origin_on =
        ap (λ (l : List Kernel). density_at l origin) (bare_parts m ks) ∙ ap value_of (sym (densitized-on ks origin))

    scale-on : (v : Convention)
        → applied v (map (part_of m) ks) ≡ applied_scale_lem v (mass_of m ks) (rho0_scale_lem (bulk_of v) (origin_of ks))
    scale-on v = rw (raw-on, origin_on) refl

    answer-on : (filled : ℕ) (worst : Float) (r : Reading)
        → answer_of r (seeing (map (part_of m) ks) (body_volume (triangles m) m.faces) filled worst)
        ≡ reading_on m ks filled worst r
    answer-on filled worst (density v x) =
        let s = applied_scale_lem v (mass_of m ks) (rho0_scale_lem (bulk_of v) (origin_of ks)) in
        rw (scale-on v, bare_parts m ks, six-rescaled s ks)
        (ap (λ (a : Answer). outcome a []) (sym (densitized-on (map (rescaled s) ks) x)))
    answer-on filled worst (report v) =
        rw (raw-on, origin_on, length-map ks (part_of m), body_call) refl
    answer-on filled worst (list v out) =
        let s = applied_scale_lem v (mass_of m ks) (rho0_scale_lem (bulk_of v) (origin_of ks)) in
        rw (scale-on v, bare_parts m ks, length-map ks as_six, six-rescaled s ks, sixes-again (map (rescaled s) ks))
        refl
    answer-on filled worst (track v points out) =
        let s = applied_scale_lem v (mass_of m ks) (rho0_scale_lem (bulk_of v) (origin_of ks)) in
        let n = length points / 3 in
        rw (scale-on v, bare_parts m ks, six-rescaled s ks)
        (ap
        (λ (ds : List Float).
        guarded_run (track_check (length points) (length out)) out (outcome (counted (n ∷ [])) (write out 0 ds)))
        (stretch-same (density_at (map as_six (map (rescaled s) ks))) (λ x. value_of (densitized (scaled_list v m ks) x))
        (λ x. ap value_of (sym (densitized-on (map (rescaled s) ks) x))) points 0 n))

  -- the mass of one place
  pub place_mass : (k : Kernel) (fit : Pieces) (o : Provenance) (p l : ℕ)
      → raw_mass_lem (fresh_place m (full k fit o p l))
      ≡ mass_of m (pieces_of (record { kernel = k; fit = fit_afresh m.radius k fit o }))
  place_mass k fit o p l =
      let f = fit_afresh m.radius k fit o in
      ap raw_mass_lem (parts-to m k f f.count) ∙ raw-on (pieces_of (record { kernel = k; fit = f }))

  pub joined : (ss : List Place) (r : Reading) → answer_of r (fresh_seen m ss) ≡ worked_afresh m ss r
  unfolding fresh_seen worked_afresh
  joined ss r =
      let all = work_all m.radius ss in
      rw (parts_all m ss) (answer-on (all_pieces all) (length all) (worst_from +0 all) r)
