-- 02, L14: no answer sees the sign of the sigma of a kernel that stays, but that a list and the store's lines write it,
-- and no volume so far does. Assumes nothing.
use Rattle.std.specs.Prelude.{Ok, Err}
use mathlib.Core.Path.{◌≡◌, refl, sym, ap, subst, ◌∙◌}
use mathlib.Core.Bool.{Bool, true, false, ◌&&◌, cond}
use mathlib.Core.List.{List, [], ◌∷◌, ◌++◌, map, map-append}
use Prim.Native.Nat.{ℕ, zero, suc, ◌+◌, ◌*◌, ◌-◌, ◌/◌, ◌^◌, ◌<◌, min}
use native.Mathlib.Omega.{arith}
use lib.Dec.{ltb, leb, eqb}
use lib.ListN.{length, get_or, drop, length-append, length-map, get_or-map}
use lib.Ieee.{Float, nan, inf, fin, neg, of_bits, ne, binary64, to_bits}
use Rattle.base.specs.Floats.{◌⊕◌, ◌⊗◌, +0, abs, greater}
use Rattle.base.specs.SignLaws.{abs_neg}
use Rattle.base.specs.Loops.{iterate}
use Rattle.base.specs.LoopLaws.{times-same}
use Rattle.base.specs.Answers.{Answer, accepted, refused, counted, Outcome, outcome, guarded_run, room_check, printout, guarded_bytes, Checked}
use Rattle.base.specs.declared.refusal.Refusal.TheVariants.{NoPlace, NoLayer, Unfinished}
use Rattle.layout.specs.Runs.{write}
use Rattle.mesh.specs.declared.vectors.V3.{V3}
use Rattle.mesh.specs.declared.triangles.Triangle.{Triangle}
use Rattle.mesh.specs.Triangles.{triangle_at, face_count}
use Rattle.kernel.specs.Field.{centre_of, field_check}
use Rattle.volume.specs.Volume.{volume_to, kernel_volume}
use Rattle.volume.specs.EvenLaws.{volume_abs, kernel_volume_even}
use Rattle.kernel.specs.declared.kernel.Kernel.{Kernel}
use Rattle.kernel.specs.Kernels.{kernel_at, turned}
use Rattle.density.specs.declared.convention.Convention.{Convention}
use Rattle.density.specs.Densitize.{density_of, densitize_of, densitized}
use Rattle.density.specs.EvenLaws.{density_abs}
use Rattle.density.specs.Conventions.{bulk_of, rho0_scale_lem, applied_scale_lem}
use Rattle.pieces.specs.declared.pieces.Piece.{Piece}
use Rattle.pieces.specs.declared.pieces.Pieces.{Pieces}
use Rattle.pieces.specs.Pieces.{delta, stays, size_of, curve_of, itself, solved_by, fitted, decomposed, part_at, past_pieces}
use Rattle.pieces.specs.FitEnd.{ended_fit, fit_of}
use Rattle.pieces.specs.declared.fit.Fit.{Fit}
use Rattle.pieces.specs.declared.fit.Fit.TheVariants.{Kept, NoExponent}
use Rattle.pieces.specs.Kernels.{piece_at}
use Rattle.mass.specs.Total.{field_mass}
use Rattle.mass.specs.Calls.{kernel_volume_call, field_mass_call}
use Rattle.layout.specs.Layout.{width, place_limit, piece_from}
use Rattle.along.specs.AlongLaws.{stretch-same}
use Rattle.readings.specs.Readings.{Reading, density, report, list, track, no_kernel, origin, rescaled, six, sixes, track_check, refusing}
use Rattle.readings.specs.SixLaws.{as_six, sixes-length, at_six, list_sound, count_of}
use Rattle.page.specs.Page.{Row, row, page_answer}
use Rattle.text.specs.Print.{pattern_text, float_text}
use Rattle.text.specs.WriteLaws.{length_digits}
use Rattle.text.specs.Form.{print, ◌&◌}
use Rattle.script.specs.Lines.{open_line, put_line}
use Rattle.script.specs.Written.{text_check, text_answer}
use Rattle.machine.specs.Machine.{Mesh, Provenance, own, carried, Place, empty, full, among, seen_place, seen_places, is_complete, complete_place, complete_places, passed_places, left_place, left_sum, adv, bump, Machine, Turn, turn, steps_of, put_turn, clear_turn, weighed, reweigh_turn, opened}
use Rattle.machine.specs.Holding.{triangles, cells, excess_f, excess_w}
use Rattle.machine.specs.Valid.{Valid}
use Rattle.machine.specs.Fresh.{Worked, fit_afresh, work_all, pieces_to, pieces_of, all_pieces, worst_from, value_of, mass_of, origin_of, scaled_list, reading_on, worked_afresh, finished_afresh, fresh_row, fresh_rows, page_afresh}
use Rattle.machine.specs.Lines.{vert_lines, face_lines, put_values, puts_of_lem, put_lines, machine_lines}
use Rattle.machine.specs.Calls.{Call, put, clear, reweigh, advance, squeeze, read, finished, page, lines, needs, machine, Store, holding, past, Heard}
use Rattle.machine.specs.Events.{after_all}
use Rattle.machine.specs.Signs.{unsigned, unsigned_call, unsigned_run, unsigned_read, unsigned_heard, said, SameSaid, SignsUnseen}
use Rattle.machine.proofs.Rows.{width4, layered4, map-set, map_get_d}
use Rattle.machine.proofs.Sixteen.{sixteen, laid_out}
use Rattle.machine.proofs.Held.{get48}
use Rattle.machine.proofs.Claim.{one_call, kept}
use Rattle.machine.proofs.Unaltered.{told}
use Rattle.machine.proofs.Adopting.{its_runs, after_calls}
use Rattle.machine.proofs.Opened.{holds}

abs-abs : (x : Float) → abs (abs x) ≡ abs x
unfolding abs
abs-abs nan = refl
abs-abs (inf s) = refl
abs-abs (fin s m e) = refl

-- ---- kernels without the signs of their sigmas, six floats each
abbrev even : Kernel → Kernel
even k = record { c = k.c; sigma = abs k.sigma; w = k.w; alpha = k.alpha }

six_at : (ks : List Kernel) (i : ℕ) → i < length ks → kernel_at (sixes (map even ks)) i ≡ even (kernel_at (sixes ks) i)
six_at ks i h =
    at_six (map even ks) i (rw (length-map ks even) h)
    ∙ (ap as_six (map_get_d even ks i no_kernel no_kernel h) ∙ ap even (sym (at_six ks i h)))

-- `densitize`
density_same : (ks : List Kernel) (x : List Float) → densitized (sixes (map even ks)) x ≡ densitized (sixes ks) x
unfolding densitized densitize_of
density_same ks x =
    rw (list_sound (map even ks), list_sound ks, count_of (map even ks), count_of ks, length-map ks even)
    (ap (λ (r : Float). accepted (r ∷ []))
    (times-same {n = length ks} (λ i s h. ap (λ (d : Float). s ⊕ d) (one i h)) +0))
  where
    one : (i : ℕ) → i < length ks → density_of (kernel_at (sixes (map even ks)) i) x ≡ density_of (kernel_at (sixes ks) i) x
    one i h = ap (λ (k : Kernel). density_of k x) (six_at ks i h) ∙ density_abs (kernel_at (sixes ks) i) x

-- `kernel_field_mass`
module _ (t : ℕ → Triangle) (n : ℕ) (ks : List Kernel) where
  abbrev share : List Kernel → ℕ → Float
  share ls i = let k = kernel_at (sixes ls) i in k.w ⊗ kernel_volume t n (centre_of k) k.sigma

  share-same : (i : ℕ) → i < length ks → share (map even ks) i ≡ share ks i
  unfolding centre_of
  share-same i h =
      let k = kernel_at (sixes ks) i in
      ap (λ (j : Kernel). j.w ⊗ kernel_volume t n (centre_of j) j.sigma) (six_at ks i h)
      ∙ ap (λ (v : Float). k.w ⊗ v) (volume_abs t (centre_of k) k.sigma n)

  field-same : field_mass t n (sixes (map even ks)) ≡ field_mass t n (sixes ks)
  unfolding field_mass
  field-same =
      rw (count_of (map even ks), count_of ks, length-map ks even)
      (times-same {n = length ks} (λ i s h. ap (λ (x : Float). s ⊕ x) (share-same i h)) +0)

-- ---- what a reading makes of them
module _ (m : Mesh) (ks : List Kernel) where
  mass-same : mass_of m (map even ks) ≡ mass_of m ks
  unfolding field_mass_call field_check
  mass-same = rw (list_sound (map even ks), list_sound ks, field-same (triangles m) (face_count m.corners) ks) refl

  origin-same : origin_of (map even ks) ≡ origin_of ks
  origin-same = ap value_of (density_same ks origin)

  abbrev scale : Convention → Float
  scale v = applied_scale_lem v (mass_of m ks) (rho0_scale_lem (bulk_of v) (origin_of ks))

  abbrev scaled : Convention → List Kernel
  scaled v = map (rescaled (scale v)) ks

  rescaled-even : (s : Float) (ls : List Kernel) → map (rescaled s) (map even ls) ≡ map even (map (rescaled s) ls)
  rescaled-even s [] = refl
  rescaled-even s (k ∷ ls) = ap (λ (l : List Kernel). even (rescaled s k) ∷ l) (rescaled-even s ls)

  scaled-same : (v : Convention) → scaled_list v m (map even ks) ≡ sixes (map even (scaled v))
  scaled-same v = rw (mass-same, origin-same, rescaled-even (scale v) ks) refl

-- the run that a list writes
run_same : (ks : List Kernel) (rest : List Float)
    → unsigned_run (length ks) (sixes (map even ks) ++ rest) ≡ unsigned_run (length ks) (sixes ks ++ rest)
run_same [] rest = refl
run_same (k ∷ ks) rest = rw (abs-abs k.sigma, run_same ks rest) refl

written_same : (ks : List Kernel) (out : List Float)
    → unsigned_run (length ks) (write out 0 (sixes (map even ks))) ≡ unsigned_run (length ks) (write out 0 (sixes ks))
unfolding write
written_same ks out =
    rw (sixes-length (map even ks), sixes-length ks, length-map ks even) (run_same ks (drop (6 * length ks) out))

-- a reading's answer and run
abbrev read_said : Reading → Outcome → Heard
read_said r o = unsigned_read r (record { reply = o.reply; out = o.out; bytes = [] })

listed : (v : Convention) (out a b : List Float) (n : ℕ) → unsigned_run n a ≡ unsigned_run n b → (c : Checked)
    → read_said (list v out) (guarded_run c out (outcome (counted (n ∷ [])) a))
    ≡ read_said (list v out) (guarded_run c out (outcome (counted (n ∷ [])) b))
listed v out a b n h (Ok _) = ap (λ (xs : List Float). record { reply = counted (n ∷ []); out = xs; bytes = [] }) h
listed v out a b n h (Err r) = refl

module _ (m : Mesh) (ks : List Kernel) (filled : ℕ) (worst : Float) where
  reading-same : (r : Reading)
      → read_said r (reading_on m (map even ks) filled worst r) ≡ read_said r (reading_on m ks filled worst r)
  reading-same (density v x) =
      rw (scaled-same m ks v)
      (ap (λ (a : Answer). record { reply = a; out = []; bytes = [] }) (density_same (scaled m ks v) x))
  reading-same (report v) = rw (mass-same m ks, origin-same m ks, length-map ks even) refl
  reading-same (list v out) =
      let js = scaled m ks v in
      let n : length js ≡ length ks = length-map ks (rescaled (scale m ks v)) in
      rw (scaled-same m ks v, length-map ks even, ← n)
      (listed v out (write out 0 (sixes (map even js))) (write out 0 (sixes js)) (length js) (written_same js out)
      (room_check (6 * length js) (length out)))
  reading-same (track v points out) =
      let n = length points / 3 in
      let js = scaled m ks v in
      let check = track_check (length points) (length out) in
      rw (scaled-same m ks v)
      (ap (λ (ds : List Float). read_said (track v points out)
      (guarded_run check out (outcome (counted (n ∷ [])) (write out 0 ds))))
      (stretch-same (λ x. value_of (densitized (sixes (map even js)) x)) (λ x. value_of (densitized (sixes js) x))
      (λ x. ap value_of (density_same js x)) points 0 n))

-- ---- a kernel with a fit
abbrev unsigned_piece : Piece → Piece
unsigned_piece p = record { sigma = abs p.sigma; coefficient = p.coefficient }

abbrev fit_by : Bool → Pieces → Pieces
fit_by b fit =
    record { count = fit.count; list = cond b (map unsigned_piece fit.list) fit.list; error = fit.error }

abbrev kernel_by : Bool → Kernel → Kernel
kernel_by b k = record { c = k.c; sigma = cond b (abs k.sigma) k.sigma; w = k.w; alpha = k.alpha }

abbrev unsigned_fit : Kernel → Pieces → Pieces
unsigned_fit k fit = fit_by (stays k.alpha) fit

fit_even : (k : Kernel) (r : Float) → decomposed (unsigned k) r ≡ unsigned_fit k (decomposed k r)
unfolding decomposed abs of_bits
fit_even k r = go (stays k.alpha)
  where
    n : ℕ
    n = (size_of (delta k.alpha)).terms

    go : (b : Bool) → cond b (itself (kernel_by b k)) (fitted n (curve_of (kernel_by b k) r) (kernel_by b k).sigma)
        ≡ fit_by b (cond b (itself k) (fitted n (curve_of k r) k.sigma))
    go true = refl
    go false = refl

end_even : (k : Kernel) (r : Float) → fit_of (unsigned k) r ≡ fit_of k r
unfolding fit_of
end_even k r = go (stays k.alpha)
  where
    far : Kernel → Fit
    far j =
        cond (ne k.alpha k.alpha) NoExponent
        (ended_fit (solved_by (size_of (delta k.alpha)).terms (curve_of j r)))

    go : (b : Bool) → cond b Kept (far (kernel_by b k)) ≡ cond b Kept (far k)
    go true = refl
    go false = refl

abbrev unsigned_work : Worked → Worked
unsigned_work a = record { kernel = unsigned a.kernel; fit = unsigned_fit a.kernel a.fit }

worst_same : (e : Float) (all : List Worked) → worst_from e (map unsigned_work all) ≡ worst_from e all
worst_same e [] = refl
worst_same e (a ∷ all) = worst_same (greater e a.fit.error) all

abs_at : (ps : List Piece) (j : ℕ) → get_or (map unsigned_piece ps) j past_pieces ≡ unsigned_piece (get_or ps j past_pieces)
unfolding abs
abs_at ps j = get_or-map unsigned_piece ps j past_pieces

-- its pieces
module _ (k : Kernel) (fit : Pieces) where
  piece-same : (j : ℕ) → even (piece_at (unsigned k) (unsigned_fit k fit) j) ≡ even (piece_at k fit j)
  unfolding piece_at
  piece-same j = go (stays k.alpha)
    where
      go : (b : Bool) → even (piece_at (kernel_by b k) (fit_by b fit) j) ≡ even (piece_at k fit j)
      go true = rw (abs_at fit.list j, abs-abs (part_at fit j).sigma) refl
      go false = refl

  pieces-to : (n : ℕ) → map even (pieces_to (unsigned k) (unsigned_fit k fit) n) ≡ map even (pieces_to k fit n)
  pieces-to zero = refl
  pieces-to (suc n) =
      rw (
        map-append even (pieces_to (unsigned k) (unsigned_fit k fit) n) (piece_at (unsigned k) (unsigned_fit k fit) n ∷ []),
        map-append even (pieces_to k fit n) (piece_at k fit n ∷ []),
        pieces-to n,
        piece-same n,
      ) refl

pieces_same : (a : Worked) → map even (pieces_of (unsigned_work a)) ≡ map even (pieces_of a)
pieces_same a = pieces-to a.kernel a.fit a.fit.count

all_same : (all : List Worked) → map even (all_pieces (map unsigned_work all)) ≡ map even (all_pieces all)
all_same [] = refl
all_same (a ∷ all) =
    rw (
      map-append even (pieces_of (unsigned_work a)) (all_pieces (map unsigned_work all)),
      map-append even (pieces_of a) (all_pieces all),
      pieces_same a,
      all_same all,
    ) refl

-- ---- a place
abbrev unsigned_place : Place → Place
unsigned_place empty = empty
unsigned_place (full k fit o p l) = full (unsigned k) (unsigned_fit k fit) o p l

place_at : (ss : List Place) (i : ℕ) → get_or (map unsigned_place ss) i empty ≡ unsigned_place (get_or ss i empty)
place_at ss i = get_or-map unsigned_place ss i empty

fit_same : (r : Float) (k : Kernel) (fit : Pieces) (o : Provenance)
    → fit_afresh r (unsigned k) (unsigned_fit k fit) o ≡ unsigned_fit k (fit_afresh r k fit o)
fit_same r k fit own = fit_even k r
fit_same r k fit carried = refl

work-same : (r : Float) (ss : List Place) → work_all r (map unsigned_place ss) ≡ map unsigned_work (work_all r ss)
work-same r [] = refl
work-same r (empty ∷ ss) = work-same r ss
work-same r (full k fit o p l ∷ ss) = rw (fit_same r k fit o, work-same r ss) refl

-- the places that a reading sees
seen_one : (layers : ℕ) (s : Place) → seen_place layers (unsigned_place s) ≡ unsigned_place (seen_place layers s)
seen_one layers empty = refl
seen_one layers (full k fit o p l) = go (among l layers)
  where
    go : (b : Bool) → cond b (unsigned_place (full k fit o p l)) empty ≡ unsigned_place (cond b (full k fit o p l) empty)
    go true = refl
    go false = refl

seen_same : (layers : ℕ) (ss : List Place)
    → seen_places layers (map unsigned_place ss) ≡ map unsigned_place (seen_places layers ss)
seen_same layers [] = refl
seen_same layers (s ∷ ss) = rw (seen_one layers s, seen_same layers ss) refl

module _ (m : Mesh) where
  afresh_same : (ss : List Place) (r : Reading)
      → read_said r (worked_afresh m (map unsigned_place ss) r) ≡ read_said r (worked_afresh m ss r)
  unfolding worked_afresh
  afresh_same ss r =
      let all = work_all m.radius ss in
      let n = length all in
      let w = worst_from +0 all in
      rw (work-same m.radius ss, length-map all unsigned_work, worst_same +0 all)
      (sym (reading-same m (all_pieces (map unsigned_work all)) n w r)
      ∙ (ap (λ (l : List Kernel). read_said r (reading_on m l n w r)) (all_same all)
      ∙ reading-same m (all_pieces all) n w r))

  mass-alike : (a : Worked) → mass_of m (pieces_of (unsigned_work a)) ≡ mass_of m (pieces_of a)
  mass-alike a =
      sym (mass-same m (pieces_of (unsigned_work a))) ∙ (ap (mass_of m) (pieces_same a) ∙ mass-same m (pieces_of a))

  row_same : (i : ℕ) (s : Place) → fresh_row m i (unsigned_place s) ≡ fresh_row m i s
  row_same i empty = refl
  row_same i (full k fit o p l) =
      let g = fit_afresh m.radius k fit o in
      ap (λ (f : Pieces). row i f.count (mass_of m (pieces_of (record { kernel = unsigned k; fit = f }))) ∷ [])
      (fit_same m.radius k fit o)
      ∙ ap (λ (x : Float). row i g.count x ∷ []) (mass-alike (record { kernel = k; fit = g }))

  rows_same : (i : ℕ) (ss : List Place) → fresh_rows m i (map unsigned_place ss) ≡ fresh_rows m i ss
  rows_same i [] = refl
  rows_same i (s ∷ ss) = rw (row_same i s, rows_same (suc i) ss) refl

  page_same : (ss : List Place) (bs : List ℕ) → page_afresh m (map unsigned_place ss) bs ≡ page_afresh m ss bs
  unfolding page_afresh
  page_same ss bs = ap (λ (rs : List Row). page_answer rs bs) (rows_same 0 ss)

  left-same : (s : Place) → left_place m (unsigned_place s) ≡ left_place m s
  left-same empty = refl
  left-same (full k fit o p l) = refl

  left-sum-same : (ss : List Place) → left_sum m (map unsigned_place ss) ≡ left_sum m ss
  left-sum-same [] = refl
  left-sum-same (s ∷ ss) = rw (left-same s, left-sum-same ss) refl

  -- the places that have nothing left
  complete-one : (s : Place) → complete_place m (unsigned_place s) ≡ unsigned_place (complete_place m s)
  complete-one s = rw (left-same s) (go (is_complete m s))
    where
      go : (b : Bool) → cond b (unsigned_place s) empty ≡ unsigned_place (cond b s empty)
      go true = refl
      go false = refl

  complete-same : (ss : List Place)
      → complete_places m (map unsigned_place ss) ≡ map unsigned_place (complete_places m ss)
  complete-same [] = refl
  complete-same (s ∷ ss) = rw (complete-one s, complete-same ss) refl

  passed-same : (ss : List Place) → passed_places m (map unsigned_place ss) ≡ passed_places m ss
  passed-same [] = refl
  passed-same (s ∷ ss) = rw (left-same s, passed-same ss) refl

  finished_same : (ss : List Place) (v : Convention)
      → finished_afresh m (map unsigned_place ss) v ≡ finished_afresh m ss v
  unfolding finished_afresh
  finished_same ss v =
      let e = ap (λ (o : Heard). o.reply) (afresh_same (complete_places m ss) (report v)) in
      rw (complete-same ss, passed-same ss, e) refl

  adv-same : (u : ℕ) (s : Place) → adv u (unsigned_place s) ≡ unsigned_place (adv u s)
  adv-same u empty = refl
  adv-same u (full k fit o p l) = refl

  bump-same : (ss : List Place) → bump m (map unsigned_place ss) ≡ map unsigned_place (bump m ss)
  bump-same [] = refl
  bump-same (s ∷ ss) = rw (left-same s, bump-same ss, adv-same 1 s) (go (eqb (left_place m s) 0))
    where
      go : (b : Bool)
          → cond b (unsigned_place s ∷ map unsigned_place (bump m ss)) (unsigned_place (adv 1 s) ∷ map unsigned_place ss)
          ≡ map unsigned_place (cond b (s ∷ bump m ss) (adv 1 s ∷ ss))
      go true = refl
      go false = refl

  bumps-same : (n : ℕ) (ss : List Place)
      → iterate (bump m) n (map unsigned_place ss) ≡ map unsigned_place (iterate (bump m) n ss)
  bumps-same zero ss = refl
  bumps-same (suc n) ss = ap (bump m) (bumps-same n ss) ∙ bump-same (iterate (bump m) n ss)

-- the volumes so far that the runs hold
module _ (m : Mesh) (k : Kernel) (fit : Pieces) where
  volume_same : (j n : ℕ) → volume_to (triangles m) (centre_of (unsigned k)) (part_at (unsigned_fit k fit) j).sigma n
      ≡ volume_to (triangles m) (centre_of k) (part_at fit j).sigma n
  unfolding centre_of
  volume_same j n = go (stays k.alpha)
    where
      go : (b : Bool) → volume_to (triangles m) (centre_of k) (part_at (fit_by b fit) j).sigma n
          ≡ volume_to (triangles m) (centre_of k) (part_at fit j).sigma n
      go true = rw (abs_at fit.list j) (volume_abs (triangles m) (centre_of k) (part_at fit j).sigma n)
      go false = refl

  cells_same : (n i j t : ℕ)
      → get_or (cells m (unsigned k) (unsigned_fit k fit) n i t) (3 * j + 2) nan
      ≡ get_or (cells m k fit n i t) (3 * j + 2) nan
  cells_same zero i j t = refl
  cells_same (suc n) i zero t = volume_same i (min m.faces t)
  cells_same (suc n) i (suc j) t =
      let e : 3 * suc j + 2 ≡ suc (suc (suc (3 * j + 2))) = omega arith in
      rw e (cells_same n (suc i) j (t - m.faces))

held_same : (m : Mesh) (s : Place) (j : ℕ)
    → get_or (sixteen m (unsigned_place s)) (3 * j + 2) nan ≡ get_or (sixteen m s) (3 * j + 2) nan
held_same m empty j = refl
held_same m (full k fit o p l) j = cells_same m k fit 16 0 j p

-- ---- the lines of a store: a pattern has sixteen digits, whatever its sign is
float-long : (x : Float) → length (float_text x) ≡ 16
unfolding pattern_text
float-long x = length_digits 16 16 (to_bits binary64 x)

put_long : (i : ℕ) (k : Kernel) (l : ℕ)
    → length (print put_line (put_values i (unsigned k) l)) ≡ length (print put_line (put_values i k l))
put_long i k l = simp (length-append, float-long)

puts_long : (i : ℕ) (ss : List Place)
    → length (put_lines (puts_of_lem i (map unsigned_place ss))) ≡ length (put_lines (puts_of_lem i ss))
puts_long i [] = refl
puts_long i (empty ∷ ss) = puts_long (suc i) ss
puts_long i (full k fit o p l ∷ ss) =
    rw (
      length-append (print put_line (put_values i (unsigned k) l)) (put_lines (puts_of_lem (suc i) (map unsigned_place ss))),
      length-append (print put_line (put_values i k l)) (put_lines (puts_of_lem (suc i) ss)),
      put_long i k l,
      puts_long (suc i) ss,
    ) refl

-- what stands before two texts
front_long : (a t u : List ℕ) → length t ≡ length u → length (a ++ t) ≡ length (a ++ u)
front_long a t u e = length-append a t ∙ (ap (λ (n : ℕ). length a + n) e ∙ sym (length-append a u))

lines_long : (m : Mesh) (ss : List Place) → length (machine_lines m (map unsigned_place ss)) ≡ length (machine_lines m ss)
unfolding machine_lines
lines_long m ss =
    let a = put_lines (puts_of_lem 0 (map unsigned_place ss)) in
    let b = put_lines (puts_of_lem 0 ss) in
    let f = face_lines m.corners in
    let x = vert_lines m.coords in
    front_long (print open_line (m.radius & m.verts & m.faces & tt)) (x ++ (f ++ a)) (x ++ (f ++ b))
    (front_long x (f ++ a) (f ++ b) (front_long f a b (puts_long 0 ss)))

-- two texts of as many bytes are answered alike
same_count : (t u bs : List ℕ) → length t ≡ length u → (text_answer t bs).reply ≡ (text_answer u bs).reply
unfolding text_answer
same_count t u bs e = rw e (go (text_check (length u) (length bs)))
  where
    go : (c : Checked)
        → (guarded_bytes c bs (printout (counted (length u ∷ [])) (write bs 0 t))).reply
        ≡ (guarded_bytes c bs (printout (counted (length u ∷ [])) (write bs 0 u))).reply
    go (Ok _) = refl
    go (Err r) = refl

-- ---- one call
abbrev unsigned_machine : Machine → Machine
unsigned_machine m =
    record {
      mesh = m.mesh;
      places = map unsigned_place m.places;
      charged = m.charged;
      dropped = m.dropped;
      freed = m.freed;
    }

abbrev unsigned_turn : Turn → Turn
unsigned_turn t = record { next = unsigned_machine t.next; reply = t.reply; out = t.out; bytes = t.bytes }

abbrev turn_said : Call → Turn → Heard
turn_said c t = unsigned_heard c (told t)

record Unseen (m : Machine) (c : Call) : Type 0 where
  same : turn_said (unsigned_call c) (machine (unsigned_machine m) (unsigned_call c)) ≡ turn_said c (machine m c)
  next : (machine (unsigned_machine m) (unsigned_call c)).next ≡ unsigned_machine (machine m c).next

by_turn : (m : Machine) (c : Call) → ((o : Heard) → unsigned_heard (unsigned_call c) o ≡ unsigned_heard c o)
    → machine (unsigned_machine m) (unsigned_call c) ≡ unsigned_turn (machine m c) → Unseen m c
by_turn m c p e =
    record {
      same = ap (turn_said (unsigned_call c)) e ∙ p (told (machine m c));
      next = ap (λ (t : Turn). t.next) e;
    }

refused-same : (r : Reading) (b : Bool) (x y z : Outcome) → read_said r y ≡ read_said r z
    → read_said r (cond b x y) ≡ read_said r (cond b x z)
refused-same r true x y z h = refl
refused-same r false x y z h = h

unseen : (m : Machine) (c : Call) → Unseen m c
unfolding machine
unseen m (put i k l) = by_turn m (put i k l) (λ o. refl) (lift (ltb i place_limit) (leb l 15))
  where
    r : Float
    r = m.mesh.radius

    made : Machine → Kernel → Bool → Bool → Turn
    made n j a b =
        cond a (cond b (put_turn n i j (decomposed j r) (fit_of j r) l) (turn n (refused NoLayer)))
        (turn n (refused NoPlace))

    lift : (a b : Bool) → made (unsigned_machine m) (unsigned k) a b ≡ unsigned_turn (made m k a b)
    lift true true =
        rw (
          fit_even k r,
          end_even k r,
          place_at m.places i,
          left-same m.mesh (get_or m.places i empty),
          map-set unsigned_place m.places i (full k (decomposed k r) own 0 l),
        ) refl
    lift true false = refl
    lift false b = refl
unseen m (clear i) =
    by_turn m (clear i) (λ o. refl) (rw (place_at m.places i) (lift (ltb i place_limit) (get_or m.places i empty)))
  where
    lift : (b : Bool) (s : Place)
        → cond b (clear_turn (unsigned_machine m) i (unsigned_place s)) (turn (unsigned_machine m) (refused NoPlace))
        ≡ unsigned_turn (cond b (clear_turn m i s) (turn m (refused NoPlace)))
    lift true empty = refl
    lift true (full k fit o p l) = rw (map-set unsigned_place m.places i empty) refl
    lift false s = refl
unseen m (reweigh i x) =
    by_turn m (reweigh i x) (λ o. refl)
    (rw (place_at m.places i) (lift (ltb i place_limit) (get_or m.places i empty)))
  where
    lift : (b : Bool) (s : Place)
        → cond b (reweigh_turn (unsigned_machine m) i x (unsigned_place s)) (turn (unsigned_machine m) (refused NoPlace))
        ≡ unsigned_turn (cond b (reweigh_turn m i x s) (turn m (refused NoPlace)))
    lift true empty = refl
    lift true (full k fit o p l) = rw (map-set unsigned_place m.places i (full (weighed k x) fit o p l)) refl
    lift false s = refl
unseen m (advance n) =
    let ss = iterate (bump m.mesh) (steps_of m n) m.places in
    by_turn m (advance n) (λ o. refl)
    (rw (
      left-sum-same m.mesh m.places,
      bumps-same m.mesh (steps_of m n) m.places,
      left-sum-same m.mesh ss,
    ) refl)
unseen m squeeze = by_turn m squeeze (λ o. refl) refl
unseen m (read ls r) =
    let ss = seen_places ls m.places in
    let b = needs r && ltb 0 (left_sum m.mesh ss) in
    let x = worked_afresh m.mesh (map unsigned_place ss) r in
    let y = worked_afresh m.mesh ss r in
    let no = refusing r Unfinished in
    record {
      same = rw (seen_same ls m.places, left-sum-same m.mesh ss)
          (refused-same r (leb (2 ^ 16) ls) (refusing r NoLayer) (cond b no x) (cond b no y)
          (refused-same r b no x y (afresh_same m.mesh ss r)));
      next = refl;
    }
unseen m (finished ls v) =
    by_turn m (finished ls v) (λ o. refl)
    (rw (seen_same ls m.places, finished_same m.mesh (seen_places ls m.places) v) refl)
unseen m (page bs) =
    by_turn m (page bs) (λ o. refl) (rw (left-sum-same m.mesh m.places, page_same m.mesh m.places bs) refl)
unseen m (lines bs) =
    record {
      same = ap (λ (a : Answer). record { reply = a; out = []; bytes = [] })
          (same_count (machine_lines m.mesh (map unsigned_place m.places)) (machine_lines m.mesh m.places) bs
          (lines_long m.mesh m.places));
      next = refl;
    }

-- ---- a list of calls
abbrev said_by : Machine → List Call → List Heard
said_by m [] = []
said_by m (c ∷ cs) = turn_said c (machine m c) ∷ said_by (machine m c).next cs

said_same : (cs : List Call) (m : Machine) → said_by (unsigned_machine m) (map unsigned_call cs) ≡ said_by m cs
said_same [] m = refl
said_same (c ∷ cs) m =
    let e = unseen m c in
    ap (λ (o : Heard). o ∷ said_by (machine (unsigned_machine m) (unsigned_call c)).next (map unsigned_call cs)) e.same
    ∙ ap (λ (l : List Heard). turn_said c (machine m c) ∷ l)
    (ap (λ (t : Machine). said_by t (map unsigned_call cs)) e.next ∙ said_same cs (machine m c).next)

after_same : (cs : List Call) (m : Machine)
    → after_all (unsigned_machine m) (map unsigned_call cs) ≡ unsigned_machine (after_all m cs)
after_same [] m = refl
after_same (c ∷ cs) m =
    ap (λ (t : Machine). after_all t (map unsigned_call cs)) (unseen m c).next ∙ after_same cs (machine m c).next

-- ---- the store
module _ (exF : List Float) (exW : List ℕ) where
  store_said : (cs : List Call) (m : Machine) → Valid m.mesh m.places
      → said width (holding width m exF exW) cs ≡ said_by m cs
  store_said [] m v = refl
  store_said (c ∷ cs) m v =
      rw (one_call width layered4 m v exF exW c)
      (ap (λ (l : List Heard). turn_said c (machine m c) ∷ l) (store_said cs (machine m c).next (kept m v c).valid))

  abbrev volumeAt : Store → ℕ → ℕ → Float
  volumeAt s i j = get_or s.floats (piece_from i j + 2) nan

  abbrev placeVolume : Machine → ℕ → ℕ → Float
  placeVolume m i j = get_or (sixteen m.mesh (get_or m.places i empty)) (3 * j + 2) nan

  volume_held : (m : Machine) → Valid m.mesh m.places → (i j : ℕ) → i < 32 → j < 16
      → volumeAt (holding width m exF exW) i j ≡ placeVolume (unsigned_machine m) i j
  volume_held m v i j h g =
      let e : piece_from i j + 2 ≡ 225 + (48 * i + (3 * j + 2)) = omega arith in
      rw (e, laid_out m.mesh m.places v (past m exF), place_at m.places i)
      (get48 width width4 m.mesh m.places v.places (past m exF) i h (3 * j + 2) (omega arith)
      ∙ sym (held_same m.mesh (get_or m.places i empty) j))

  same-said : (m : Machine) → Valid m.mesh m.places → (cs ds : List Call)
      → map unsigned_call cs ≡ map unsigned_call ds → SameSaid width (holding width m exF exW) cs ds
  same-said m v cs ds h =
      let o = its_runs width layered4 exF exW m v in
      let a = after_calls width layered4 exF exW cs o in
      let b = after_calls width layered4 exF exW ds o in
      let s : unsigned_machine (after_all m cs) ≡ unsigned_machine (after_all m ds)
      = sym (after_same cs m) ∙ (ap (after_all (unsigned_machine m)) h ∙ after_same ds m) in
      record {
        calls =
            store_said cs m v
            ∙ (sym (said_same cs m) ∙ (ap (said_by (unsigned_machine m)) h ∙ (said_same ds m ∙ sym (store_said ds m v))));
        volumes = λ i j hi hj.
            ap (λ (t : Store). volumeAt t i j) a.runs
            ∙ (volume_held (after_all m cs) a.valid i j hi hj
            ∙ (ap (λ (t : Machine). placeVolume t i j) s
            ∙ sym (ap (λ (t : Store). volumeAt t i j) b.runs ∙ volume_held (after_all m ds) b.valid i j hi hj)));
      }

-- ---- the theorem
turned_density : (k : Kernel) (x : List Float) → densitized (six (turned k)) x ≡ densitized (six k) x
turned_density k x =
    sym (density_same (turned k ∷ []) x)
    ∙ (ap (λ (s : Float). densitized (six (record { c = k.c; sigma = s; w = k.w; alpha = k.alpha })) x)
    (abs_neg k.sigma)
    ∙ density_same (k ∷ []) x)

turned_volume : (xs : List Float) (ks : List ℕ) (c : V3) (sigma : Float)
    → kernel_volume_call xs ks c (neg sigma) ≡ kernel_volume_call xs ks c sigma
unfolding kernel_volume_call
turned_volume xs ks c sigma = rw (kernel_volume_even (triangle_at xs ks) c sigma (face_count ks)) refl

turned_put : (i : ℕ) (k : Kernel) (l : ℕ) → stays k.alpha ≡ true
    → unsigned_call (put i (turned k) l) ≡ unsigned_call (put i k l)
turned_put i k l h = rw (h, abs_neg k.sigma) refl

pub signs_unseen : SignsUnseen
signs_unseen =
    record {
      density = turned_density;
      volume = turned_volume;
      put_turned = turned_put;
      every_list = λ r xs ks fs ws h cs ds e.
          let o = holds width width4 r xs ks fs ws h in
          subst (λ (s : Store). SameSaid width s cs ds) (sym o.runs)
          (same-said (excess_f xs fs) (excess_w width ks ws) (opened r xs ks) o.valid cs ds e);
    }
