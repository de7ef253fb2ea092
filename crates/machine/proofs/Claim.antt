-- Each call on a store that holds a machine does what the machine does. Assumes nothing.
use Rattle.std.specs.Prelude.{Err}
use mathlib.Core.Path.{◌≡◌, refl, sym, ap, subst, ◌∙◌}
use mathlib.Core.List.{List, [], ◌∷◌}
use mathlib.Core.Bool.{cond}
use Prim.Native.Nat.{ℕ, zero, suc, ◌+◌, ◌*◌, ◌-◌, ◌≤◌, ◌<◌, min}
use native.Mathlib.Nat.{zero-div, zero-mod}
use native.Mathlib.Decide.{dec_lt}
use native.Mathlib.Omega.{arith}
use lib.ListN.{length, get_or, set, length-set}
use lib.Seq.{set-get_or}
use lib.Dec.{ltb}
use lib.Ieee.{Float}
use borrow.Author.Tests.{lt-ltb, le-ltb, le-leb, lt-leb, ne_eqb}
use Rattle.base.specs.Answers.{Answer, refused, done, outcome, passed}
use Rattle.base.specs.Floats.{+0}
use Rattle.base.specs.Loops.{times}
use Rattle.base.specs.declared.refusal.Refusal.{Refusal}
use Rattle.base.specs.declared.refusal.Refusal.TheVariants.{NoPlace, NoLayer, Vacant}
use Rattle.layout.specs.Runs.{write}
use Rattle.volume.specs.Volume.{volume_to}
use Rattle.kernel.specs.Field.{centre_of}
use Rattle.kernel.specs.declared.kernel.Kernel.{Kernel}
use Rattle.pieces.specs.declared.pieces.Pieces.{Pieces}
use Rattle.pieces.specs.declared.fit.Fit.{Fit}
use Rattle.pieces.specs.declared.fit.Fit.TheVariants as ended
use Rattle.pieces.specs.Pieces.{decomposed, part_at}
use Rattle.pieces.specs.FitEnd.{fit_of, kind_of, column_of, pivot_told}
use Rattle.pieces.specs.PieceLaws.{Clean, clean, at_most_16, same_pieces}
use Rattle.layout.specs.Layout.{place_limit, status_of}
use Rattle.layout.specs.Soundness.{store_check, place_check, filled_check, layer_check}
use Rattle.store.specs.Calls.{clear_step, reweigh_step}
use Rattle.advance.specs.Steps.{advance_step}
use Rattle.squeeze.specs.Squeeze.{squeeze_step}
use Rattle.store.specs.Puts.{fresh, at_first, put_floats, put_words, placed_with, put_step_lem}
use Rattle.machine.specs.Machine.{Mesh, Provenance, own, carried, Place, empty, full, need, left_place, left_sum, Machine, Turn, turn, end_counts, end_floats, put_into, put_turn, clear_turn, weighed, reweigh_turn}
use Rattle.machine.specs.Holding.{place_row, cells, words_of}
use Rattle.density.specs.declared.convention.Convention.{Convention}
use Rattle.readings.specs.Readings.{Reading}
use Rattle.machine.specs.Calls.{Call, put, clear, reweigh, advance, squeeze, read, finished, page, lines, machine, Store, Result, result, seen, pinned, store, past, holding}
use Rattle.machine.specs.Events.{Event, call, charged_by_event, done_by_event}
use Rattle.machine.specs.Valid.{FittedBy, Within, Valid}
use Rattle.machine.proofs.Rows.{Width, width4, Layered, formed}
use Rattle.machine.proofs.Sixteen.{sixteen, laid_out_lem, laid_out}
use Rattle.machine.proofs.Held.{radius-held, verts_held, faces_held, zeros-row, status_held, write_words, write_floats, set-seven, coords_held, corners_held}
use Rattle.machine.proofs.Sane.{no_fault}
use Rattle.machine.proofs.Look.{read_held}
use Rattle.machine.proofs.Finished.{finished_report}
use Rattle.machine.proofs.Pages.{page_held}
use Rattle.machine.proofs.Written.{lines_held}
use Rattle.machine.proofs.Squeezing.{floats_squeezed, words_squeezed, slim_valid, left-slim}
use Rattle.machine.proofs.Slim.{freed_is}
use Rattle.machine.proofs.Sweep.{spread, all_held, left-held, lowest_first, spread-length, within_spread, left-spread}

-- how a fit ended, as the store tells it and as the machine does
end_counts_lem : (e : Fit) → (kind_of e ∷ column_of e ∷ []) ≡ end_counts e
end_counts_lem ended.Kept = refl
end_counts_lem (ended.Fitted pivot) = refl
end_counts_lem (ended.Fallback column) = refl
end_counts_lem ended.NoExponent = refl

end_floats_lem : (e : Fit) → (pivot_told e ∷ []) ≡ end_floats e
end_floats_lem ended.Kept = refl
end_floats_lem (ended.Fitted pivot) = refl
end_floats_lem (ended.Fallback column) = refl
end_floats_lem ended.NoExponent = refl

-- the runs by sixteen pieces to a filled place, and what a turn leaves in them
abbrev pub inner : ℕ → Machine → List Float → List ℕ → Store
inner wd m xs ys =
    record { floats = laid_out_lem m.mesh m.places (past m xs); words = words_of wd m.mesh m.places ys }

abbrev pub shown_in : ℕ → List Float → List ℕ → Turn → Result
shown_in wd xs ys t = record { runs = inner wd t.next xs ys; reply = t.reply; out = t.out; bytes = t.bytes }

module _ (wd : ℕ) (fm : Width wd) (m : Machine) (v : Valid m.mesh m.places) (xs : List Float) (ys : List ℕ) where
  abbrev FS : List Float
  FS = laid_out_lem m.mesh m.places (past m xs)

  abbrev WS : List ℕ
  WS = words_of wd m.mesh m.places ys

  sane : store_check wd FS WS ≡ passed
  sane = no_fault wd fm m.mesh m.places v (past m xs) ys

  -- ---- the checks of a place
  pub place_in : (i : ℕ) → i < 32 → place_check wd FS WS i ≡ passed
  unfolding place_check
  place_in i h = rw (sane, lt-ltb i 32 h) refl

  pub place_out : (i : ℕ) → 32 ≤ i → place_check wd FS WS i ≡ Err NoPlace
  unfolding place_check
  place_out i h = rw (sane, le-ltb i 32 h) refl

  status : (i : ℕ) → i < 32 → status_of wd WS i ≡ get_or (place_row wd m.mesh (get_or m.places i empty)) 0 0
  status i h = status_held wd fm m.mesh m.places v.places ys i h

  filled-out : (i : ℕ) → 32 ≤ i → filled_check wd FS WS i ≡ Err NoPlace
  unfolding filled_check
  filled-out i h = rw (place_out i h) refl

  filled_none : (i : ℕ) → i < 32 → get_or m.places i empty ≡ empty → filled_check wd FS WS i ≡ Err Vacant
  unfolding filled_check
  filled_none i h e = rw (place_in i h, status i h, e) refl

  filled_in : (i : ℕ) → i < 32 → (k : Kernel) (fit : Pieces) (o : Provenance) (p l : ℕ)
      → get_or m.places i empty ≡ full k fit o p l → filled_check wd FS WS i ≡ passed
  unfolding filled_check
  filled_in i h k fit o p l e = rw (place_in i h, status i h, e, ne_eqb (1 + fit.count) 0 (λ z. omega arith)) refl

  -- ---- clear
  clear_in : (i : ℕ) → i < 32 → (s : Place) → get_or m.places i empty ≡ s
      → result (clear_step wd FS WS i) ≡ shown_in wd xs ys (clear_turn m i s)
  unfolding clear_step
  clear_in i h empty e = rw (filled_none i h e) refl
  clear_in i h (full k fit o p l) e =
      rw (
        filled_in i h k fit o p l e,
        write_floats wd fm m.mesh m.places v.places (past m xs) i h empty,
        zeros-row wd fm m.mesh,
        write_words wd fm m.mesh m.places v.places ys i h empty,
      ) refl

  pub clear-held : (i : ℕ) → store wd (inner wd m xs ys) (clear i) ≡ shown_in wd xs ys (machine m (clear i))
  unfolding store machine clear_step
  clear-held i = go (dec_lt i 32)
    where
      go : Dec (i < 32)
          → result (clear_step wd FS WS i)
          ≡ shown_in wd xs ys
          (cond (ltb i place_limit) (clear_turn m i (get_or m.places i empty)) (turn m (refused NoPlace)))
      go (yes h) = clear_in i h (get_or m.places i empty) refl ∙ rw (lt-ltb i 32 h) refl
      go (no h) = rw (filled-out i (omega arith), le-ltb i 32 (omega arith)) refl

  -- ---- reweigh
  same_place : (i : ℕ) → i < 32 → (s : Place)
      → place_row wd m.mesh (get_or m.places i empty) ≡ place_row wd m.mesh s
      → WS ≡ words_of wd m.mesh (set m.places i s) ys
  same_place i h s e =
      sym
      (write_words wd fm m.mesh m.places v.places ys i h (get_or m.places i empty)
      ∙ ap (λ (t : List Place). words_of wd m.mesh t ys) (set-get_or m.places i empty))
      ∙ (ap (write WS (2 + wd * i)) e ∙ write_words wd fm m.mesh m.places v.places ys i h s)

  same-volumes : (k : Kernel) (fit : Pieces) (o : Provenance) (w : Float) (p l : ℕ)
      → sixteen m.mesh (full (weighed k w) fit o p l) ≡ sixteen m.mesh (full k fit o p l)
  unfolding centre_of
  same-volumes k fit o w p l = refl

  reweigh-in : (i : ℕ) (w : Float) → i < 32 → (s : Place) → get_or m.places i empty ≡ s
      → result (reweigh_step wd FS WS i w) ≡ shown_in wd xs ys (reweigh_turn m i w s)
  unfolding reweigh_step
  reweigh-in i w h empty e = rw (filled_none i h e) refl
  reweigh-in i w h (full k fit o p l) e =
      let n : 5 + 7 * i ≡ 1 + (7 * i + 4) = omega arith in
      let s = full (weighed k w) fit o p l in
      let f = set-seven wd fm m.mesh m.places v.places (past m xs) i h s 4 w (omega arith) (rw e refl)
      (rw e (same-volumes k fit o w p l)) in
      let g : WS ≡ words_of wd m.mesh (set m.places i s) ys = same_place i h s (rw e refl) in
      rw (filled_in i h k fit o p l e, n, f)
      (ap
      (λ (t : List ℕ). record {
        runs = record { floats = laid_out_lem m.mesh (set m.places i s) (past m xs); words = t };
        reply = done;
        out = [];
        bytes = [];
      })
      g)

  pub reweigh_held : (i : ℕ) (w : Float)
      → store wd (inner wd m xs ys) (reweigh i w) ≡ shown_in wd xs ys (machine m (reweigh i w))
  unfolding store machine reweigh_step
  reweigh_held i w = go (dec_lt i 32)
    where
      go : Dec (i < 32)
          → result (reweigh_step wd FS WS i w)
          ≡ shown_in wd xs ys
          (cond (ltb i place_limit) (reweigh_turn m i w (get_or m.places i empty)) (turn m (refused NoPlace)))
      go (yes h) = reweigh-in i w h (get_or m.places i empty) refl ∙ rw (lt-ltb i 32 h) refl
      go (no h) = rw (filled-out i (omega arith), le-ltb i 32 (omega arith)) refl

  -- ---- put
  fresh_cells : (k : Kernel) (fit : Pieces) (n j : ℕ) → fresh fit n j ≡ cells m.mesh k fit n j 0
  unfolding volume_to times
  fresh_cells k fit zero j = refl
  fresh_cells k fit (suc n) j =
      let a : min m.mesh.faces 0 ≡ 0 = omega arith in
      let b : 0 - m.mesh.faces ≡ 0 = omega arith in
      rw (a, b)
      (ap (λ (t : List Float). (part_at fit j).sigma ∷ (part_at fit j).coefficient ∷ +0 ∷ t)
      (fresh_cells k fit n (suc j)))

  -- the runs, of any fit and wherever it comes from
  pub put_runs : (i : ℕ) (k : Kernel) (fit : Pieces) (o : Provenance) (l : ℕ) → i < 32
      → ◌≡◌ {A = Store} (record { floats = put_floats FS i k fit; words = put_words wd WS i fit l })
      (inner wd (put_into m i k fit o l) xs ys)
  unfolding put_floats put_words at_first
  put_runs i k fit o l h =
      let s = full k fit o 0 l in
      let f = write_floats wd fm m.mesh m.places v.places (past m xs) i h s in
      let g = rw (zero-div, zero-mod) at (write_words wd fm m.mesh m.places v.places ys i h s) in
      rw (faces_held wd m.mesh m.places ys, fresh_cells k fit 16 0, f, g) refl

  put_in : (i : ℕ) (k : Kernel) (fit : Pieces) (end : Fit) (l : ℕ) → i < 32
      → result
      (record {
        reply = placed_with fit.count (need m.mesh fit) end;
        floats = put_floats FS i k fit;
        words = put_words wd WS i fit l;
      })
      ≡ shown_in wd xs ys (put_turn m i k fit end l)
  put_in i k fit end l h =
      rw (end_counts_lem end, end_floats_lem end)
      (ap (λ (s : Store). record { runs = s; reply = (put_turn m i k fit end l).reply; out = []; bytes = [] })
      (put_runs i k fit own l h))

  pub put_held : (i : ℕ) (k : Kernel) (l : ℕ)
      → store wd (inner wd m xs ys) (put i k l) ≡ shown_in wd xs ys (machine m (put i k l))
  unfolding store machine put_step_lem layer_check
  put_held i k l = go (dec_lt i 32) (dec_lt l 16)
    where
      go : Dec (i < 32) → Dec (l < 16)
          → store wd (inner wd m xs ys) (put i k l) ≡ shown_in wd xs ys (machine m (put i k l))
      go (yes h) (yes b) =
          rw (
            place_in i h,
            lt-ltb i 32 h,
            lt-ltb l 16 b,
            le-leb l 15 (omega arith),
            radius-held m.mesh m.places (past m xs),
            faces_held wd m.mesh m.places ys,
          )
          (put_in i k (decomposed k m.mesh.radius) (fit_of k m.mesh.radius) l h)
      go (yes h) (no b) = rw (place_in i h, lt-ltb i 32 h, le-ltb l 16 (omega arith), lt-leb l 15 (omega arith)) refl
      go (no h) b = rw (place_out i (omega arith), le-ltb i 32 (omega arith)) refl

  -- ---- advance
  pub advance_held : (n : ℕ) → store wd (inner wd m xs ys) (advance n) ≡ shown_in wd xs ys (machine m (advance n))
  unfolding store machine advance_step
  advance_held n =
      let l = left_sum m.mesh m.places in
      let a : n - (n - l) ≡ min n l = omega arith in
      rw (
        sane,
        verts_held wd m.mesh m.places ys,
        faces_held wd m.mesh m.places ys,
        coords_held wd fm m.mesh m.places v.places (past m xs) v.mesh.coords,
        corners_held wd fm m.mesh m.places v.places ys v.mesh.corners,
        all_held wd fm m.mesh m.places v (past m xs) ys n,
        left-held wd fm m.mesh m.places v ys,
        a,
        lowest_first m.mesh (min n l) n m.places refl,
        left-spread m.mesh n m.places,
      ) refl

  -- ---- a page
  page-of-held : (bs : List ℕ) → store wd (inner wd m xs ys) (page bs) ≡ shown_in wd xs ys (machine m (page bs))
  unfolding store machine
  page-of-held bs = ap (pinned (inner wd m xs ys)) (page_held wd fm m.mesh m.places v (past m xs) ys bs)

  -- ---- squeeze
  pub squeeze_held : store wd (inner wd m xs ys) squeeze ≡ shown_in wd xs ys (machine m squeeze)
  unfolding store machine squeeze_step
  squeeze_held =
      rw (
        sane,
        verts_held wd m.mesh m.places ys,
        faces_held wd m.mesh m.places ys,
        coords_held wd fm m.mesh m.places v.places (past m xs) v.mesh.coords,
        corners_held wd fm m.mesh m.places v.places ys v.mesh.corners,
        floats_squeezed wd fm m.mesh m.places v m.freed xs,
        words_squeezed wd fm m.mesh m.places v ys,
        freed_is m.mesh,
      ) refl

-- ---- of a form that has a word for the layer
module _ (wd : ℕ) (ly : Layered wd) (m : Machine) (v : Valid m.mesh m.places) (xs : List Float) (ys : List ℕ)
  where
    fm : Width wd
    fm = formed ly

    -- ---- a reading
    reading-held : (ls : ℕ) (r : Reading)
        → store wd (inner wd m xs ys) (read ls r) ≡ shown_in wd xs ys (machine m (read ls r))
    unfolding store machine
    reading-held ls r = ap (seen (inner wd m xs ys)) (read_held wd ly m.mesh m.places v (past m xs) ys ls r)

    -- ---- a report of what is finished
    finished-of-held : (ls : ℕ) (cv : Convention)
        → store wd (inner wd m xs ys) (finished ls cv) ≡ shown_in wd xs ys (machine m (finished ls cv))
    unfolding store machine
    finished-of-held ls cv =
        ap (λ (a : Answer). seen (inner wd m xs ys) (outcome a []))
        (finished_report wd ly m.mesh m.places v (past m xs) ys ls cv)

    -- ---- its lines
    lines-of-held : (bs : List ℕ) → store wd (inner wd m xs ys) (lines bs) ≡ shown_in wd xs ys (machine m (lines bs))
    unfolding store machine
    lines-of-held bs = ap (pinned (inner wd m xs ys)) (lines_held wd ly m.mesh m.places v (past m xs) ys bs)

    one_in : (c : Call) → store wd (inner wd m xs ys) c ≡ shown_in wd xs ys (machine m c)
    one_in (put i k l) = put_held wd fm m v xs ys i k l
    one_in (clear i) = clear-held wd fm m v xs ys i
    one_in (reweigh i w) = reweigh_held wd fm m v xs ys i w
    one_in (advance n) = advance_held wd fm m v xs ys n
    one_in squeeze = squeeze_held wd fm m v xs ys
    one_in (read ls r) = reading-held ls r
    one_in (finished ls cv) = finished-of-held ls cv
    one_in (page bs) = page-of-held wd fm m v xs ys bs
    one_in (lines bs) = lines-of-held bs

-- ---- what every turn keeps
pub all_set : (P : Place → Type 0) (ss : List Place) (i : ℕ) (s : Place) → P s → ((j : ℕ) → P (get_or ss j empty))
    → (j : ℕ) → P (get_or (set ss i s) j empty)
all_set P [] i s w h j = h j
all_set P (x ∷ ss) zero s w h zero = w
all_set P (x ∷ ss) zero s w h (suc j) = h (suc j)
all_set P (x ∷ ss) (suc i) s w h zero = h zero
all_set P (x ∷ ss) (suc i) s w h (suc j) = all_set P ss i s w (λ n. h (suc n)) j

pub left-set : (m : Mesh) (ss : List Place) (i : ℕ) (s : Place) → i < length ss
    → left_sum m (set ss i s) + left_place m (get_or ss i empty) ≡ left_sum m ss + left_place m s
left-set m [] i s h = absurd (omega arith)
left-set m (x ∷ ss) zero s h = omega arith
left-set m (x ∷ ss) (suc i) s h = omega (arith, left-set m ss i s (omega arith))

-- the pieces do not depend on the weight
still_fitted : (radius : Float) (k : Kernel) (fit : Pieces) (o : Provenance) (w : Float) → FittedBy radius k fit o
    → FittedBy radius (weighed k w) fit o
still_fitted radius k fit own w f = f ∙ same_pieces k.c k.c k.sigma k.w w k.alpha radius
still_fitted radius k fit carried w f = f

-- t is the machine's turn at the event e
pub record Kept (m : Machine) (e : Event) (t : Turn) : Type 0 where
  pub valid : Valid t.next.mesh t.next.places
  pub balance : done_by_event e t.reply + left_sum t.next.mesh t.next.places + t.next.dropped
      ≡ charged_by_event e t.reply + left_sum m.mesh m.places + m.dropped
  pub charged : t.next.charged ≡ m.charged + charged_by_event e t.reply

module _ (m : Machine) (v : Valid m.mesh m.places) where
  remade : (ss : List Place) → length ss ≡ 32 → ((i : ℕ) → Within m.mesh (get_or ss i empty)) → Valid m.mesh ss
  remade ss l w = record { mesh = v.mesh; places = l; within = w }

  pub with_place : (i : ℕ) (s : Place) → Within m.mesh s → Valid m.mesh (set m.places i s)
  with_place i s w =
      remade (set m.places i s) (length-set m.places i s ∙ v.places)
      (all_set (Within m.mesh) m.places i s w v.within)

  -- a put of any fit that is within what a place holds
  pub put_valid : (i : ℕ) (k : Kernel) (fit : Pieces) (o : Provenance) (l : ℕ) → FittedBy m.mesh.radius k fit o
      → fit.count ≤ 16 → Clean fit → l < 16 → Valid m.mesh (set m.places i (full k fit o 0 l))
  put_valid i k fit o l f n c b =
      with_place i (full k fit o 0 l) (record { of_kernel = f; few = n; clean = c; steps = omega arith; layer = b })

  still-put : (i : ℕ) (k : Kernel) (l : ℕ) (r : Refusal) → Kept m (call (put i k l)) (turn m (refused r))
  still-put i k l r = record { valid = v; balance = refl; charged = omega arith }

  still-clear : (i : ℕ) (r : Refusal) → Kept m (call (clear i)) (turn m (refused r))
  still-clear i r = record { valid = v; balance = refl; charged = omega arith }

  still-reweigh : (i : ℕ) (w : Float) (r : Refusal) → Kept m (call (reweigh i w)) (turn m (refused r))
  still-reweigh i w r = record { valid = v; balance = refl; charged = omega arith }

  keep-put : (i : ℕ) (k : Kernel) (l : ℕ) → i < 32 → l < 16
      → Kept m (call (put i k l)) (put_turn m i k (decomposed k m.mesh.radius) (fit_of k m.mesh.radius) l)
  keep-put i k l h b =
      let r = m.mesh.radius in
      let fit = decomposed k r in
      let z = left-set m.mesh m.places i (full k fit own 0 l) (rw v.places h) in
      record {
        valid = put_valid i k fit own l refl (at_most_16 k r) (clean k r) b;
        balance = omega arith;
        charged = omega arith;
      }

  keep-clear : (i : ℕ) → i < 32 → (s : Place) → get_or m.places i empty ≡ s → Kept m (call (clear i)) (clear_turn m i s)
  keep-clear i h empty e = still-clear i Vacant
  keep-clear i h (full k fit o p l) e =
      let z = rw e at (left-set m.mesh m.places i empty (rw v.places h)) in
      record { valid = with_place i empty (tt {0}); balance = omega arith; charged = omega arith }

  keep-reweigh : (i : ℕ) (w : Float) → i < 32 → (s : Place) → get_or m.places i empty ≡ s
      → Kept m (call (reweigh i w)) (reweigh_turn m i w s)
  keep-reweigh i w h empty e = still-reweigh i w Vacant
  keep-reweigh i w h (full k fit o p l) e =
      let y = subst (Within m.mesh) e (v.within i) in
      let z = rw e at (left-set m.mesh m.places i (full (weighed k w) fit o p l) (rw v.places h)) in
      record {
        valid = with_place i (full (weighed k w) fit o p l)
            (record {
              of_kernel = still_fitted m.mesh.radius k fit o w y.of_kernel;
              few = y.few;
              clean = y.clean;
              steps = y.steps;
              layer = y.layer;
            });
        balance = omega arith;
        charged = omega arith;
      }

  pub kept : (c : Call) → Kept m (call c) (machine m c)
  unfolding machine
  kept (put i k l) = go (dec_lt i 32) (dec_lt l 16)
    where
      go : Dec (i < 32) → Dec (l < 16) → Kept m (call (put i k l)) (machine m (put i k l))
      go (yes h) (yes b) = rw (lt-ltb i 32 h, le-leb l 15 (omega arith)) (keep-put i k l h b)
      go (yes h) (no b) = rw (lt-ltb i 32 h, lt-leb l 15 (omega arith)) (still-put i k l NoLayer)
      go (no h) b = rw (le-ltb i 32 (omega arith)) (still-put i k l NoPlace)
  kept (clear i) = go (dec_lt i 32)
    where
      go : Dec (i < 32) → Kept m (call (clear i)) (machine m (clear i))
      go (yes h) = rw (lt-ltb i 32 h) (keep-clear i h (get_or m.places i empty) refl)
      go (no h) = rw (le-ltb i 32 (omega arith)) (still-clear i NoPlace)
  kept (reweigh i w) = go (dec_lt i 32)
    where
      go : Dec (i < 32) → Kept m (call (reweigh i w)) (machine m (reweigh i w))
      go (yes h) = rw (lt-ltb i 32 h) (keep-reweigh i w h (get_or m.places i empty) refl)
      go (no h) = rw (le-ltb i 32 (omega arith)) (still-reweigh i w NoPlace)
  kept (advance n) =
      let l = left_sum m.mesh m.places in
      rw (lowest_first m.mesh (min n l) n m.places refl)
      (record {
        valid =
            remade (spread m.mesh n m.places) (spread-length 4 width4 m.mesh n m.places ∙ v.places)
            (within_spread m.mesh n m.places v.within);
        balance = rw (left-spread m.mesh n m.places) (omega arith);
        charged = omega arith;
      })
  kept squeeze =
      record {
        valid = slim_valid m.mesh m.places v;
        balance = rw (left-slim m.mesh m.places v) refl;
        charged = omega arith;
      }
  kept (read ls r) = record { valid = v; balance = refl; charged = omega arith }
  kept (finished ls cv) = record { valid = v; balance = refl; charged = omega arith }
  kept (page bs) = record { valid = v; balance = refl; charged = omega arith }
  kept (lines bs) = record { valid = v; balance = refl; charged = omega arith }

-- ---- one call, on the runs that hold the machine
abbrev pub shown : ℕ → List Float → List ℕ → Turn → Result
shown wd xs ys t = record { runs = holding wd t.next xs ys; reply = t.reply; out = t.out; bytes = t.bytes }

pub held_in : (wd : ℕ) (m : Machine) → Valid m.mesh m.places → (xs : List Float) (ys : List ℕ)
    → holding wd m xs ys ≡ inner wd m xs ys
held_in wd m v xs ys =
    ap (λ (fs : List Float). record { floats = fs; words = words_of wd m.mesh m.places ys })
    (laid_out m.mesh m.places v (past m xs))

pub one_call : (wd : ℕ) → Layered wd → (m : Machine) → Valid m.mesh m.places
    → (xs : List Float) (ys : List ℕ) (c : Call) → store wd (holding wd m xs ys) c ≡ shown wd xs ys (machine m c)
one_call wd fm m v xs ys c =
    let t = machine m c in
    ap (λ (s : Store). store wd s c) (held_in wd m v xs ys)
    ∙
    (one_in wd fm m v xs ys c
    ∙ ap (λ (s : Store). record { runs = s; reply = t.reply; out = t.out; bytes = t.bytes })
    (sym (held_in wd t.next (kept m v c).valid xs ys)))
