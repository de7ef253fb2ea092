-- 02, L6: a carry of runs that hold a machine at three words to a place leaves the new runs holding the machine carried
-- over, and is refused exactly when those are too short. Assumes nothing.
use Rattle.std.specs.Prelude.{Err}
use mathlib.Core.Path.{◌≡◌, refl, sym, ap, subst, ◌∙◌}
use mathlib.Core.Bool.{Bool, true, false, not, ◌&&◌, ◌||◌, cond}
use mathlib.Core.List.{List, [], ◌∷◌, ◌++◌, map, map-append, append_assoc, append-nil}
use Prim.Native.Nat.{ℕ, zero, suc, ◌+◌, ◌*◌, ◌≤◌, ◌<◌}
use native.Mathlib.Omega.{arith}
use lib.Dec.{ltb}
use lib.ListN.{length, take, get_or, length-append, length-map, get_or-map}
use lib.Seq.{take-suc, take_all, take_at}
use lib.Ieee.{Float}
use Rattle.base.specs.Answers.{counted, passed}
use Rattle.base.specs.declared.refusal.Refusal.TheVariants.{ShortStore}
use Rattle.layout.specs.Runs.{write}
use Rattle.layout.specs.Layout.{width, coords_from, corners_from}
use Rattle.layout.specs.After.{After, after}
use Rattle.carry.specs.Carry.{old_width, carried_floats, carried_rows, carried_words, carry_check, carry_step}
use Rattle.machine.specs.Machine.{Mesh, Place, empty, full, left_place, left_sum, Machine, short_row}
use Rattle.machine.specs.Holding.{flat, floats7, floats48, floats_of, place_row, words_of, excess_f, excess_w}
use Rattle.machine.specs.Calls.{Store, past}
use Rattle.machine.specs.Demands.{refused_by}
use Rattle.machine.specs.Beginnings.{leaving, carried_place, carried_over, carry_row}
use Rattle.machine.specs.Valid.{Within, Valid}
use Rattle.machine.proofs.Rows.{width3, width4, flat-length}
use Rattle.machine.proofs.Sixteen.{sixteen, laid_out_lem, laid_out}
use Rattle.machine.proofs.Held.{verts_held, faces_held, each_row, each7, each48, status_held, finished_held, done_held, corners_held}
use Rattle.machine.proofs.Sane.{long-enough, is-sound}
use Rattle.machine.proofs.Adopting.{Holds}
use Rattle.machine.proofs.Opened.{write-front}
use Rattle.machine.proofs.Refused.{not-below, Row}

flat_append : {A : Type 0} (xs ys : List (List A)) → flat (xs ++ ys) ≡ flat xs ++ flat ys
flat_append [] ys = refl
flat_append (x ∷ xs) ys = ap (λ (t : List _). x ++ t) (flat_append xs ys) ∙ sym (append_assoc x (flat xs) (flat ys))

-- ---- a place carried over
carried_at : (ss : List Place) (i : ℕ) → get_or (map carried_place ss) i empty ≡ carried_place (get_or ss i empty)
carried_at ss i = get_or-map carried_place ss i empty

module _ (m : Mesh) where
  -- its four words are its three, and layer 0
  four-words : (s : Place)
      → get_or (place_row old_width m s) 0 0 ∷ get_or (place_row old_width m s) 1 0 ∷ get_or (place_row old_width m s) 2 0 ∷ 0 ∷ []
      ≡ place_row width m (carried_place s)
  four-words empty = refl
  four-words (full k fit o p l) = refl

  -- its floats stay
  seven-same : (ss : List Place) → map floats7 (map carried_place ss) ≡ map floats7 ss
  seven-same [] = refl
  seven-same (empty ∷ ss) = ap (λ (t : List (List Float)). floats7 empty ∷ t) (seven-same ss)
  seven-same (full k fit o p l ∷ ss) = ap (λ (t : List (List Float)). floats7 (full k fit o p l) ∷ t) (seven-same ss)

  pieces_same : (ss : List Place) → map (floats48 m) (map carried_place ss) ≡ map (floats48 m) ss
  pieces_same [] = refl
  pieces_same (empty ∷ ss) = ap (λ (t : List (List Float)). floats48 m empty ∷ t) (pieces_same ss)
  pieces_same (full k fit o p l ∷ ss) =
      ap (λ (t : List (List Float)). floats48 m (full k fit o p l) ∷ t) (pieces_same ss)

  pub floats_same : (ss : List Place) (xs : List Float) → floats_of m (map carried_place ss) xs ≡ floats_of m ss xs
  unfolding floats_of
  floats_same ss xs = rw (seven-same ss, pieces_same ss) refl

  -- and so does what is left
  left_one : (s : Place) → left_place m (carried_place s) ≡ left_place m s
  left_one empty = refl
  left_one (full k fit o p l) = refl

  pub left-same : (ss : List Place) → left_sum m (map carried_place ss) ≡ left_sum m ss
  left-same [] = refl
  left-same (s ∷ ss) = omega (arith, left_one s, left-same ss)

  within_same : (s : Place) → Within m s → Within m (carried_place s)
  within_same empty w = w
  within_same (full k fit o p l) w =
      record { of_kernel = tt {0}; few = w.few; clean = w.clean; steps = w.steps; layer = omega arith }

  carried-valid : (ss : List Place) → Valid m ss → Valid m (map carried_place ss)
  carried-valid ss v =
      record {
        mesh = v.mesh;
        places = length-map ss carried_place ∙ v.places;
        within = λ i. subst (Within m) (sym (carried_at ss i)) (within_same (get_or ss i empty) (v.within i));
      }

-- ---- the runs: xs and ys lie past the old store in its runs
module _ (m : Mesh) (ss : List Place) (v : Valid m ss) (xs : List Float) (ys : List ℕ) where
  abbrev FS : List Float
  FS = floats_of m ss xs

  abbrev WS : List ℕ
  WS = words_of old_width m ss ys

  abbrev new : List Place
  new = map carried_place ss

  -- the records
  rows-to : (n : ℕ) → n ≤ 32 → carried_rows WS n ≡ flat (map (place_row width m) (map carried_place (take n ss)))
  unfolding carried_rows
  rows-to zero h = refl
  rows-to (suc n) h =
      let s = get_or ss n empty in
      let row = place_row width m in
      rw (
        rows-to n (omega arith),
        status_held old_width width3 m ss v.places ys n h,
        finished_held old_width width3 m ss v.places ys n h,
        done_held old_width width3 m ss v.places ys n h,
        four-words m s,
        take-suc ss n empty (rw v.places h),
        map-append carried_place (take n ss) (s ∷ []),
        map-append row (map carried_place (take n ss)) (carried_place s ∷ []),
        flat_append (map row (map carried_place (take n ss))) (row (carried_place s) ∷ []),
        append-nil (row (carried_place s)),
      ) refl

  all-rows : carried_rows WS 32 ≡ flat (map (place_row width m) new)
  all-rows =
      rows-to 32 (omega arith)
      ∙ ap (λ (t : List Place). flat (map (place_row width m) (map carried_place t)))
      (take_all 32 ss (rw v.places (omega arith)))

  -- the words, and what they are with an excess
  words-kept : carried_words WS ≡ words_of width m new []
  unfolding words_of
  words-kept =
      rw (all-rows, corners_held old_width width3 m ss v.places ys v.mesh.corners, append-nil m.corners) refl

  words-split : (zs : List ℕ) → words_of width m new [] ++ zs ≡ words_of width m new zs
  unfolding words_of
  words-split zs =
      rw (append-nil m.corners)
      (ap (λ (l : List ℕ). m.verts ∷ m.faces ∷ l) (append_assoc (flat (map (place_row width m) new)) m.corners zs))

  words-length : length (words_of width m new []) ≡ corners_from width + length m.corners
  unfolding words_of
  words-length =
      let rows = map (place_row width m) new in
      let l : length rows ≡ 32 = length-map new (place_row width m) ∙ (length-map ss carried_place ∙ v.places) in
      rw (
        append-nil m.corners,
        length-append (flat rows) m.corners,
        flat-length width rows (each_row width width4 m new),
        l,
      ) (omega arith)

  words-carried : (us : List ℕ) → write us 0 (carried_words WS) ≡ words_of width m new (excess_w width m.corners us)
  words-carried us =
      ap (write us 0) words-kept
      ∙ (write-front us (words_of width m new []) (corners_from width + length m.corners) words-length
      ∙ words-split (excess_w width m.corners us))

  -- the floats
  floats-split : (zs : List Float) → laid_out_lem m ss [] ++ zs ≡ laid_out_lem m ss zs
  unfolding laid_out_lem
  floats-split zs =
      let a = flat (map floats7 ss) in
      let b = flat (map (sixteen m) ss) in
      rw (append-nil m.coords)
      (ap (λ (l : List Float). m.radius ∷ l)
      (append_assoc a (b ++ m.coords) zs ∙ ap (λ (l : List Float). a ++ l) (append_assoc b m.coords zs)))

  floats-length : length (laid_out_lem m ss []) ≡ coords_from + length m.coords
  unfolding laid_out_lem
  floats-length =
      let a = map floats7 ss in
      let b = map (sixteen m) ss in
      let la : length a ≡ 32 = length-map ss floats7 ∙ v.places in
      let lb : length b ≡ 32 = length-map ss (sixteen m) ∙ v.places in
      rw (
        append-nil m.coords,
        length-append (flat a) (flat b ++ m.coords),
        flat-length 7 a (each7 width width4 m ss),
        la,
        length-append (flat b) m.coords,
        flat-length 48 b (each48 width width4 m ss),
        lb,
      ) (omega arith)

  floats-kept : carried_floats FS WS ≡ laid_out_lem m ss []
  floats-kept =
      let n = coords_from + 3 * m.verts in
      rw (verts_held old_width m ss ys)
      (ap (take n) (laid_out m ss v xs ∙ sym (floats-split xs))
      ∙ take_at (laid_out_lem m ss []) xs n (omega (arith, floats-length, v.mesh.coords)))

  floats-carried : (gs : List Float) → write gs 0 (carried_floats FS WS) ≡ floats_of m new (excess_f m.coords gs)
  floats-carried gs =
      ap (write gs 0) floats-kept
      ∙ (write-front gs (laid_out_lem m ss []) (coords_from + length m.coords) floats-length
      ∙ (floats-split (excess_f m.coords gs)
      ∙ (sym (laid_out m ss v (excess_f m.coords gs)) ∙ sym (floats_same m ss (excess_f m.coords gs)))))

  -- ---- the check: nothing is wrong with the old runs
  module _ (gs : List Float) (us : List ℕ) where
    abbrev short : ℕ
    short = short_row width m.verts m.faces (length gs) (length us)

    row : Row short (carry_check FS WS gs us)
    unfolding carry_check
    row =
        rw (
          laid_out m ss v xs,
          long-enough old_width width3 m ss v xs ys,
          is-sound old_width width3 m ss v xs ys,
          verts_held old_width m ss ys,
          faces_held old_width m ss ys,
          not-below (corners_from width + 3 * m.faces) (length us),
          not-below (coords_from + 3 * m.verts) (length gs),
        ) (cases (ltb (length gs) (coords_from + 3 * m.verts)) (ltb (length us) (corners_from width + 3 * m.faces)))
      where
        cases : (a b : Bool) → Row (cond (a || b) 4 0) (cond (not b && not a) passed (Err ShortStore))
        cases true true = record { none = λ e. absurd (omega arith); some = λ h fs ws g. refl }
        cases true false = record { none = λ e. absurd (omega arith); some = λ h fs ws g. refl }
        cases false true = record { none = λ e. absurd (omega arith); some = λ h fs ws g. refl }
        cases false false = record { none = λ e. refl; some = λ h fs ws g. absurd (omega arith) }

    refuses : 0 < short → carry_step FS WS gs us ≡ after (refused_by short) gs us
    unfolding carry_step
    refuses h = row.some h gs us _

    carries : short ≡ 0
        → carry_step FS WS gs us
        ≡ after (counted (m.verts ∷ m.faces ∷ [])) (floats_of m new (excess_f m.coords gs))
        (words_of width m new (excess_w width m.corners us))
    unfolding carry_step
    carries h =
        let f = floats-carried gs in
        let w = words-carried us in
        rw (row.none h, f, w, verts_held old_width m ss ys, faces_held old_width m ss ys) refl

-- ---- the carry of a store that holds the machine m at three words to a place
module _
    {m : Machine} {s : Store} {xs : List Float} {ys : List ℕ} (h : Holds old_width m s xs ys) (gs : List Float)
    (us : List ℕ) where
  abbrev ofRuns : Store → After
  ofRuns t = carry_step t.floats t.words gs us

  pub not_carried : 0 < carry_row m gs us → ofRuns s ≡ after (refused_by (carry_row m gs us)) gs us
  not_carried n = ap ofRuns h.runs ∙ refuses m.mesh m.places h.valid (past m xs) ys gs us n

  pub carried_reply : carry_row m gs us ≡ 0 → (ofRuns s).reply ≡ counted (m.mesh.verts ∷ m.mesh.faces ∷ [])
  carried_reply n =
      ap (λ (a : After). a.reply)
      (ap ofRuns h.runs ∙ carries m.mesh m.places h.valid (past m xs) ys gs us n)

  pub carried_holds : carry_row m gs us ≡ 0
      → Holds width (carried_over m) (leaving (ofRuns s)) (excess_f m.mesh.coords gs)
      (excess_w width m.mesh.corners us)
  carried_holds n =
      record {
        runs = ap leaving (ap ofRuns h.runs ∙ carries m.mesh m.places h.valid (past m xs) ys gs us n);
        valid = carried-valid m.mesh m.places h.valid;
      }
