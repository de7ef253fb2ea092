-- 02, L10: the lines of a store that holds a machine are the machine's. Assumes nothing.
use mathlib.Core.Path.{◌≡◌, refl, sym, ap, ◌∙◌}
use mathlib.Core.List.{List, [], ◌∷◌, ◌++◌}
use mathlib.Core.Bool.{Bool, true, false, cond}
use Prim.Native.Nat.{ℕ, zero, suc, ◌+◌, ◌*◌, ◌≤◌, ◌<◌}
use native.Mathlib.Nat.{zero-add, add-zero}
use native.Mathlib.Omega.{arith}
use lib.Dec.{eqb}
use lib.ListN.{length, get_or, take, drop}
use lib.Ieee.{Float, nan}
use borrow.Author.Tests.{ne_eqb}
use Rattle.kernel.specs.declared.kernel.Kernel.{Kernel}
use Rattle.pieces.specs.declared.pieces.Pieces.{Pieces}
use Rattle.layout.specs.Layout.{place_limit, kernel_from, coords_from, corners_from, verts_of, faces_of, status_of, layer_of}
use Rattle.text.specs.Form.{Vals, print, ◌&◌}
use Rattle.script.specs.Lines.{open_line, vert_line, face_line, put_line}
use Rattle.script.specs.Written.{printed_lines, vert_at, face_at, put_at, vert_rows, face_rows, put_row, put_rows, lines_of, written, text_answer, write_step}
use Rattle.reader.specs.RoundTrip.{puts_from, three-more}
use Rattle.machine.specs.Machine.{Mesh, Provenance, Place, empty, full}
use Rattle.machine.specs.Holding.{floats7, place_row, words_of}
use Rattle.machine.specs.Lines.{vert_lines, face_lines, put_values, puts_of_lem, put_lines, machine_lines}
use Rattle.machine.specs.Valid.{Valid}
use Rattle.machine.proofs.Rows.{Width, Layered, layered4, formed}
use Rattle.machine.proofs.Sixteen.{laid_out_lem}
use Rattle.machine.proofs.Held.{radius-held, verts_held, faces_held, get7, status_held, layer_held, coords_held, corners_held, words_long, floats_long}
use Rattle.machine.proofs.Sane.{no_fault}

-- ---- a line to three words
verts_are : (fs : List Float) (n i : ℕ) → coords_from + 3 * (i + n) ≤ length fs
    → printed_lines vert_line (vert_at fs) n i ≡ vert_lines (take (3 * n) (drop (coords_from + 3 * i) fs))
verts_are fs zero i h = refl
verts_are fs (suc n) i h =
    let k : coords_from + 3 * suc i ≡ coords_from + 3 * i + 3 = omega arith in
    ap (λ (l : List ℕ). print vert_line (vert_at fs i) ++ l)
    (verts_are fs n (suc i) (omega arith) ∙ ap (λ (j : ℕ). vert_lines (take (3 * n) (drop j fs))) k)
    ∙ sym (ap vert_lines (three-more nan fs n (coords_from + 3 * i) (omega arith)))

faces_are : (q : ℕ) (ws : List ℕ) (n i : ℕ) → corners_from q + 3 * (i + n) ≤ length ws
    → printed_lines face_line (face_at q ws) n i ≡ face_lines (take (3 * n) (drop (corners_from q + 3 * i) ws))
faces_are q ws zero i h = refl
faces_are q ws (suc n) i h =
    let k : corners_from q + 3 * suc i ≡ corners_from q + 3 * i + 3 = omega arith in
    ap (λ (l : List ℕ). print face_line (face_at q ws i) ++ l)
    (faces_are q ws n (suc i) (omega arith) ∙ ap (λ (j : ℕ). face_lines (take (3 * n) (drop j ws))) k)
    ∙ sym (ap face_lines (three-more 0 ws n (corners_from q + 3 * i) (omega arith)))

-- ---- a line to a filled place
puts_printed : (q : ℕ) (fs : List Float) (ws : List ℕ) (n i : ℕ) → put_rows q fs ws n i ≡ put_lines (puts_from q fs ws n i)
unfolding put_row put_rows
puts_printed q fs ws zero i = refl
puts_printed q fs ws (suc n) i = rw (puts_printed q fs ws n (suc i)) (go (eqb (status_of q ws i) 0))
  where
    rest : List (Vals put_line)
    rest = puts_from q fs ws n (suc i)

    go : (b : Bool) → cond b [] (print put_line (put_at q fs ws i)) ++ put_lines rest
        ≡ put_lines (cond b rest (put_at q fs ws i ∷ rest))
    go true = refl
    go false = refl

module _ (wd : ℕ) (ly : Layered wd) (m : Mesh) (ss : List Place) (v : Valid m ss) (xs : List Float) (ys : List ℕ) where
  abbrev FS : List Float
  FS = laid_out_lem m ss xs

  abbrev WS : List ℕ
  WS = words_of wd m ss ys

  fm : Width wd
  fm = formed ly

  -- ---- place i, filled
  module _
      (i : ℕ) (h : i < 32) (k : Kernel) (fit : Pieces) (o : Provenance) (p l : ℕ)
      (e : get_or ss i empty ≡ full k fit o p l) where
    float_at : (n j : ℕ) → n ≡ 1 + (7 * i + j) → j < 7 → get_or FS n nan ≡ get_or (floats7 (full k fit o p l)) j nan
    float_at n j z g =
        rw z (get7 wd fm m ss v.places xs i h j g ∙ ap (λ (s : Place). get_or (floats7 s) j nan) e)

    layer-at : layer_of wd WS i ≡ l
    layer-at =
        layer_held wd fm m ss v.places ys i h
        ∙ (ap (λ (s : Place). get_or (place_row wd m s) 3 0) e ∙ go ly)
      where
        go : {w : ℕ} → Layered w → get_or (place_row w m (full k fit o p l)) 3 0 ≡ l
        go layered4 = refl

    put_is : put_at wd FS WS i ≡ put_values i k l
    put_is =
        rw (
          float_at (kernel_from i + 1) 1 (omega arith) (omega arith),
          float_at (kernel_from i + 2) 2 (omega arith) (omega arith),
          float_at (kernel_from i + 3) 3 (omega arith) (omega arith),
          float_at (kernel_from i + 4) 4 (omega arith) (omega arith),
          float_at (kernel_from i + 5) 5 (omega arith) (omega arith),
          float_at (kernel_from i) 0 (omega arith) (omega arith),
          layer-at,
        ) refl

  -- place i, and the places ts behind it
  one-put : (s : Place) (ts : List Place) (i : ℕ) → i < 32 → get_or ss i empty ≡ s
      → puts_from wd FS WS (length ts) (suc i) ≡ puts_of_lem (suc i) ts
      → puts_from wd FS WS (suc (length ts)) i ≡ puts_of_lem i (s ∷ ts)
  one-put empty ts i h e rest = rw (status_held wd fm m ss v.places ys i h, e) rest
  one-put (full k fit o p l) ts i h e rest =
      rw (
        status_held wd fm m ss v.places ys i h,
        e,
        ne_eqb (1 + fit.count) 0 (λ z. omega arith),
        put_is i h k fit o p l e,
        rest,
      ) refl

  -- the places ts, which stand from i on
  puts_of : (ts : List Place) (i : ℕ) → i + length ts ≡ 32
      → ((j : ℕ) → j < length ts → get_or ss (i + j) empty ≡ get_or ts j empty)
      → puts_from wd FS WS (length ts) i ≡ puts_of_lem i ts
  puts_of [] i n h = refl
  puts_of (t ∷ ts) i n h =
      one-put t ts i (omega arith) (ap (λ (j : ℕ). get_or ss j empty) (sym (add-zero i)) ∙ h 0 (omega arith))
      (puts_of ts (suc i) (omega arith)
      (λ j g. let z : suc i + j ≡ i + suc j = omega arith in rw z (h (suc j) (omega arith))))

  pub puts_held : puts_from wd FS WS place_limit 0 ≡ puts_of_lem 0 ss
  puts_held =
      ap (λ (n : ℕ). puts_from wd FS WS n 0) (sym v.places)
      ∙ puts_of ss 0 (omega (arith, v.places)) (λ j h. rw (zero-add j) refl)

  -- ---- the whole
  verts-written : vert_rows FS (verts_of WS) 0 ≡ vert_lines m.coords
  unfolding vert_rows
  verts-written =
      ap (λ (n : ℕ). printed_lines vert_line (vert_at FS) n 0) (verts_held wd m ss ys)
      ∙ (verts_are FS m.verts 0 (omega (arith, floats_long wd fm m ss v.places xs v.mesh.coords))
      ∙ ap vert_lines (coords_held wd fm m ss v.places xs v.mesh.coords))

  faces-written : face_rows wd WS (faces_of WS) 0 ≡ face_lines m.corners
  unfolding face_rows
  faces-written =
      let n : corners_from wd + 3 * (0 + m.faces) ≤ length WS
      = omega (arith, words_long wd fm m ss v.places ys v.mesh.corners) in
      ap (λ (n : ℕ). printed_lines face_line (face_at wd WS) n 0) (faces_held wd m ss ys)
      ∙ (faces_are wd WS m.faces 0 n
      ∙ (ap (λ (j : ℕ). face_lines (take (3 * m.faces) (drop j WS))) (add-zero (corners_from wd))
      ∙ ap face_lines (corners_held wd fm m ss v.places ys v.mesh.corners)))

  pub written_held : written wd FS WS ≡ machine_lines m ss
  unfolding lines_of machine_lines
  written_held =
      let p = puts_printed wd FS WS place_limit 0 ∙ ap put_lines puts_held in
      λ i.
      print open_line (radius-held m ss xs i & verts_held wd m ss ys i & faces_held wd m ss ys i & tt)
      ++ (verts-written i ++ (faces-written i ++ p i))

  pub lines_held : (bs : List ℕ) → write_step wd FS WS bs ≡ text_answer (machine_lines m ss) bs
  unfolding write_step
  lines_held bs = rw (no_fault wd fm m ss v xs ys) (ap (λ (t : List ℕ). text_answer t bs) written_held)
