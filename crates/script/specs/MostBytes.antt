-- The most bytes that the lines of a sound store take, by its counts of vertices and faces alone. Assumes nothing.
use Rattle.std.specs.Prelude.{◌≡◌, refl, Bool, cond, ltb, eqb, Float, get_or}
use Rattle.std.proofs.Math.Bool.{true, false}
use mathlib.Core.List.{List, []}
use Prim.Native.Nat.{ℕ, zero, suc, ◌+◌, ◌-◌, ◌*◌, ◌/◌, ◌<◌, ◌≤◌}
use Rattle.std.proofs.Common.{mul-suc, lt-ltb, le-ltb}
use Rattle.std.proofs.Math.Decide.{dec_lt}
use native.Mathlib.Omega.{arith}
use Rattle.std.proofs.Math.ListN.{length, length-append}
use Rattle.layout.specs.Layout.{place_limit, layer_limit, corners_from, verts_of, faces_of, status_of, layer_of}
use Rattle.layout.specs.SoundLaws.{Fine}
use Rattle.text.specs.Print.{length_from_lem, decimal_length}
use Rattle.text.specs.LengthLaws.{digits-under, one-digit}
use Rattle.text.specs.Form.{Form, Vals, print}
use Rattle.script.specs.Lines.{face_line, put_line}
use Rattle.script.specs.Written.{printed_lines, face_at, put_at, face_rows, put_row, put_rows, written}
use Rattle.script.specs.LineLaws.{face_bytes, put_bytes, lines_bytes}

-- An opening has 51 bytes and the digits of its counts, a vertex 58. A face has 10 and its corners, of which none has
-- more digits than the last vertex. A put has 142, the digits of its place, 54 for all 32, and at most two of its
-- layer. The hosts lend so many bytes (CAUCHY_LINES_BYTES of host/include/cauchy.h).
abbrev pub most_bytes : ℕ → ℕ → ℕ
most_bytes v f =
    51 + decimal_length v + decimal_length f + 58 * v + (10 + 3 * decimal_length (v - 1)) * f + (142 * 32 + 54 + 2 * 32)

-- ---- a greater number has no fewer digits

length_rises : (f a b : ℕ) → a ≤ b → length_from_lem f a ≤ length_from_lem f b
unfolding length_from_lem
length_rises zero a b h = omega arith
length_rises (suc f) a b h = go (dec_lt a 10) (dec_lt b 10) (length_rises f (a / 10) (b / 10) (omega arith))
  where
    go : Dec (a < 10) → Dec (b < 10) → length_from_lem f (a / 10) ≤ length_from_lem f (b / 10)
        → cond (ltb a 10) 1 (suc (length_from_lem f (a / 10))) ≤ cond (ltb b 10) 1 (suc (length_from_lem f (b / 10)))
    go (yes x) (yes y) i = rw (lt-ltb a 10 x, lt-ltb b 10 y) (omega arith)
    go (yes x) (no y) i = rw (lt-ltb a 10 x, le-ltb b 10 (omega arith)) (omega arith)
    go (no x) (yes y) i = absurd (omega arith)
    go (no x) (no y) i = rw (le-ltb a 10 (omega arith), le-ltb b 10 (omega arith)) (omega arith)

digits_rise : (a b : ℕ) → a ≤ b → decimal_length a ≤ decimal_length b
unfolding decimal_length
digits_rise a b h = length_rises 19 a b h

-- ---- lines of which each has k bytes at most

printed-most : (g : Form) (v : ℕ → Vals g) (k n i : ℕ)
    → ((j : ℕ) → j < i + n → length (print g (v j)) ≤ k) → length (printed_lines g v n i) ≤ k * n
printed-most g v k zero i h = omega arith
printed-most g v k (suc n) i h =
    let e = length-append (print g (v i)) (printed_lines g v n (suc i)) in
    let l = h i (omega arith) in
    let m = printed-most g v k n (suc i) (λ j a. h j (omega arith)) in
    rw mul-suc (omega (arith, e, l, m))

module _ (q : ℕ) (ws : List ℕ) (v f : ℕ) (below : (j : ℕ) → j < 3 * f → get_or ws (corners_from q + j) 0 < v) where
  corner : (j k : ℕ) → j < 3 * f → k ≡ corners_from q + j → decimal_length (get_or ws k 0) ≤ decimal_length (v - 1)
  corner j k h e = let b = below j h in rw e (digits_rise (get_or ws (corners_from q + j) 0) (v - 1) (omega arith))

  face-most : (j : ℕ) → j < f → length (print face_line (face_at q ws j)) ≤ 10 + 3 * decimal_length (v - 1)
  face-most j h =
      let k = corners_from q + 3 * j in
      omega (
        arith,
        face_bytes (get_or ws k 0) (get_or ws (k + 1) 0) (get_or ws (k + 2) 0),
        corner (3 * j) k (omega arith) refl,
        corner (3 * j + 1) (k + 1) (omega arith) (omega arith),
        corner (3 * j + 2) (k + 2) (omega arith) (omega arith),
      )

  faces-most : length (face_rows q ws f 0) ≤ (10 + 3 * decimal_length (v - 1)) * f
  unfolding face_rows
  faces-most =
      printed-most face_line (face_at q ws) (10 + 3 * decimal_length (v - 1)) f 0 (λ j h. face-most j (omega arith))

module _ (q : ℕ) (fs : List Float) (ws : List ℕ) (layer : (i : ℕ) → i < place_limit → layer_of q ws i < layer_limit) where
  row-most : (i : ℕ) → i < place_limit → length (put_row q fs ws i) ≤ 144 + decimal_length i
  unfolding put_row
  row-most i h = go (eqb (status_of q ws i) 0)
    where
      go : (b : Bool) → length (cond b [] (print put_line (put_at q fs ws i))) ≤ 144 + decimal_length i
      go true = omega arith
      go false =
          let l = layer i h in
          let d = digits-under 1 (layer_of q ws i) (omega arith) in
          omega (arith, put_bytes fs i (layer_of q ws i), d)

  -- the places below 10 have a digit less than the others
  puts-most : (n i : ℕ) → 10 ≤ i + n → i + n ≤ place_limit → length (put_rows q fs ws n i) + (10 - i) ≤ 146 * n
  unfolding put_rows
  puts-most zero i a b = omega arith
  puts-most (suc n) i a b =
      let e = length-append (put_row q fs ws i) (put_rows q fs ws n (suc i)) in
      let r = row-most i (omega arith) in
      let m = puts-most n (suc i) (omega arith) (omega arith) in
      let d = digits-under 1 i (omega arith) in
      go (dec_lt i 10) e r m d
    where
      go : Dec (i < 10)
          → length (put_rows q fs ws (suc n) i) ≡ length (put_row q fs ws i) + length (put_rows q fs ws n (suc i))
          → length (put_row q fs ws i) ≤ 144 + decimal_length i
          → length (put_rows q fs ws n (suc i)) + (10 - suc i) ≤ 146 * n → decimal_length i ≤ 2
          → length (put_rows q fs ws (suc n) i) + (10 - i) ≤ 146 * suc n
      go (yes x) e r m d = let o = one-digit i x in omega (arith, e, r, m, o)
      go (no x) e r m d = omega (arith, e, r, m, d)

-- ---- all lines

pub lines_most : (q : ℕ) (fs : List Float) (ws : List ℕ) → Fine q fs ws
    → length (written q fs ws) ≤ most_bytes (verts_of ws) (faces_of ws)
lines_most q fs ws w =
    omega (
      arith,
      lines_bytes q fs ws (verts_of ws) (faces_of ws),
      faces-most q ws (verts_of ws) (faces_of ws) w.mesh.corners,
      puts-most q fs ws w.places.layer place_limit 0 (omega arith) (omega arith),
    )
