-- The pieces of a list, kernel by kernel, and the room that they take. Assumes nothing.
use mathlib.Core.Path.{◌≡◌, refl, sym, ◌∙◌}
use mathlib.Core.Bool.{Bool, true, false}
use mathlib.Core.List.{List}
use Prim.Native.Nat.{ℕ, zero, suc, ◌+◌, ◌*◌, ◌-◌, ◌/◌, ◌≤◌, ◌<◌}
use native.Mathlib.Nat.{add-zero, add-suc}
use native.Mathlib.Numerals.{add-one}
use native.Mathlib.Omega.{arith}
use borrow.Author.Tests.{le-leb, lt-leb, leb-true}
use lib.Dec.{leb}
use lib.ListN.{length}
use lib.Ieee.{Float}
use Rattle.base.specs.Loops.{times}
use Rattle.kernel.specs.declared.kernel.Kernel.{Kernel}
use Rattle.kernel.specs.Kernels.{kernel_at}
use Rattle.kernel.specs.KernelLaws.{kernel_set-length}
use Rattle.pieces.specs.declared.pieces.Pieces.{Pieces}
use Rattle.pieces.specs.Pieces.{decomposed}
use Rattle.pieces.specs.PieceLaws.{at_most_16}
use Rattle.pieces.specs.Kernels.{lay_at, laid}
use Rattle.pieces.specs.Lists.{piece_count}

-- pieces that are written leave the run as long as it was
pub laid-length : (n : ℕ) (k : Kernel) (p : Pieces) (xs : List Float) → length (laid n k p xs) ≡ length xs
unfolding laid times
laid-length n k p xs = go p.count 0 xs
  where
    go : (m i : ℕ) (ys : List Float) → length (times (lay_at n k p) m i ys) ≡ length ys
    go zero i ys = refl
    go (suc m) i ys = go m (suc i) _ ∙ kernel_set-length ys (n + i) _

module _ (ks : List Float) (radius : Float) where
  -- ---- how many
  count_next : (i : ℕ) {k : Kernel} {p : Pieces} → k ≡ kernel_at ks i → p ≡ decomposed k radius
      → piece_count ks radius (i + 1) ≡ piece_count ks radius i + p.count
  unfolding piece_count
  count_next i h g = rw (add-one i, g, h) refl

  count-more : (i j : ℕ) → piece_count ks radius i ≤ piece_count ks radius (i + j)
  unfolding piece_count
  count-more i zero = rw add-zero (omega arith)
  count-more i (suc j) = rw add-suc (omega (arith, count-more i j))

  -- the pieces of a kernel of the first n are among theirs
  pub next_within : (i n : ℕ) {k : Kernel} {p : Pieces} → i < n → k ≡ kernel_at ks i → p ≡ decomposed k radius
      → piece_count ks radius i + p.count ≤ piece_count ks radius n
  next_within i n l h g =
      let e : i + 1 + (n - (i + 1)) ≡ n = omega arith in
      rw (count_next i h g, e) at (count-more (i + 1) (n - (i + 1)))

  -- "a kernel has at most 16 pieces"
  count_most : (n : ℕ) → piece_count ks radius n ≤ 16 * n
  unfolding piece_count
  count_most zero = omega arith
  count_most (suc n) = omega (arith, count_most n, at_most_16 (kernel_at ks n) radius)

  -- ---- whether there is room for them, `left` behind the first i kernels
  pub room_for_16 : (n room : ℕ) → n ≤ room / 16 → true ≡ leb (piece_count ks radius n) room
  room_for_16 n room h = sym (le-leb (piece_count ks radius n) room (omega (arith, count_most n)))

  pub room_next : (i : ℕ) {left room : ℕ} {k : Kernel} {p : Pieces} → left + piece_count ks radius i ≡ room
      → k ≡ kernel_at ks i → p ≡ decomposed k radius
      → p.count ≤ left → left - p.count + piece_count ks radius (i + 1) ≡ room
  room_next i r h g l = omega (arith, count_next i h g)

  pub no_room : (i n : ℕ) {left room : ℕ} {k : Kernel} {p : Pieces} → left + piece_count ks radius i ≡ room → i < n
      → k ≡ kernel_at ks i → p ≡ decomposed k radius
      → left < p.count → false ≡ leb (piece_count ks radius n) room
  no_room i n {room = room} r l h g o =
      sym (lt-leb (piece_count ks radius n) room (omega (arith, next_within i n l h g)))

  -- ---- what `has_room` tells
  pub room_of : (n size : ℕ) {b : Bool} → b ≡ leb (piece_count ks radius n) (size / 6) → b ≡ true
      → 6 * piece_count ks radius n ≤ size
  room_of n size h t = omega (arith, leb-true (piece_count ks radius n) (size / 6) (sym h ∙ t))
