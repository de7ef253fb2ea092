-- The pieces worked afresh are those that the call on a list of kernels writes. Assumes nothing.
use mathlib.Core.Path.{◌≡◌, refl, sym, ap, ◌∙◌}
use mathlib.Core.List.{List, [], ◌∷◌, ◌++◌, map-append, append_assoc, append-nil}
use Prim.Native.Nat.{ℕ, zero, suc, ◌+◌, ◌*◌, ◌≤◌, ◌<◌}
use native.Mathlib.Nat.{zero-add}
use native.Mathlib.Omega.{arith}
use lib.ListN.{length, get_or, take, length-append}
use lib.Seq.{take-suc, take_all}
use lib.Ieee.{Float, nan}
use borrow.Author.Tests.{le-leb}
use Rattle.base.specs.Floats.{+0, greater}
use Rattle.base.specs.Loops.{times}
use Rattle.base.specs.LoopLaws.{times-suc}
use Rattle.base.specs.Answers.{outcome}
use Rattle.layout.specs.Runs.{write}
use Rattle.layout.specs.RunLaws.{length-write, write-more, write-none}
use Rattle.kernel.specs.declared.kernel.Kernel.{Kernel}
use Rattle.kernel.specs.Kernels.{kernel_at, kernel_set}
use Rattle.pieces.specs.declared.pieces.Pieces.{Pieces}
use Rattle.pieces.specs.Pieces.{decomposed}
use Rattle.pieces.specs.PieceLaws.{same_pieces}
use Rattle.pieces.specs.Kernels.{piece_at, lay_at, laid}
use Rattle.pieces.specs.Lists.{piece_count, greatest_error, spread, fitted_all, list_decomposition}
use Rattle.readings.specs.Readings.{no_kernel, six, sixes}
use Rattle.readings.specs.Lists.{set6_write}
use Rattle.readings.specs.SixLaws.{as_six, sixes-length, at_six, list_sound, count_of}
use Rattle.machine.specs.Fresh.{Worked, pieces_to, pieces_of, all_pieces, worst_from}
use Rattle.machine.specs.Demands.{decomposed_all, Decomposed}

-- one kernel more, behind
every_snoc : (xs : List Worked) (a : Worked) → all_pieces (xs ++ (a ∷ [])) ≡ all_pieces xs ++ pieces_of a
every_snoc [] a = append-nil (pieces_of a)
every_snoc (x ∷ xs) a =
    ap (λ (l : List Kernel). pieces_of x ++ l) (every_snoc xs a)
    ∙ sym (append_assoc (pieces_of x) (all_pieces xs) (pieces_of a))

pub worst_append : (e : Float) (a b : List Worked) → worst_from e (a ++ b) ≡ worst_from (worst_from e a) b
worst_append e [] b = refl
worst_append e (x ∷ a) b = worst_append (greater e x.fit.error) a b

sixes_append : (a b : List Kernel) → sixes (a ++ b) ≡ sixes a ++ sixes b
sixes_append [] b = refl
sixes_append (k ∷ a) b =
    ap (λ (l : List Float). six k ++ l) (sixes_append a b) ∙ sym (append_assoc (six k) (sixes a) (sixes b))

pub pieces_length : (k : Kernel) (fit : Pieces) (n : ℕ) → length (pieces_to k fit n) ≡ n
pieces_length k fit zero = refl
pieces_length k fit (suc n) =
    length-append (pieces_to k fit n) (piece_at k fit n ∷ []) ∙ omega (arith, pieces_length k fit n)

-- ---- a kernel written is six floats written
set-write : (xs : List Float) (i : ℕ) (k : Kernel) → 6 * i + 6 ≤ length xs → kernel_set xs i k ≡ write xs (6 * i) (six k)
unfolding kernel_set
set-write xs i k h =
    set6_write xs (6 * i) (get_or k.c 0 nan) (get_or k.c 1 nan) (get_or k.c 2 nan) k.sigma k.w k.alpha h

module _ (n : ℕ) (k : Kernel) (fit : Pieces) (xs : List Float) where
  lay-to : (j : ℕ) → 6 * (n + j) ≤ length xs
      → times (lay_at n k fit) j 0 xs ≡ write xs (6 * n) (sixes (pieces_to k fit j))
  unfolding times
  lay-to zero h = sym (write-none xs (6 * n))
  lay-to (suc j) h =
      let s = sixes (pieces_to k fit j) in
      let l : length s ≡ 6 * j = sixes-length (pieces_to k fit j) ∙ ap (λ (t : ℕ). 6 * t) (pieces_length k fit j) in
      let w = length-write xs (6 * n) s (omega arith) in
      let e : 6 * (n + j) ≡ 6 * n + length s = omega arith in
      times-suc (lay_at n k fit) j 0 xs
      ∙ (ap (λ (i : ℕ). lay_at n k fit i (times (lay_at n k fit) j 0 xs)) (zero-add j)
      ∙ (ap (lay_at n k fit j) (lay-to j (omega arith))
      ∙ (set-write (write xs (6 * n) s) (n + j) (piece_at k fit j) (omega arith)
      ∙ (ap (λ (i : ℕ). write (write xs (6 * n) s) i (six (piece_at k fit j))) e
      ∙ (write-more xs (6 * n) s (six (piece_at k fit j)) (omega arith)
      ∙ ap (write xs (6 * n)) (sym (sixes_append (pieces_to k fit j) (piece_at k fit j ∷ []))))))))

-- ---- a list of kernels as six floats each
same_fit : (k : Kernel) (r : Float) → decomposed (as_six k) r ≡ decomposed k r
same_fit k r =
    same_pieces (get_or k.c 0 nan ∷ get_or k.c 1 nan ∷ get_or k.c 2 nan ∷ []) k.c k.sigma k.w k.w
    k.alpha r

same-sixes : (k : Kernel) (fit : Pieces) (n : ℕ) → sixes (pieces_to (as_six k) fit n) ≡ sixes (pieces_to k fit n)
unfolding piece_at
same-sixes k fit zero = refl
same-sixes k fit (suc n) =
    sixes_append (pieces_to (as_six k) fit n) (piece_at (as_six k) fit n ∷ [])
    ∙
    (ap (λ (l : List Float). l ++ six (piece_at k fit n)) (same-sixes k fit n)
    ∙ sym (sixes_append (pieces_to k fit n) (piece_at k fit n ∷ [])))

module _ (ks : List Kernel) (r : Float) where
  abbrev L : List Float
  L = sixes ks

  fit_at : (n : ℕ) → n < length ks → decomposed (kernel_at L n) r ≡ decomposed (get_or ks n no_kernel) r
  fit_at n h = ap (λ (k : Kernel). decomposed k r) (at_six ks n h) ∙ same_fit (get_or ks n no_kernel) r

  -- the kernel at n, and all below it
  abbrev one : ℕ → Worked
  one n = let k = get_or ks n no_kernel in record { kernel = k; fit = decomposed k r }

  abbrev first : ℕ → List Worked
  first n = decomposed_all r (take n ks)

  first_more : (n : ℕ) → n < length ks → first (suc n) ≡ first n ++ (one n ∷ [])
  first_more n h =
      ap (decomposed_all r) (take-suc ks n no_kernel h)
      ∙ map-append (λ k. record { kernel = k; fit = decomposed k r }) (take n ks) (get_or ks n no_kernel ∷ [])

  every_more : (n : ℕ) → n < length ks → all_pieces (first (suc n)) ≡ all_pieces (first n) ++ pieces_of (one n)
  every_more n h = ap all_pieces (first_more n h) ∙ every_snoc (first n) (one n)

  length_more : (n : ℕ) → n < length ks
      → length (all_pieces (first (suc n))) ≡ length (all_pieces (first n)) + (one n).fit.count
  length_more n h =
      ap length (every_more n h)
      ∙ (length-append (all_pieces (first n)) (pieces_of (one n))
      ∙ ap (λ (c : ℕ). length (all_pieces (first n)) + c)
      (pieces_length (one n).kernel (one n).fit (one n).fit.count))

  count-to : (n : ℕ) → n ≤ length ks → piece_count L r n ≡ length (all_pieces (first n))
  unfolding piece_count
  count-to zero h = refl
  count-to (suc n) h = rw (count-to n (omega arith), fit_at n h) (sym (length_more n h))

  error-to : (n : ℕ) → n ≤ length ks → greatest_error L r n ≡ worst_from +0 (first n)
  unfolding greatest_error
  error-to zero h = refl
  error-to (suc n) h =
      rw (error-to n (omega arith), fit_at n h, first_more n h) (sym (worst_append +0 (first n) (one n ∷ [])))

  spread-to : (xs : List Float) (n : ℕ) → n ≤ length ks → 6 * length (all_pieces (first n)) ≤ length xs
      → spread L r n xs ≡ write xs 0 (sixes (all_pieces (first n)))
  unfolding spread laid
  spread-to xs zero h room = sym (write-none xs 0)
  spread-to xs (suc n) h room =
      let k = get_or ks n no_kernel in
      let fit = decomposed k r in
      let done = all_pieces (first n) in
      let more = length_more n h in
      let l = sixes-length done in
      let ys = write xs 0 (sixes done) in
      let w = length-write xs 0 (sixes done) (omega arith) in
      let e : 6 * length done ≡ 0 + length (sixes done) = omega arith in
      rw (count-to n (omega arith), fit_at n h, at_six ks n h, spread-to xs n (omega arith) (omega arith))
      (lay-to (length done) (as_six k) fit ys fit.count (omega arith)
      ∙ (ap (write ys (6 * length done)) (same-sixes k fit fit.count)
      ∙ (ap (λ (i : ℕ). write ys i (sixes (pieces_of (one n)))) e
      ∙ (write-more xs 0 (sixes done) (sixes (pieces_of (one n))) (omega arith)
      ∙ ap (write xs 0) (sym (sixes_append done (pieces_of (one n))) ∙ ap sixes (sym (every_more n h)))))))

  abbrev every : List Worked
  every = decomposed_all r ks

  all_listed : (xs : List Float) → 6 * length (all_pieces every) ≤ length xs
      → list_decomposition L r xs
      ≡ outcome (fitted_all (length ks) (length (all_pieces every)) (worst_from +0 every))
      (write xs 0 (sixes (all_pieces every)))
  unfolding list_decomposition
  all_listed xs room =
      let n = length ks in
      let t : take n ks ≡ ks = take_all n ks (omega arith) in
      let c : piece_count L r n ≡ length (all_pieces every)
      = count-to n (omega arith) ∙ ap (λ (l : List Kernel). length (all_pieces (decomposed_all r l))) t in
      let e : greatest_error L r n ≡ worst_from +0 every
      = error-to n (omega arith) ∙ ap (λ (l : List Kernel). worst_from +0 (decomposed_all r l)) t in
      let s : spread L r n xs ≡ write xs 0 (sixes (all_pieces every))
      = spread-to xs n (omega arith) (rw t room)
      ∙ ap (λ (l : List Kernel). write xs 0 (sixes (all_pieces (decomposed_all r l)))) t in
      rw (list_sound ks, count_of ks, c, e, s, le-leb (6 * length (all_pieces every)) (length xs) room) refl

pub listed : (r : Float) (ks : List Kernel) → Decomposed r ks
listed r ks = record { listed = all_listed ks r }
