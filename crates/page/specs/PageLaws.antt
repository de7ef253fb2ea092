-- The page's lines: how long they are, and how they follow one another. Assumes nothing.
use Rattle.std.specs.Prelude.{◌≡◌, Bool, false, ◌&&◌, cond, List, [], ◌∷◌, ◌++◌, T, ltb, eqb, ℤ, pos, negsuc, neg_ℤ, nat_abs, ◌+ℤ◌, ◌-ℤ◌, Float}
use Rattle.std.proofs.Math.Path.{refl, sym, ap}
use Rattle.std.proofs.Common.{subst, ◌∙◌, append_assoc, add-one}
use Rattle.std.proofs.Math.Bool.{true, and-eq-true_iff}
use Prim.Native.Nat.{ℕ, zero, suc, ◌+◌, ◌-◌, ◌*◌, ◌≤◌, ◌<◌}
use native.Mathlib.Omega.{arith}
use Rattle.std.proofs.Math.Decide.{dec_lt}
use borrow.Author.Tests.{lt-ltb, le-ltb}
use Rattle.std.proofs.Math.IntN.{+ℤ_assoc, +ℤ_comm, +ℤ_idl, neg_ℤ-+ℤ, pos-+ℤ-pos}
use Rattle.std.proofs.Math.ListN.{length, length-append}
use Rattle.std.proofs.lemmas.List.{length-replicate}
use Rattle.base.specs.Answers.{refused, printout, passed}
use Rattle.base.specs.declared.refusal.Refusal.TheVariants.{NoFigure}
use Rattle.layout.specs.Layout.{place_limit, piece_limit, status_of}
use Rattle.layout.specs.Soundness.{store_check}
use Rattle.layout.specs.SoundLaws.{passed-both}
use Rattle.readings.specs.Readings.{raw_mass_lem, held_at, held_filled}
use Rattle.text.specs.Print.{decimal_text}
use Rattle.text.specs.LengthLaws.{decimal-length, digits-under}
use Rattle.whole.specs.Whole.{printable}
use Rattle.whole.specs.WholeLaws.{rounded-most}
use Rattle.page.specs.Page.{spaces, right, whole_text, ending, place_line, total_line, Row, row, figure, lines_of, total_of, page_of, all_printable, page_answer, row_at, held_rows, done_check}

-- ---- lengths of texts
pub right-length : (n : ℕ) (t : List ℕ) → length t ≤ n → length (right n t) ≡ n
right-length n t h =
    length-append (spaces (n - length t)) t ∙ (let e = length-replicate {A = ℕ} (n - length t) 32 in omega arith)

pub whole_length : (v : ℤ) → nat_abs v < 100000000000000000 → length (whole_text v) ≤ 20
whole_length (pos n) h = rw (decimal-length n) (let d = digits-under 16 n h in omega arith)
whole_length (negsuc n) h = let d = digits-under 16 (suc n) h in let e = decimal-length (suc n) in omega arith

pub ending-length : (v : ℤ) → nat_abs v < 100000000000000000 → length (ending v) ≡ 60
unfolding ending
ending-length v h =
    let a = right-length 20 (whole_text v) (whole_length v h) in
    let b = length-append (right 20 (whole_text v)) (10 ∷ []) in
    length-append (spaces 39) (right 20 (whole_text v) ++ (10 ∷ [])) ∙ omega arith

pub two-columns : (n : ℕ) → n < 100 → length (right 2 (decimal_text n)) ≡ 2
two-columns n h = right-length 2 (decimal_text n) (rw (decimal-length n) (digits-under 1 n h))

-- ---- rows that a page has
pub record Fair (r : Row) : Type 0 where
  pub place : r.place < 100
  pub pieces : r.pieces < 100
  pub mass : printable r.mass ≡ true

abbrev pub AllFair : List Row → Type 0
AllFair [] = Unit {0}
AllFair (r ∷ rs) = Fair r × AllFair rs

pub figure-small : (r : Row) → Fair r → nat_abs (figure r) ≤ 1000000000000000
figure-small r g = rounded-most r.mass (subst T (sym g.mass) tt)

pub line_length : (i n : ℕ) (v : ℤ) → i < 100 → n < 100 → nat_abs v < 100000000000000000 → length (place_line i n v) ≡ 65
unfolding place_line
line_length i n v hi hn hv =
    let p = right 2 (decimal_text n) in
    let a = two-columns i hi in
    let b = two-columns n hn in
    let c = ending-length v hv in
    let d = length-append p (ending v) in
    length-append (right 2 (decimal_text i)) (32 ∷ (p ++ ending v)) ∙ omega arith

row-length : (r : Row) → Fair r → length (place_line r.place r.pieces (figure r)) ≡ 65
row-length r g =
    line_length r.place r.pieces (figure r) g.place g.pieces (let m = figure-small r g in omega arith)

pub lines_length : (rs : List Row) → AllFair rs → length (lines_of rs) ≡ 65 * length rs
lines_length [] g = refl
lines_length (r ∷ rs) g = length-append (place_line r.place r.pieces (figure r)) (lines_of rs)
    ∙ omega (arith, row-length r g.0, lines_length rs g.1)

abs-add : (a b : ℤ) → nat_abs (a +ℤ b) ≤ nat_abs a + nat_abs b
abs-add (pos a) (pos b) = omega arith
abs-add (pos a) (negsuc b) = go (ltb a (suc b)) refl
  where
    go : (t : Bool) → ltb a (suc b) ≡ t → nat_abs (cond t (negsuc (suc b - suc a)) (pos (a - suc b))) ≤ a + suc b
    go true e = omega arith
    go false e = omega arith
abs-add (negsuc a) (pos b) = go (ltb b (suc a)) refl
  where
    go : (t : Bool) → ltb b (suc a) ≡ t → nat_abs (cond t (negsuc (suc a - suc b)) (pos (b - suc a))) ≤ suc a + b
    go true e = omega arith
    go false e = omega arith
abs-add (negsuc a) (negsuc b) = omega arith

pub total_small : (rs : List Row) → AllFair rs → nat_abs (total_of rs) ≤ 1000000000000000 * length rs
total_small [] g = omega arith
total_small (r ∷ rs) g = omega (arith, abs-add (figure r) (total_of rs), figure-small r g.0, total_small rs g.1)

pub total_length : (v : ℤ) → nat_abs v < 100000000000000000 → length (total_line v) ≡ 65
unfolding total_line
total_length v h = length-append (84 ∷ 79 ∷ 84 ∷ 65 ∷ 76 ∷ []) (ending v) ∙ omega (arith, ending-length v h)

pub page_length : (rs : List Row) → AllFair rs → length rs ≤ 32 → length (page_of rs) ≡ 65 * length rs + 65
unfolding page_of
page_length rs g h =
    let t = total_small rs g in
    length-append (lines_of rs) (total_line (total_of rs))
    ∙ omega (arith, lines_length rs g, total_length (total_of rs) (omega arith))

-- ---- rows one after the other
pub lines_append : (rs ss : List Row) → lines_of (rs ++ ss) ≡ lines_of rs ++ lines_of ss
lines_append [] ss = refl
lines_append (r ∷ rs) ss =
    let l = place_line r.place r.pieces (figure r) in
    ap (λ (t : List ℕ). l ++ t) (lines_append rs ss) ∙ sym (append_assoc l (lines_of rs) (lines_of ss))

pub total_append : (rs ss : List Row) → total_of (rs ++ ss) ≡ total_of rs +ℤ total_of ss
total_append [] ss = sym (+ℤ_idl (total_of ss))
total_append (r ∷ rs) ss =
    ap (λ (z : ℤ). figure r +ℤ z) (total_append rs ss) ∙ sym (+ℤ_assoc (figure r) (total_of rs) (total_of ss))

pub printable_append : (rs ss : List Row) → all_printable (rs ++ ss) ≡ all_printable rs && all_printable ss
printable_append [] ss = refl
printable_append (r ∷ rs) ss = rw (printable_append rs ss) (assoc (printable r.mass))
  where
    assoc : (b : Bool) → b && (all_printable rs && all_printable ss) ≡ (b && all_printable rs) && all_printable ss
    assoc true = refl
    assoc false = refl

fair_append : (rs ss : List Row) → AllFair rs → AllFair ss → AllFair (rs ++ ss)
fair_append [] ss g h = h
fair_append (r ∷ rs) ss g h = (g.0, fair_append rs ss g.1 h)

-- as many places are filled as there are at most
pub filled_most : (q : ℕ) (ws : List ℕ) (k : ℕ) → held_filled q ws k ≤ k
unfolding held_filled
filled_most q ws zero = omega arith
filled_most q ws (suc k) = go (eqb (status_of q ws k) 0) (filled_most q ws k)
  where
    go : (b : Bool) → held_filled q ws k ≤ k → held_filled q ws k + cond b 0 1 ≤ suc k
    go true h = omega arith
    go false h = omega arith

module _ (q : ℕ) (fs : List Float) (ws : List ℕ) where
  abbrev at : ℕ → List Row
  at k = row_at fs k (status_of q ws k)

  pub rows_next : (k : ℕ) → held_rows q fs ws (k + 1) ≡ held_rows q fs ws k ++ at k
  unfolding held_rows
  rows_next k = ap (held_rows q fs ws) (add-one k)

  row_count : (k s : ℕ) → length (row_at fs k s) ≡ cond (eqb s 0) 0 1
  row_count k s = go (eqb s 0)
    where
      go : (b : Bool) → length (cond b [] (row k (s - 1) (raw_mass_lem (held_at fs k (s - 1))) ∷ [])) ≡ cond b 0 1
      go true = refl
      go false = refl

  pub rows_count : (k : ℕ) → length (held_rows q fs ws k) ≡ held_filled q ws k
  unfolding held_rows held_filled
  rows_count zero = refl
  rows_count (suc k) =
      length-append (held_rows q fs ws k) (at k) ∙ (λ i. rows_count k i + row_count k (status_of q ws k) i)

  -- all of them can be printed: each can
  pub each_printable : (n k : ℕ) → k < n → all_printable (held_rows q fs ws n) ≡ true → all_printable (at k) ≡ true
  unfolding held_rows
  each_printable zero k h e = absurd (omega arith)
  each_printable (suc n) k h e =
      let z = (and-eq-true_iff (all_printable (held_rows q fs ws n)) (all_printable (at n))).0
      (sym (printable_append (held_rows q fs ws n) (at n)) ∙ e) in
      go z (λ (l : k < n). each_printable n k l z.0) (dec_lt k n)
    where
      go : (all_printable (held_rows q fs ws n) ≡ true) × (all_printable (at n) ≡ true)
          → (k < n → all_printable (at k) ≡ true) → Dec (k < n) → all_printable (at k) ≡ true
      go z ih (yes l) = ih l
      go z ih (no l) = let w : k ≡ n = omega arith in rw w z.1

  row-fair : (k s : ℕ) → k < 32 → s - 1 ≤ 16 → all_printable (row_at fs k s) ≡ true → AllFair (row_at fs k s)
  row-fair k s h p e = go (eqb s 0) e
    where
      m : Float
      m = raw_mass_lem (held_at fs k (s - 1))

      go : (b : Bool) → all_printable (cond b [] (row k (s - 1) m ∷ [])) ≡ true
          → AllFair (cond b [] (row k (s - 1) m ∷ []))
      go true f = tt
      go false f =
          (record { place = omega arith; pieces = omega arith; mass = ((and-eq-true_iff (printable m) true).0 f).0 }, tt)

  -- each place has room for its pieces
  module _ (fit : (i : ℕ) → i < place_limit → status_of q ws i - 1 ≤ piece_limit) where
    pub rows_fair : (n : ℕ) → n ≤ 32 → all_printable (held_rows q fs ws n) ≡ true → AllFair (held_rows q fs ws n)
    unfolding held_rows
    rows_fair zero h e = tt
    rows_fair (suc n) h e =
        let z = (and-eq-true_iff (all_printable (held_rows q fs ws n)) (all_printable (at n))).0
        (sym (printable_append (held_rows q fs ws n) (at n)) ∙ e) in
        fair_append (held_rows q fs ws n) (at n) (rows_fair n (omega arith) z.0)
        (row-fair n (status_of q ws n) (omega arith) (fit n (omega arith)) z.1)

  pub rows_mono : (k n : ℕ) → k ≤ n → length (held_rows q fs ws k) ≤ length (held_rows q fs ws n)
  unfolding held_rows
  rows_mono k zero h = let e : k ≡ 0 = omega arith in rw e (omega arith)
  rows_mono k (suc n) h = go (dec_lt k (suc n)) (λ (l : k ≤ n). rows_mono k n l)
    where
      go : Dec (k < suc n) → (k ≤ n → length (held_rows q fs ws k) ≤ length (held_rows q fs ws n))
          → length (held_rows q fs ws k) ≤ length (held_rows q fs ws n ++ at n)
      go (yes l) ih = omega (arith, ih (omega arith), length-append (held_rows q fs ws n) (at n))
      go (no l) ih = let e : k ≡ suc n = omega arith in rw e (omega arith)

-- ---- sums
pub add_plus : (p l n : ℕ) → pos (p + n) -ℤ pos l ≡ (pos p -ℤ pos l) +ℤ pos n
add_plus p l n =
    ap (λ (z : ℤ). z +ℤ neg_ℤ (pos l)) (sym (pos-+ℤ-pos p n))
    ∙ +ℤ_assoc (pos p) (pos n) (neg_ℤ (pos l))
    ∙ ap (λ (z : ℤ). pos p +ℤ z) (+ℤ_comm (pos n) (neg_ℤ (pos l)))
    ∙ sym (+ℤ_assoc (pos p) (neg_ℤ (pos l)) (pos n))

pub add_less : (p l n : ℕ) → pos p -ℤ pos (l + n) ≡ (pos p -ℤ pos l) +ℤ neg_ℤ (pos n)
add_less p l n =
    ap (λ (z : ℤ). pos p +ℤ neg_ℤ z) (sym (pos-+ℤ-pos l n))
    ∙ ap (λ (z : ℤ). pos p +ℤ z) (neg_ℤ-+ℤ (pos l) (pos n))
    ∙ sym (+ℤ_assoc (pos p) (neg_ℤ (pos l)) (neg_ℤ (pos n)))

pub plus_over : (p l : ℕ) → l ≤ p → pos (p - l) ≡ pos p -ℤ pos l
plus_over p zero h = ap pos (let e : p - 0 ≡ p + 0 = omega arith in e)
plus_over p (suc l) h = rw (le-ltb p (suc l) h)

pub less_over : (p l : ℕ) → p < l → neg_ℤ (pos (l - p)) ≡ pos p -ℤ pos l
less_over p zero h = absurd (omega arith)
less_over p (suc l) h =
    let e : suc l - p ≡ suc (suc l - suc p) = omega arith in
    rw (lt-ltb p (suc l) h, e)

-- ---- the answers
module _ (rs : List Row) (bs : List ℕ) where
  pub unprintable_is : all_printable rs ≡ false → printout (refused NoFigure) bs ≡ page_answer rs bs
  unfolding page_answer
  unprintable_is e = rw e

-- ---- the check passes only on a store that passes
pub done_passed : (q : ℕ) (fs : List Float) (ws : List ℕ) → done_check q fs ws ≡ passed → store_check q fs ws ≡ passed
unfolding done_check
done_passed q fs ws h = (passed-both (store_check q fs ws) _ h).0
