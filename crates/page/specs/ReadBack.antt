-- The page as it hangs on the wall: every line has 64 characters and a newline, and what stands in its columns, read by
-- the reader of crates/text, is each place's number, its pieces and its rounded mass, and in the last line the sum of
-- those masses. Assumes nothing.
use Rattle.std.specs.Prelude.{◌≡◌, Bool, true, false, cond, ℕ, zero, suc, ◌+◌, ◌-◌, ◌*◌, ◌/◌, ◌%◌, ◌≤◌, ◌<◌, ltb, eqb, ℤ, pos, negsuc, neg_ℤ, nat_abs, take, drop}
use Rattle.std.proofs.Math.Path.{refl, sym, ap}
use Rattle.std.proofs.Common.{subst, ◌∙◌, arith, ne_eqb}
use mathlib.Core.List.{List, [], ◌∷◌, ◌++◌, map, append_assoc, append-nil}
use Rattle.std.proofs.Math.ListN.{length, length-append}
use Rattle.std.proofs.Math.Seq.{take-append_seam, drop-append_seam}
use Rattle.text.specs.Text.{left, Got, decimal}
use Rattle.text.specs.Print.{glyph, digits, length_from_lem, decimal_length, decimal_text}
use Rattle.text.specs.Tokens.{decimal-back}
use Rattle.page.specs.Page.{spaces, right, whole_text, ending, place_line, total_line, Row, figure, lines_of, total_of, page_of}
use Rattle.page.specs.PageLaws.{Fair, AllFair, figure-small, total_small, right-length, whole_length, two-columns, line_length, lines_length}

-- ---- definitions

-- no byte comes before the space in ASCII: so none is a newline
abbrev pub Visible : List ℕ → Type 0
Visible [] = Unit {0}
Visible (b ∷ l) = (32 ≤ b) × Visible l

-- "64 characters and a newline"
pub record Line (l : List ℕ) : Type 0 where
  pub chars : List ℕ
  pub text : l ≡ chars ++ (10 ∷ [])
  pub wide : length chars ≡ 64
  pub visible : Visible chars

-- n lines and nothing else
pub data Lines : List ℕ → ℕ → Type 0 where
  none : Lines [] 0
  more : {l r : List ℕ} {n : ℕ} → Line l → Lines r n → Lines (l ++ r) (suc n)

-- columns a to b, counted from 1, of the line at the start of a text
abbrev pub columns : ℕ → ℕ → List ℕ → List ℕ
columns a b l = take (b - a + 1) (drop (a - 1) l)

-- a text after its spaces
abbrev pub skip : List ℕ → List ℕ
skip [] = []
skip (b ∷ l) = cond (eqb b 32) (skip l) (b ∷ l)

-- v was read and nothing is left
abbrev pub exactly : {A : Type 0} → A → Got A
exactly v = record { val = v; text = left [] }

-- a decimal number of 64 bits
abbrev pub count : List ℕ → Got ℕ
count t = decimal 18446744073709551615 (left t)

abbrev pub told : (ℕ → ℤ) → Got ℕ → Got ℤ
told f g = record { val = f g.val; text = g.text }

-- the same after a minus sign or none
abbrev pub read_whole : List ℕ → Got ℤ
read_whole [] = told pos (count [])
read_whole (b ∷ l) = cond (eqb b 45) (told (λ n. neg_ℤ (pos n)) (count l)) (told pos (count (b ∷ l)))

-- the mass in a line
abbrev pub read_mass : List ℕ → Got ℤ
read_mass l = read_whole (skip (columns 45 64 l))

-- all that is read in a place's line
pub record Shown : Type 0 where
  pub place : Got ℕ
  pub pieces : Got ℕ
  pub mass : Got ℤ

abbrev pub read_line : List ℕ → Shown
read_line l = record { place = count (skip (columns 1 2 l)); pieces = count (skip (columns 4 5 l)); mass = read_mass l }

-- in the first n lines, 65 bytes each
abbrev pub read_lines : ℕ → List ℕ → List Shown
read_lines zero l = []
read_lines (suc n) l = read_line l ∷ read_lines n (drop 65 l)

-- what is to be read of a row
abbrev pub shown : Row → Shown
shown r = record { place = exactly r.place; pieces = exactly r.pieces; mass = exactly (figure r) }

-- ---- bytes
visible_append : (u v : List ℕ) → Visible u → Visible v → Visible (u ++ v)
visible_append [] v a b = b
visible_append (x ∷ u) v a b = (a.0, visible_append u v a.1 b)

visible_spaces : (n : ℕ) → Visible (spaces n)
visible_spaces zero = tt
visible_spaces (suc n) = (omega arith, visible_spaces n)

glyph-low : (d : ℕ) → 48 ≤ glyph d
glyph-low d = go (ltb d 10)
  where
    go : (b : Bool) → 48 ≤ cond b (48 + d) (55 + d)
    go true = omega arith
    go false = omega arith

visible_digits : (k n : ℕ) → Visible (digits 10 k n)
unfolding digits
visible_digits zero n = tt
visible_digits (suc k) n = visible_append (digits 10 k (n / 10)) (glyph (n % 10) ∷ []) (visible_digits k (n / 10))
    (let g = glyph-low (n % 10) in omega arith, tt)

visible_decimal : (n : ℕ) → Visible (decimal_text n)
unfolding decimal_text
visible_decimal n = visible_digits (decimal_length n) n

visible_whole : (v : ℤ) → Visible (whole_text v)
visible_whole (pos n) = visible_decimal n
visible_whole (negsuc n) = (omega arith, visible_decimal (suc n))

visible_right : (n : ℕ) (t : List ℕ) → Visible t → Visible (right n t)
visible_right n t v = visible_append (spaces (n - length t)) t (visible_spaces (n - length t)) v

-- ---- numbers read back
skip-spaces : (n : ℕ) (t : List ℕ) → skip (spaces n ++ t) ≡ skip t
skip-spaces zero t = refl
skip-spaces (suc n) t = skip-spaces n t

record Starts (l : List ℕ) : Type 0 where
  first : ℕ
  others : List ℕ
  is : l ≡ first ∷ others
  low : 48 ≤ first

starts : (j n : ℕ) → Starts (digits 10 (suc j) n)
unfolding digits
starts zero n = record { first = glyph (n % 10); others = []; is = refl; low = glyph-low (n % 10) }
starts (suc j) n =
    let s = starts j (n / 10) in
    record {
      first = s.first;
      others = s.others ++ (glyph (n % 10) ∷ []);
      is = ap (λ (l : List ℕ). l ++ (glyph (n % 10) ∷ [])) s.is;
      low = s.low;
    }

some-digits : (f n : ℕ) → length_from_lem f n ≡ suc (length_from_lem f n - 1)
unfolding length_from_lem
some-digits zero n = refl
some-digits (suc f) n = go (ltb n 10)
  where
    go : (b : Bool) → cond b 1 (suc (length_from_lem f (n / 10))) ≡ suc (cond b 1 (suc (length_from_lem f (n / 10))) - 1)
    go true = refl
    go false = omega arith

text_starts : (n : ℕ) → Starts (decimal_text n)
unfolding decimal_text decimal_length
text_starts n = subst (λ (j : ℕ). Starts (digits 10 j n)) (sym (some-digits 19 n)) (starts (length_from_lem 19 n - 1) n)

plain-skip : (l : List ℕ) → Starts l → skip l ≡ l
plain-skip l s = rw s.is (rw (ne_eqb s.first 32 (λ z. omega (arith, s.low))) refl)

plain-whole : (l : List ℕ) → Starts l → read_whole l ≡ told pos (count l)
plain-whole l s = rw s.is (rw (ne_eqb s.first 45 (λ z. omega (arith, s.low))) refl)

number-back : (n : ℕ) → n < 100000000000000000 → count (decimal_text n) ≡ exactly n
number-back n h =
    ap count (sym (append-nil (decimal_text n))) ∙ decimal-back 18446744073709551615 n [] (omega arith) (omega arith) tt

text_back : (v : ℤ) → nat_abs v < 100000000000000000 → read_whole (skip (whole_text v)) ≡ exactly v
text_back (pos n) h = ap read_whole (plain-skip (decimal_text n) (text_starts n))
    ∙ plain-whole (decimal_text n) (text_starts n) ∙ ap (told pos) (number-back n h)
text_back (negsuc n) h = ap (told (λ m. neg_ℤ (pos m))) (number-back (suc n) h)

count-back : (n : ℕ) → n < 100 → count (skip (right 2 (decimal_text n))) ≡ exactly n
count-back n h = ap count (skip-spaces (2 - length (decimal_text n)) (decimal_text n)
    ∙ plain-skip (decimal_text n) (text_starts n)) ∙ number-back n (omega arith)

whole_back : (v : ℤ) → nat_abs v < 100000000000000000 → read_whole (skip (right 20 (whole_text v))) ≡ exactly v
whole_back v h = ap read_whole (skip-spaces (20 - length (whole_text v)) (whole_text v)) ∙ text_back v h

-- ---- k bytes after the first a
cut : (a k : ℕ) (p c u : List ℕ) → length p ≡ a → length c ≡ k → take k (drop a (p ++ (c ++ u))) ≡ c
cut a k p c u e f = rw (← e, ← f) (ap (take (length c)) (drop-append_seam p (c ++ u)) ∙ take-append_seam c u)

-- a line of 44 columns, those of its mass, and a newline
ended : (p t : List ℕ) → length p ≡ 44 → length t ≡ 20 → Visible p → Visible t → Line (p ++ (t ++ (10 ∷ [])))
ended p t a b u v =
    record {
      chars = p ++ t;
      text = sym (append_assoc p t (10 ∷ []));
      wide = length-append p t ∙ omega arith;
      visible = visible_append p t u v;
    }

mass_back : (l p : List ℕ) (v : ℤ) → nat_abs v < 100000000000000000 → l ≡ p ++ (right 20 (whole_text v) ++ (10 ∷ []))
    → length p ≡ 44 → (t : List ℕ) → read_mass (l ++ t) ≡ exactly v
mass_back l p v h e a t =
    let c = right 20 (whole_text v) in
    let w = right-length 20 (whole_text v) (whole_length v h) in
    let j : l ++ t ≡ p ++ (c ++ (10 ∷ t)) = ap (λ (x : List ℕ). x ++ t) e ∙ append_assoc p (c ++ (10 ∷ [])) t
    ∙ ap (λ (x : List ℕ). p ++ x) (append_assoc c (10 ∷ []) t) in
    ap (λ (x : List ℕ). read_whole (skip (columns 45 64 x))) j
    ∙ ap (λ (x : List ℕ). read_whole (skip x)) (cut 44 20 p c (10 ∷ t) a w) ∙ whole_back v h

-- ---- a place's line
module _ (i n : ℕ) (v : ℤ) (hi : i < 100) (hn : n < 100) (hv : nat_abs v < 100000000000000000) where
  abbrev A : List ℕ
  A = right 2 (decimal_text i)

  abbrev B : List ℕ
  B = right 2 (decimal_text n)

  abbrev M : List ℕ
  M = right 20 (whole_text v)

  abbrev front : List ℕ
  front = A ++ (32 ∷ (B ++ spaces 39))

  line-is : place_line i n v ≡ front ++ (M ++ (10 ∷ []))
  unfolding place_line ending
  line-is =
      ap (λ (l : List ℕ). A ++ (32 ∷ l)) (sym (append_assoc B (spaces 39) (M ++ (10 ∷ []))))
      ∙ sym (append_assoc A (32 ∷ (B ++ spaces 39)) (M ++ (10 ∷ [])))

  front-wide : length front ≡ 44
  front-wide =
      let a = two-columns i hi in
      let b = two-columns n hn in
      let c = length-append B (spaces 39) in
      length-append A (32 ∷ (B ++ spaces 39)) ∙ omega arith

  place-line : Line (place_line i n v)
  place-line =
      subst Line (sym line-is)
      (ended front M front-wide (right-length 20 (whole_text v) (whole_length v hv))
      (visible_append A (32 ∷ (B ++ spaces 39)) (visible_right 2 (decimal_text i) (visible_decimal i)) (
        omega arith,
        visible_append B (spaces 39) (visible_right 2 (decimal_text n) (visible_decimal n))
            (visible_spaces 39),
      ))
      (visible_right 20 (whole_text v) (visible_whole v)))

  module _ (t : List ℕ) where
    at_place : columns 1 2 (place_line i n v ++ t) ≡ A
    unfolding place_line
    at_place = ap (take 2) (append_assoc A (32 ∷ (B ++ ending v)) t)
        ∙ cut 0 2 [] A ((32 ∷ (B ++ ending v)) ++ t) refl (two-columns i hi)

    at-pieces : columns 4 5 (place_line i n v ++ t) ≡ B
    unfolding place_line
    at-pieces =
        let w : length (A ++ (32 ∷ [])) ≡ 3 = length-append A (32 ∷ []) ∙ omega (arith, two-columns i hi) in
        let j = append_assoc A (32 ∷ (B ++ ending v)) t
        ∙ ap (λ (l : List ℕ). A ++ (32 ∷ l)) (append_assoc B (ending v) t)
        ∙ sym (append_assoc A (32 ∷ []) (B ++ (ending v ++ t))) in
        ap (columns 4 5) j ∙ cut 3 2 (A ++ (32 ∷ [])) B (ending v ++ t) w (two-columns n hn)

    line-back : read_line (place_line i n v ++ t) ≡ record { place = exactly i; pieces = exactly n; mass = exactly v }
    line-back =
        let p = ap (λ (l : List ℕ). count (skip l)) at_place ∙ count-back i hi in
        let q = ap (λ (l : List ℕ). count (skip l)) at-pieces ∙ count-back n hn in
        let m = mass_back (place_line i n v) front v hv line-is front-wide t in
        (λ j. record { place = p j; pieces = q j; mass = m j })

    line-past : drop 65 (place_line i n v ++ t) ≡ t
    line-past = rw (← line_length i n v hi hn hv) (drop-append_seam (place_line i n v) t)

-- ---- the last line
module _ (v : ℤ) (h : nat_abs v < 100000000000000000) where
  abbrev word : List ℕ
  word = 84 ∷ 79 ∷ 84 ∷ 65 ∷ 76 ∷ spaces 39

  total-is : total_line v ≡ word ++ (right 20 (whole_text v) ++ (10 ∷ []))
  unfolding total_line ending
  total-is = refl

  total-line : Line (total_line v)
  total-line =
      subst Line (sym total-is)
      (ended word (right 20 (whole_text v)) refl (right-length 20 (whole_text v) (whole_length v h))
      (omega arith, (omega arith, (omega arith, (omega arith, (omega arith, visible_spaces 39)))))
      (visible_right 20 (whole_text v) (visible_whole v)))

  last-back : read_mass (total_line v) ≡ exactly v
  last-back = ap read_mass (sym (append-nil (total_line v))) ∙ mass_back (total_line v) word v h total-is refl []

-- ---- the page
row_small : (r : Row) → Fair r → nat_abs (figure r) < 100000000000000000
row_small r g = let m = figure-small r g in omega arith

sum-small : (rs : List Row) → AllFair rs → length rs ≤ 32 → nat_abs (total_of rs) < 100000000000000000
sum-small rs g h = let s = total_small rs g in omega arith

rows-and : (rs : List Row) → AllFair rs → (t : List ℕ) → Line t → Lines (lines_of rs ++ t) (suc (length rs))
rows-and [] g t h = subst (λ (l : List ℕ). Lines l 1) (append-nil t) (more h none)
rows-and (r ∷ rs) g t h =
    let l = place_line r.place r.pieces (figure r) in
    subst (λ (x : List ℕ). Lines x (suc (suc (length rs)))) (sym (append_assoc l (lines_of rs) t))
    (more (place-line r.place r.pieces (figure r) g.0.place g.0.pieces (row_small r g.0))
    (rows-and rs g.1 t h))

rows_back : (rs : List Row) → AllFair rs → (t : List ℕ) → read_lines (length rs) (lines_of rs ++ t) ≡ map shown rs
rows_back [] g t = refl
rows_back (r ∷ rs) g t =
    let l = place_line r.place r.pieces (figure r) in
    let u = lines_of rs ++ t in
    let a = line-back r.place r.pieces (figure r) g.0.place g.0.pieces (row_small r g.0) u in
    let b = line-past r.place r.pieces (figure r) g.0.place g.0.pieces (row_small r g.0) u in
    ap (read_lines (suc (length rs))) (append_assoc l (lines_of rs) t) ∙ rw (a, b, rows_back rs g.1 t) refl

-- "Every line has 64 characters and a newline"
pub page_lines : (rs : List Row) → AllFair rs → length rs ≤ 32 → Lines (page_of rs) (suc (length rs))
unfolding page_of
page_lines rs g h = rows-and rs g (total_line (total_of rs)) (total-line (total_of rs) (sum-small rs g h))

-- the lines of the places show their rows
pub page_back : (rs : List Row) → AllFair rs → read_lines (length rs) (page_of rs) ≡ map shown rs
unfolding page_of
page_back rs g = rows_back rs g (total_line (total_of rs))

-- and the last line "the sum of the printed masses"
pub total_back : (rs : List Row) → AllFair rs → length rs ≤ 32
    → read_mass (drop (65 * length rs) (page_of rs)) ≡ exactly (total_of rs)
unfolding page_of
total_back rs g h =
    let t = total_line (total_of rs) in
    let e : drop (65 * length rs) (lines_of rs ++ t) ≡ t = rw (← lines_length rs g) (drop-append_seam (lines_of rs) t) in
    ap read_mass e ∙ last-back (total_of rs) (sum-small rs g h)
