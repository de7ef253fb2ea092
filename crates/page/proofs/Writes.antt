-- Texts written one after the other. Assumes nothing.
use mathlib.Core.Path.{◌≡◌, refl, sym, ap, subst, ◌∙◌}
use mathlib.Core.Bool.{Bool, true, false, ◌&&◌, true≢false}
use mathlib.Core.List.{List, [], ◌∷◌, ◌++◌}
use Prim.Native.Nat.{ℕ, zero, suc, ◌+◌, ◌-◌, ◌≤◌, ◌<◌}
use native.Mathlib.Nat.{add-zero}
use native.Mathlib.Omega.{arith}
use lib.Dec.{ltb}
use borrow.Author.Tests.{lt-ltb}
use lib.IntN.{ℤ, ◌+ℤ◌}
use lib.ListN.{length, replicate, length-replicate, length-append}
use lib.Ieee.{Float}
use Rattle.layout.specs.Layout.{status_of}
use lib.Seq.{length-sets}
use Rattle.layout.specs.Runs.{write}
use Rattle.layout.specs.RunLaws.{sets-write}
use Rattle.text.specs.Print.{Wrote, decimal_length, decimal_text, digits}
use Rattle.text.specs.WriteLaws.{then}
use Rattle.text.specs.LengthLaws.{decimal-length, digits-under}
use Rattle.whole.specs.Whole.{signed_whole}
use Rattle.page.specs.Page.{spaces, right, whole_text, Row, lines_of, total_of, total_line, page_of, row_at, held_rows}
use Rattle.page.specs.PageLaws.{lines_append, total_append, rows_next}

pub nothing : {o : List ℕ} {at : ℕ} → Wrote o at [] at o
nothing {o} {at} = record { next = sym (add-zero at); run = refl }

-- a written run is as long as it was
pub long : {o u o' : List ℕ} {at r : ℕ} → Wrote o at u r o' → length o' ≡ length o
long {o} {u} {at = at} w = ap length w.run ∙ length-sets o at u

pub spaces_written : {o o' : List ℕ} {at : ℕ} (n : ℕ) → at + n ≤ length o → o' ≡ write o at (replicate n 32)
    → Wrote o at (spaces n) (at + n) o'
spaces_written {o} {at = at} n h e =
    let k = length-replicate {A = ℕ} n 32 in
    record { next = omega arith; run = e ∙ sym (sets-write (replicate n 32) o at (omega arith)) }

-- the whole of what was written, from the start
pub as_write : (o u o' : List ℕ) (r : ℕ) → Wrote o 0 u r o' → r ≤ length o → o' ≡ write o 0 u
as_write o u o' r w h = w.run ∙ sets-write u o 0 (omega (arith, w.next))

pub decimal_written : (n : ℕ) {o o' : List ℕ} {at r k : ℕ} → k ≡ decimal_length n → Wrote o at (digits 10 k n) r o'
    → Wrote o at (decimal_text n) r o'
unfolding decimal_text
decimal_written n {o} {o'} {at} {r} {k} e w = subst (λ (j : ℕ). Wrote o at (digits 10 j n) r o') e w

-- a sign and a number's digits, right-aligned, after spaces in the columns that they leave
pub right_written : {o o₁ o₂ o₃ : List ℕ} {at r r₁ r₂ : ℕ} (wide : ℕ) (sign : List ℕ) (n k : ℕ) → k ≡ decimal_length n
    → Wrote o at (spaces (wide - (length sign + k))) r o₁ → Wrote o₁ r sign r₁ o₂ → Wrote o₂ r₁ (digits 10 k n) r₂ o₃
    → Wrote o at (right wide (sign ++ decimal_text n)) r₂ o₃
right_written {o} {o₁} {at = at} {r = r} wide sign n k e a b d =
    let l : length sign + k ≡ length (sign ++ decimal_text n)
    = omega (arith, e, decimal-length n, length-append sign (decimal_text n)) in
    then (subst (λ (m : ℕ). Wrote o at (spaces (wide - m)) r o₁) l a) (then b (decimal_written n e d))

-- the digits of a place, of its pieces and of a printed mass
pub two_digits : (n : ℕ) → n < 100 → decimal_length n ≤ 2
two_digits n h = digits-under 1 n h

pub mass_digits : (n : ℕ) → n < 100000000000000000 → decimal_length n ≤ 17
mass_digits n h = digits-under 16 n h

-- the text of a whole number by its sign and magnitude
pub text_below : (b : Bool) (n : ℕ) → b && ltb 0 n ≡ true → 45 ∷ decimal_text n ≡ whole_text (signed_whole b n)
text_below true zero h = absurd (true≢false (sym h))
text_below true (suc n) h = refl
text_below false n h = absurd (true≢false (sym h))

pub text_plain : (b : Bool) (n : ℕ) → b && ltb 0 n ≡ false → decimal_text n ≡ whole_text (signed_whole b n)
text_plain true zero h = refl
text_plain true (suc n) h = absurd (true≢false (sym (lt-ltb 0 (suc n) (omega arith)) ∙ h))
text_plain false n h = refl

module _ {o o' : List ℕ} {at r : ℕ} (b : Bool) (n : ℕ) where
  pub whole_below : b && ltb 0 n ≡ true → Wrote o at (right 20 (45 ∷ decimal_text n)) r o'
      → Wrote o at (right 20 (whole_text (signed_whole b n))) r o'
  whole_below h w = subst (λ (l : List ℕ). Wrote o at (right 20 l) r o') (text_below b n h) w

  pub whole_plain : b && ltb 0 n ≡ false → Wrote o at (right 20 (decimal_text n)) r o'
      → Wrote o at (right 20 (whole_text (signed_whole b n))) r o'
  whole_plain h w = subst (λ (l : List ℕ). Wrote o at (right 20 l) r o') (text_plain b n h) w

-- ---- rows
module _ (q : ℕ) (fs : List Float) (ws : List ℕ) (k : ℕ) where
  abbrev R : List Row
  R = held_rows q fs ws k

  abbrev S : List Row
  S = row_at fs k (status_of q ws k)

  pub more_written : {o o' o'' : List ℕ} {at r : ℕ} → Wrote o 0 (lines_of (held_rows q fs ws k)) at o'
      → Wrote o' at (lines_of (row_at fs k (status_of q ws k))) r o''
      → Wrote o 0 (lines_of (held_rows q fs ws (k + 1))) r o''
  more_written {o} {o'' = o''} {r = r} a b =
      subst (λ (l : List ℕ). Wrote o 0 l r o'') (sym (lines_append R S) ∙ ap lines_of (sym (rows_next q fs ws k)))
      (then a b)

  pub more_total : (t u : ℤ) → t ≡ total_of (held_rows q fs ws k) → u ≡ t +ℤ total_of (row_at fs k (status_of q ws k))
      → u ≡ total_of (held_rows q fs ws (k + 1))
  more_total t u e f =
      f ∙ ap (λ (z : ℤ). z +ℤ total_of S) e ∙ sym (total_append R S) ∙ ap total_of (sym (rows_next q fs ws k))

  pub more_count : length (held_rows q fs ws (k + 1))
      ≡ length (held_rows q fs ws k) + length (row_at fs k (status_of q ws k))
  more_count = ap length (rows_next q fs ws k) ∙ length-append R S

pub page_written : (rs : List Row) (v : ℤ) {o o' o'' : List ℕ} {at r : ℕ} → v ≡ total_of rs
    → Wrote o 0 (lines_of rs) at o'
    → Wrote o' at (total_line v) r o'' → Wrote o 0 (page_of rs) r o''
unfolding page_of
page_written rs v {o} {o'} {o''} {at} {r} e a b = then a (subst (λ (z : ℤ). Wrote o' at (total_line z) r o'') e b)
