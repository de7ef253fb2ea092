-- The row of one place, as the code makes it. Assumes nothing.
use mathlib.Core.Path.{◌≡◌, refl, sym, ap, subst, ◌∙◌}
use mathlib.Core.Bool.{Bool, true, false, ◌&&◌}
use mathlib.Core.List.{List, [], ◌∷◌, append-nil}
use Prim.Native.Nat.{ℕ, ◌-◌}
use borrow.Author.Tests.{eq-eqb, ne_eqb}
use lib.IntN.{ℤ, ◌+ℤ◌, +ℤ_idr}
use lib.ListN.{length}
use lib.Ieee.{Float, le}
use Rattle.base.specs.Floats.{abs, +0}
use Rattle.readings.specs.Readings.{raw_mass_lem, held_at}
use Rattle.readings.specs.Folds.{fold, mass_step}
use Rattle.readings.specs.FoldLaws.{mass_sum}
use Rattle.text.specs.Print.{Wrote}
use Rattle.whole.specs.Whole.{rounded, printable, mass_limit}
use Rattle.page.specs.Page.{place_line, Row, row, lines_of, total_of, all_printable, row_at}
use Rattle.page.proofs.Writes.{nothing}

and-true : (b : Bool) → b && true ≡ b
and-true true = refl
and-true false = refl

-- an empty place
module _ (fs : List Float) (i s : ℕ) (e : s ≡ 0) where
  pub none_is : row_at fs i s ≡ []
  none_is = rw (eq-eqb s 0 e)

  pub none_printable : true ≡ all_printable (row_at fs i s)
  none_printable = rw none_is

  pub none_count : length (row_at fs i s) ≡ 0
  none_count = rw none_is

  pub none_written : {o : List ℕ} {at : ℕ} → Wrote o at (lines_of (row_at fs i s)) at o
  none_written {o} {at} = subst (λ (l : List Row). Wrote o at (lines_of l) at o) (sym none_is) nothing

  pub none_total : (v : ℤ) → v ≡ v +ℤ total_of (row_at fs i s)
  none_total v = rw none_is (sym (+ℤ_idr v))

-- a filled place of p pieces and the mass m
module _ (fs : List Float) (i s p : ℕ) (n : s ≡ 0 → ⊥) (e : p ≡ s - 1) (m : Float)
    (g : m ≡ fold mass_step (held_at fs i p) +0) where
  mass-is : raw_mass_lem (held_at fs i p) ≡ m
  mass-is = mass_sum (held_at fs i p) ∙ sym g

  one-is : row_at fs i s ≡ row i p m ∷ []
  one-is = rw (ne_eqb s 0 n, ← e, mass-is)

  test : all_printable (row_at fs i s) ≡ printable m
  test = ap all_printable one-is ∙ and-true (printable m)

  pub one_printable : (a : Float) → a ≡ abs m → le a mass_limit ≡ all_printable (row_at fs i s)
  unfolding printable
  one_printable a h = ap (λ (x : Float). le x mass_limit) h ∙ sym test

  pub fair_mass : all_printable (row_at fs i s) ≡ true → printable m ≡ true
  fair_mass h = sym test ∙ h

  pub one_count : length (row_at fs i s) ≡ 1
  one_count = ap length one-is

  module _ (v : ℤ) (h : v ≡ rounded m) where
    pub one_total : total_of (row_at fs i s) ≡ v
    one_total = ap total_of one-is ∙ +ℤ_idr (rounded m) ∙ sym h

    line-is : place_line i p v ≡ lines_of (row_at fs i s)
    line-is = ap (place_line i p) h ∙ sym (append-nil (place_line i p (rounded m))) ∙ ap lines_of (sym one-is)

    pub one_written : {o o' : List ℕ} {at r : ℕ} → Wrote o at (place_line i p v) r o'
        → Wrote o at (lines_of (row_at fs i s)) r o'
    one_written {o} {o'} {at} {r} w = subst (λ (l : List ℕ). Wrote o at l r o') line-is w
