-- 02, L8, "The wall page": its lines, what they show, when it is refused. Definitions only.
use Rattle.std.specs.Result.{result_and}
use Rattle.std.specs.Prelude.{ℕ, zero, suc, ◌-◌, Bool, true, ◌&&◌, cond, List, [], ◌∷◌, ◌++◌, ltb, leb, eqb, ℤ, pos, negsuc, ◌+ℤ◌, length, replicate, Float, Err}
use Rattle.base.specs.Answers.{counted, Printout, printout, guarded_bytes, Checked, passed}
use Rattle.base.specs.declared.refusal.Refusal.TheVariants.{Unfinished, NoFigure, ShortPage}
use Rattle.layout.specs.Runs.{write}
use Rattle.layout.specs.Layout.{place_limit, faces_of, status_of}
use Rattle.layout.specs.Soundness.{store_check}
use Rattle.layout.specs.Left.{left_of}
use Rattle.readings.specs.Readings.{raw_mass_lem, held_at}
use Rattle.text.specs.Text.{bytes}
use Rattle.text.specs.Print.{decimal_text}
use Rattle.whole.specs.Whole.{rounded, printable}

-- ---- text

abbrev pub spaces : ℕ → List ℕ
spaces n = replicate n 32

-- "right-aligned", in n columns
abbrev pub right : ℕ → List ℕ → List ℕ
right n t = spaces (n - length t) ++ t

-- "with a minus sign where negative and plain 0 for zero"
abbrev pub whole_text : ℤ → List ℕ
whole_text (pos n) = decimal_text n
whole_text (negsuc n) = 45 ∷ decimal_text (suc n)

-- what follows column 5: a whole number "in columns 45-64", "spaces elsewhere", and a newline
unfoldable pub ending : ℤ → List ℕ
ending v = spaces 39 ++ (right 20 (whole_text v) ++ (10 ∷ []))

-- "its number in columns 1-2, its pieces in 4-5 and its raw mass in whole kilograms in columns 45-64"
unfoldable pub place_line : ℕ → ℕ → ℤ → List ℕ
place_line i n v = right 2 (decimal_text i) ++ (32 ∷ (right 2 (decimal_text n) ++ ending v))

-- "A last line has TOTAL in columns 1-5"
unfoldable pub total_line : ℤ → List ℕ
total_line v = bytes "TOTAL" ++ ending v

-- ---- the page

-- what is shown of a filled place; its mass as it is before rounding
pub record Row : Type 0 where
  pub place : ℕ
  pub pieces : ℕ
  pub mass : Float

abbrev pub row : ℕ → ℕ → Float → Row
row i n m = record { place = i; pieces = n; mass = m }

-- "nearest, ties to even"
abbrev pub figure : Row → ℤ
figure r = rounded r.mass

-- "One line per filled place"
abbrev pub lines_of : List Row → List ℕ
lines_of [] = []
lines_of (r ∷ rs) = place_line r.place r.pieces (figure r) ++ lines_of rs

-- "the sum of the printed masses"
abbrev pub total_of : List Row → ℤ
total_of [] = pos 0
total_of (r ∷ rs) = figure r +ℤ total_of rs

unfoldable pub page_of : List Row → List ℕ
page_of rs = lines_of rs ++ total_line (total_of rs)

-- ---- the call

-- "17 when a place's field mass is NaN or, unrounded, exceeds 10^15 in magnitude"
abbrev pub all_printable : List Row → Bool
all_printable [] = true
all_printable (r ∷ rs) = printable r.mass && all_printable rs

abbrev pub figure_check : List Row → Checked
figure_check rs = cond (all_printable rs) passed (Err NoFigure)

-- "18 when the lent page is too short, after 17"; both are counts of bytes
abbrev pub page_check : ℕ → ℕ → Checked
page_check need room = cond (leb need room) passed (Err ShortPage)

-- "it answers its byte count, bytes past that untouched"
unfoldable pub page_answer : List Row → List ℕ → Printout
page_answer rs bs =
    guarded_bytes (result_and (figure_check rs) (page_check (length (page_of rs)) (length bs))) bs
    (printout (counted (length (page_of rs) ∷ [])) (write bs 0 (page_of rs)))

-- ---- as a store's runs hold it: place i, empty where its status is 0. "The mass is the place's own field mass"
abbrev pub row_at : List Float → ℕ → ℕ → List Row
row_at fs i status = cond (eqb status 0) [] (row i (status - 1) (raw_mass_lem (held_at fs i (status - 1))) ∷ [])

-- the places below k
unfoldable pub held_rows : ℕ → List Float → List ℕ → ℕ → List Row
held_rows q fs ws zero = []
held_rows q fs ws (suc k) = held_rows q fs ws k ++ row_at fs k (status_of q ws k)

-- rows 4, 5 and 8: "It is given only when nothing is left to do, else 8"; "The page takes places of every layer"
unfoldable pub done_check : ℕ → List Float → List ℕ → Checked
done_check q fs ws =
    result_and (store_check q fs ws) (cond (ltb 0 (left_of q ws (faces_of ws) place_limit)) (Err Unfinished) passed)

-- the contract
unfoldable pub page_step : ℕ → List Float → List ℕ → List ℕ → Printout
page_step q fs ws bs = guarded_bytes (done_check q fs ws) bs (page_answer (held_rows q fs ws place_limit) bs)
