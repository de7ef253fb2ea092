-- 01, "Remainder", program `bench`: the line that it prints for a call's answer. Definitions only.
use Rattle.std.specs.Prelude.{ℕ, cond, List, [], ◌∷◌, ◌++◌, eqb, get_or, Float}
use Rattle.base.specs.Floats.{+0}
use Rattle.base.specs.Answers.{Answer}
use Rattle.text.specs.Form.{print, ◌&◌}
use Rattle.answers.specs.Answers.{open_answer, put_answer, density_answer, advance_answer, clear_answer, reweigh_answer, report_answer, no_answer}

-- a line of text, with its newline
abbrev pub lined : List ℕ → List ℕ
lined t = t ++ (10 ∷ [])

-- "any refusal (no N)"
abbrev pub no_text : ℕ → List ℕ
no_text n = lined (print no_answer (n & tt))

-- the text of an answer: this, unless it is refused
abbrev pub told : List ℕ → Answer → List ℕ
told good a = cond (eqb a.refusal 0) (lined good) (no_text a.refusal)

-- the answer's whole numbers and floats, one by one
abbrev pub count_of : Answer → ℕ → ℕ
count_of a i = get_or a.counts i 0

abbrev pub float_of : Answer → ℕ → Float
float_of a i = get_or a.floats i +0

-- ---- "prints vertices and faces, then pieces and need, the density, done and left"
unfoldable pub open_text : Answer → List ℕ
open_text a = told (print open_answer (count_of a 0 & count_of a 1 & tt)) a

unfoldable pub put_text : ℕ → Answer → List ℕ
put_text place a = told (print put_answer (place & count_of a 0 & count_of a 1 & tt)) a

unfoldable pub density_text : Answer → List ℕ
density_text a = told (print density_answer (float_of a 0 & tt)) a

unfoldable pub advance_text : Answer → List ℕ
advance_text a = told (print advance_answer (count_of a 0 & count_of a 1 & tt)) a

-- "(clear P), (reweigh P) echo"
unfoldable pub clear_text : ℕ → Answer → List ℕ
clear_text place a = told (print clear_answer (place & tt)) a

unfoldable pub reweigh_text : ℕ → Answer → List ℕ
reweigh_text place a = told (print reweigh_answer (place & tt)) a

-- "the first seven in `MassReport` order", then kernels, pieces and error
unfoldable pub report_text : Answer → List ℕ
report_text a =
    told
    (print report_answer
    (float_of a 0 & float_of a 1 & float_of a 2 & float_of a 3 & float_of a 4 & float_of a 5 & float_of a 6 & count_of a 0
    & count_of a 1 & float_of a 7 & tt))
    a
