-- 02, L11: "one bracket line per kernel, (kernel (c h h h) (sigma h) (w h) (alpha h)), with (alpha none) for a missing
-- exponent", "each ending in a newline". Definitions only.
use Rattle.std.specs.Prelude.{ℕ, zero, suc, Bool, true, false, List, [], ◌∷◌, length, Float, None, Option, Some}
use Rattle.text.specs.Text.{Text, lost, left, Got}
use Rattle.text.specs.Form.{Form, end, real, either, Vals, map, choose, read, say, three}
use Rattle.convert.specs.declared.file.FileKernel.{FileKernel}

-- ---- one line

abbrev pub given_form : Form
given_form = real end

abbrev pub missing_form : Form
missing_form = say "none" end

abbrev pub to_given : Vals given_form → Option Float
to_given v = Some v.0

abbrev pub to_missing : Vals missing_form → Option Float
to_missing v = None

abbrev pub exponent_form : Form
exponent_form = either given_form missing_form end

abbrev pub to_exponent : Vals exponent_form → Option Float
to_exponent = choose to_given to_missing

abbrev pub kernel_form : Form
kernel_form = say "(kernel (c " (three (say ") (sigma "
    (real (say ") (w " (real (say ") (alpha " (either given_form missing_form (say "))\n" end))))))))

abbrev pub to_file : Vals kernel_form → FileKernel
to_file v =
    record {
      x = v.0;
      y = v.1.0;
      z = v.1.1.0;
      sigma = v.1.1.1.0;
      w = v.1.1.1.1.0;
      exponent = to_exponent (v.1.1.1.1.1.0, tt);
    }

-- the line where the text stands, with its newline
unfoldable pub file_line : Text → Got FileKernel
file_line t = map to_file (read kernel_form t)

-- ---- lines in a row

-- the lines up to the end of the text, or to the first that is not of the form, which leaves `lost`; no more than
-- `most` are asked for
unfoldable pub file_lines : ℕ → Text → Got (List FileKernel)
file_lines zero t = record { val = []; text = t }
file_lines (suc most) lost = record { val = []; text = lost }
file_lines (suc most) (left []) = record { val = []; text = left [] }
file_lines (suc most) (left (b ∷ l)) =
    let g = file_line (left (b ∷ l)) in
    let r = file_lines most g.text in
    record { val = g.val ∷ r.val; text = r.text }

-- the lines of a text: a line has more than one byte, so there are no more than bytes
abbrev pub filed : List ℕ → List FileKernel
filed s = (file_lines (length s) (left s)).val

-- the first n of them
unfoldable pub lines_in : ℕ → Text → List FileKernel
lines_in zero t = []
lines_in (suc n) t = (file_line t).val ∷ lines_in n (file_line t).text

-- nothing is left after them
abbrev pub ended : Text → Bool
ended lost = false
ended (left []) = true
ended (left (b ∷ l)) = false

-- all bytes are lines
abbrev pub all_lines : List ℕ → Bool
all_lines s = ended (file_lines (length s) (left s)).text
