-- 02, L10: a store's "bracket lines, here and in L11 each ending in a newline", which are the program's forms.
-- Definitions only.
use Rattle.text.specs.Form.{Form, end, either, say, u32, followed}
use Rattle.forms.specs.Forms.{open_form, vert_form, face_form, put_start, put_end}

abbrev pub newline : Form
newline = say "\n" end

abbrev pub open_line : Form
open_line = followed open_form newline

abbrev pub vert_line : Form
vert_line = followed vert_form newline

abbrev pub face_line : Form
face_line = followed face_form newline

-- "Lines carry (layer N) after alpha"
abbrev pub layer_end : Form
layer_end = say ") (layer " (u32 (say "))" end))

-- and a put line may lack it
abbrev pub put_line : Form
put_line = followed put_start (either put_end layer_end newline)
