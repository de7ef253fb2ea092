-- 01, "Remainder", program `bench`: the forms of its lines, and what a line means. Definitions only.
use Rattle.std.specs.Prelude.{ℕ, ◌≡◌, List, [], ◌∷◌, ◌⊎◌, Option, Some, None, length, get_or}
use Rattle.std.proofs.Common.{inl, inr}
use Rattle.text.specs.Text.{Text, lost, left}
use Rattle.text.specs.Form.{Form, end, real, either, Vals, map, choose, read, print, say, u32, u64, followed, three, ◌&◌}
use Rattle.base.specs.Floats.{+0}
use Rattle.density.specs.declared.convention.Convention.{Convention}
use Rattle.density.specs.declared.convention.Convention.TheVariants.{Raw, Rho0, Mass}
use Rattle.forms.specs.declared.line.Put.{Put}
use Rattle.forms.specs.declared.line.Head.{Head}
use Rattle.forms.specs.declared.line.Line.{Line}
use Rattle.forms.specs.declared.line.Line.TheVariants.{Open, Vert, Face, OnStore}
use Rattle.forms.specs.declared.line.Call.TheVariants.{Put as put_call}
use Rattle.forms.specs.declared.line.Call.TheVariants.{Clear, Reweigh, Advance, Density, Report}

-- ---- "Conventions: (raw), (rho0 h), (mass h h)"

abbrev pub raw_form : Form
raw_form = say "(raw)" end

abbrev pub rho0_form : Form
rho0_form = say "(rho0 " (real (say ")" end))

abbrev pub mass_form : Form
mass_form = say "(mass " (real (say " " (real (say ")" end))))

-- a convention, and then
abbrev pub convention : Form → Form
convention f = either raw_form (either rho0_form mass_form end) f

abbrev pub to_raw : Vals raw_form → Convention
to_raw v = Raw

abbrev pub to_rho0 : Vals rho0_form → Convention
to_rho0 v = Rho0 v.0

abbrev pub to_mass : Vals mass_form → Convention
to_mass v = Mass v.0 v.1.0

abbrev pub to_convention : Vals (convention end) → Convention
to_convention = choose to_raw (choose to_rho0 to_mass)

-- ---- the lines

-- three values in a row as an array
abbrev pub array_of : {A B : Type 0} → A × (A × (A × B)) → List A
array_of v = v.0 ∷ v.1.0 ∷ v.1.1.0 ∷ []

abbrev pub open_form : Form
open_form = say "(open (radius " (real (say ") (verts " (u32 (say ") (faces " (u32 (say "))" end))))))

abbrev pub head_of : Vals open_form → Head
head_of v = record { radius = v.0; verts = v.1.0; faces = v.1.1.0 }

abbrev pub to_open : Vals open_form → Line
to_open v = Open (head_of v)

abbrev pub vert_form : Form
vert_form = say "(vert " (three (say ")" end))

abbrev pub to_vert : Vals vert_form → Line
to_vert v = Vert (array_of v)

abbrev pub face_form : Form
face_form = say "(face " (u32 (say " " (u32 (say " " (u32 (say ")" end))))))

abbrev pub to_face : Vals face_form → Line
to_face v = Face (array_of v)

-- a put's line up to its exponent
abbrev pub put_start : Form
put_start =
    say "(put " (u32 (say " (c " (three (say ") (sigma " (real (say ") (w " (real (say ") (alpha " (real end)))))))))

abbrev pub put_of : Vals put_start → Put
put_of v =
    let after = v.1.1.1.1 in
    record {
      place = v.0;
      kernel = record { c = array_of v.1; sigma = after.0; w = after.1.0; alpha = after.1.1.0 };
    }

-- and its end
abbrev pub put_end : Form
put_end = say "))" end

abbrev pub put_form : Form
put_form = followed put_start put_end

abbrev pub to_put : Vals put_form → Line
to_put v = OnStore (put_call (put_of v))

-- "(clear P), (reweigh P h), (report CONV)"
abbrev pub clear_form : Form
clear_form = say "(clear " (u32 (say ")" end))

abbrev pub to_clear : Vals clear_form → Line
to_clear v = OnStore (Clear v.0)

abbrev pub reweigh_form : Form
reweigh_form = say "(reweigh " (u32 (say " " (real (say ")" end))))

abbrev pub to_reweigh : Vals reweigh_form → Line
to_reweigh v = OnStore (Reweigh v.0 v.1.0)

abbrev pub advance_form : Form
advance_form = say "(advance " (u64 (say ")" end))

abbrev pub to_advance : Vals advance_form → Line
to_advance v = OnStore (Advance v.0)

abbrev pub density_form : Form
density_form = say "(density " (convention (say " " (three (say ")" end))))

abbrev pub to_density : Vals density_form → Line
to_density v = OnStore (Density (to_convention (v.0, tt)) (array_of v.1))

abbrev pub report_form : Form
report_form = say "(report " (convention (say ")" end))

abbrev pub to_report : Vals report_form → Line
to_report v = OnStore (Report (to_convention (v.0, tt)))

-- ---- any line: of these forms and those after it

abbrev pub density_on : Form
density_on = either density_form report_form end

abbrev pub to_density_on : Vals density_on → Line
to_density_on = choose to_density to_report

abbrev pub advance_on : Form
advance_on = either advance_form density_on end

abbrev pub to_advance_on : Vals advance_on → Line
to_advance_on = choose to_advance to_density_on

abbrev pub reweigh_on : Form
reweigh_on = either reweigh_form advance_on end

abbrev pub to_reweigh_on : Vals reweigh_on → Line
to_reweigh_on = choose to_reweigh to_advance_on

abbrev pub clear_on : Form
clear_on = either clear_form reweigh_on end

abbrev pub to_clear_on : Vals clear_on → Line
to_clear_on = choose to_clear to_reweigh_on

abbrev pub put_on : Form
put_on = either put_form clear_on end

abbrev pub to_put_on : Vals put_on → Line
to_put_on = choose to_put to_clear_on

abbrev pub face_on : Form
face_on = either face_form put_on end

abbrev pub to_face_on : Vals face_on → Line
to_face_on = choose to_face to_put_on

abbrev pub vert_on : Form
vert_on = either vert_form face_on end

abbrev pub to_vert_on : Vals vert_on → Line
to_vert_on = choose to_vert to_face_on

abbrev pub line_form : Form
line_form = either open_form vert_on end

abbrev pub to_line : Vals line_form → Line
to_line = choose to_open to_vert_on

abbrev pub if_ended : Text → Line → Option Line
if_ended lost l = None
if_ended (left []) l = Some l
if_ended (left (b ∷ t)) l = None

-- what a line means; "Any other line" means nothing
unfoldable pub parse_line : List ℕ → Option Line
parse_line s =
    let g = map to_line (read line_form (left s)) in
    if_ended g.text g.val

-- ---- a line's text

-- its arrays have three numbers each
abbrev pub Good : Line → Type 0
Good (Open h) = Unit {0}
Good (Vert p) = length p ≡ 3
Good (Face k) = length k ≡ 3
Good (OnStore (put_call p)) = length p.kernel.c ≡ 3
Good (OnStore (Clear p)) = Unit {0}
Good (OnStore (Reweigh p w)) = Unit {0}
Good (OnStore (Advance n)) = Unit {0}
Good (OnStore (Density c p)) = length p ≡ 3
Good (OnStore (Report c)) = Unit {0}

abbrev pub this : {A B : Type 0} → A → (A ⊎ B) × Unit {0}
this v = (inl v, tt)

abbrev pub next : {A B : Type 0} → B → (A ⊎ B) × Unit {0}
next v = (inr v, tt)

abbrev pub of_convention : Convention → Vals raw_form ⊎ Vals (either rho0_form mass_form end)
of_convention Raw = inl tt
of_convention (Rho0 b) = inr (this (b & tt))
of_convention (Mass t b) = inr (next (t & b & tt))

-- the numbers of an array, and then
abbrev pub of_array : {A B : Type 0} → A → List A → B → A × (A × (A × B))
of_array d xs v = get_or xs 0 d & get_or xs 1 d & get_or xs 2 d & v

abbrev pub of_line : Line → Vals line_form
of_line (Open h) = this (h.radius & h.verts & h.faces & tt)
of_line (Vert p) = next (this (of_array +0 p tt))
of_line (Face k) = next (next (this (of_array 0 k tt)))
of_line (OnStore (put_call p)) =
    let k = p.kernel in
    next (next (next (this (p.place & of_array +0 k.c (k.sigma & k.w & k.alpha & tt)))))
of_line (OnStore (Clear p)) = next (next (next (next (this (p & tt)))))
of_line (OnStore (Reweigh p w)) = next (next (next (next (next (this (p & w & tt))))))
of_line (OnStore (Advance n)) = next (next (next (next (next (next (this (n & tt)))))))
of_line (OnStore (Density c p)) =
    next (next (next (next (next (next (next (this (of_convention c & of_array +0 p tt))))))))
of_line (OnStore (Report c)) = next (next (next (next (next (next (next (next (of_convention c & tt))))))))

abbrev pub print_line : Line → List ℕ
print_line l = print line_form (of_line l)
