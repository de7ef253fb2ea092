-- 01, "Remainder", program `bench`: the forms of the lines that it prints. Definitions only.
use Rattle.std.specs.Prelude.{ℕ, Float}
use Rattle.text.specs.Form.{Form, Vals, end, real, say, u32, u64, three, ◌&◌}
use Rattle.density.specs.declared.report.MassReport.{MassReport}

-- "prints vertices and faces, then pieces and need, the density, done and left"
abbrev pub open_answer : Form
open_answer = say "(open (verts " (u32 (say ") (faces " (u32 (say "))" end))))

abbrev pub put_answer : Form
put_answer = say "(put " (u32 (say " (pieces " (u32 (say ") (steps " (u32 (say "))" end))))))

abbrev pub density_answer : Form
density_answer = say "(density " (real (say ")" end))

abbrev pub advance_answer : Form
advance_answer = say "(advance (done " (u64 (say ") (left " (u64 (say "))" end))))

-- "(clear P), (reweigh P) echo"
abbrev pub clear_answer : Form
clear_answer = say "(clear " (u32 (say ")" end))

abbrev pub reweigh_answer : Form
reweigh_answer = say "(reweigh " (u32 (say ")" end))

-- the report's counts and error, after its masses
abbrev pub counts : Form
counts = say " (kernels " (u32 (say ") (pieces " (u32 (say ") (error " (real (say "))" end))))))

-- "(report h h h h h h h (kernels N) (pieces N) (error h))", "the first seven in `MassReport` order"
abbrev pub report_answer : Form
report_answer = say "(report " (three (say " " (three (say " " (real counts)))))

abbrev pub report_in : MassReport → ℕ → ℕ → Float → Vals report_answer
report_in m kernels pieces error =
    m.raw_mass & m.rho0_scale & m.rho0_mass & m.applied_scale & m.applied_mass & m.target_mass
    & m.volume & kernels & pieces & error & tt

-- "any refusal (no N)"
abbrev pub no_answer : Form
no_answer = say "(no " (u32 (say ")" end))
