-- No line has more bytes than are kept. Assumes nothing.
use mathlib.Core.Path.{◌≡◌, refl}
use mathlib.Core.List.{List, []}
use Prim.Native.Nat.{ℕ, ◌≤◌, ◌<◌}
use native.Mathlib.Omega.{arith}
use Rattle.std.specs.Prelude.{Option, Some, None}
use lib.Dec.{lit≤}
use lib.ListN.{length}
use Rattle.text.specs.LengthLaws.{longest, at_most}
use Rattle.forms.specs.declared.line.Line.{Line}
use Rattle.forms.specs.Forms.{line_form, parse_line, of_line}
use Rattle.forms.specs.FormsLaws.{parse_spells}
use Rattle.program.specs.Bytes.{line_room}

no_line : (o : Option Line) → ((m : Line) → o ≡ Some m → ⊥) → o ≡ None
no_line None h = refl
no_line (Some m) h = absurd (h m refl)

pub long_bad : (l : List ℕ) → line_room < length l → parse_line l ≡ None
long_bad l h =
    no_line (parse_line l)
    (λ m e. let k : longest line_form ≤ line_room = lit≤ tt in
    omega (arith, at_most line_form (of_line m) l [] (parse_spells l m e)))
