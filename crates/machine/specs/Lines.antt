-- 02, L10, on the machine's side: "opening, vertices, faces, then puts by rising place, with kept weights", from its
-- mesh, radius and places alone. Definitions only.
use Rattle.std.specs.Prelude.{List, [], ◌∷◌, ◌++◌, ℕ, suc, get_or, Float}
use Rattle.std.proofs.Common.{inr}
use Rattle.std.specs.Float.{nan}
use Rattle.kernel.specs.declared.kernel.Kernel.{Kernel}
use Rattle.text.specs.Form.{Vals, print, ◌&◌}
use Rattle.script.specs.Lines.{open_line, vert_line, face_line, put_line}
use Rattle.machine.specs.Machine.{Mesh, Place, empty, full}

-- a line to three coordinates, and to three corners
abbrev pub vert_lines : List Float → List ℕ
vert_lines [] = []
vert_lines (x ∷ []) = []
vert_lines (x ∷ y ∷ []) = []
vert_lines (x ∷ y ∷ z ∷ xs) = print vert_line (x & y & z & tt) ++ vert_lines xs

abbrev pub face_lines : List ℕ → List ℕ
face_lines [] = []
face_lines (a ∷ []) = []
face_lines (a ∷ b ∷ []) = []
face_lines (a ∷ b ∷ c ∷ ks) = print face_line (a & b & c & tt) ++ face_lines ks

-- place i's kernel and layer: "Lines carry (layer N) after alpha"
abbrev pub put_values : ℕ → Kernel → ℕ → Vals put_line
put_values i k l =
    i & get_or k.c 0 nan & get_or k.c 1 nan & get_or k.c 2 nan & k.sigma & k.w & k.alpha & inr (l & tt) & tt

-- what the filled ones of the places from i on say, and their lines
abbrev pub puts_of_lem : ℕ → List Place → List (Vals put_line)
puts_of_lem i [] = []
puts_of_lem i (empty ∷ ss) = puts_of_lem (suc i) ss
puts_of_lem i (full k fit o p l ∷ ss) = put_values i k l ∷ puts_of_lem (suc i) ss

abbrev pub put_lines : List (Vals put_line) → List ℕ
put_lines [] = []
put_lines (v ∷ vs) = print put_line v ++ put_lines vs

unfoldable pub machine_lines : Mesh → List Place → List ℕ
machine_lines m ss =
    print open_line (m.radius & m.verts & m.faces & tt)
    ++ (vert_lines m.coords ++ (face_lines m.corners ++ put_lines (puts_of_lem 0 ss)))
