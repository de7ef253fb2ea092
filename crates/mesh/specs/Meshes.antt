-- What later definitions take of a mesh: its triangles, by face number, and their count. Definitions only.
use Rattle.std.specs.Prelude.{◌≡◌, ℕ, List, Float, Result, MatchResult, Err}
use Rattle.base.specs.declared.refusal.Refusal.{Refusal}
use Rattle.base.specs.Answers.{Checked, passed}
use Rattle.mesh.specs.declared.triangles.Mesh.{Mesh}
use Rattle.mesh.specs.declared.triangles.Triangle.{Triangle}
use Rattle.mesh.specs.Triangles.{triangle_at, face_count}

abbrev pub triangles_of : Mesh → ℕ → Triangle
triangles_of m = triangle_at m.xyz.now m.faces.now

abbrev pub face_count_of : Mesh → ℕ
face_count_of m = face_count m.faces.now

-- the mesh of these coordinates and corners where a check passes, else the check's refusal
abbrev pub MeshIf : Checked → List Float → List ℕ → Result Mesh Refusal → Type 0
MeshIf check xyz corners r =
    MatchResult r (λ m. (check ≡ passed) × (m.xyz.now ≡ xyz) × (m.faces.now ≡ corners)) (λ e. check ≡ Err e)
