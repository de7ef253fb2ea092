-- What the calls on a mesh answer: 01's number of a refusal, the lowest that applies, or 0 and the values. Definitions
-- only.
use Rattle.std.specs.Prelude.{ℕ, List, [], ◌∷◌, length, Float, Result}
use Rattle.base.specs.Answers.{Answer, accepted, answer_by, answered}
use Rattle.base.specs.declared.refusal.Refusal.{Refusal}
use Rattle.mesh.specs.declared.vectors.V3.{V3}
use Rattle.mesh.specs.Triangles.{triangle_at, face_count}
use Rattle.mesh.specs.Checks.{mesh_check}
use Rattle.kernel.specs.Field.{field_check}
use Rattle.volume.specs.Volume.{kernel_volume, body_volume}
use Rattle.mass.specs.Centroid.{volume_centroid}
use Rattle.mass.specs.Total.{field_mass}

abbrev pub point_values : V3 → List Float
point_values p = p.x ∷ p.y ∷ p.z ∷ []

-- the point, or the refusal's number
abbrev pub located_as : Result V3 Refusal → Answer
located_as = answer_by (λ p. accepted (point_values p))

unfoldable pub kernel_volume_call : List Float → List ℕ → V3 → Float → Answer
kernel_volume_call xyz corners c sigma =
    answered (mesh_check (length xyz) corners)
    (kernel_volume (triangle_at xyz corners) (face_count corners) c sigma ∷ [])

unfoldable pub body_volume_call : List Float → List ℕ → Answer
body_volume_call xyz corners =
    answered (mesh_check (length xyz) corners) (body_volume (triangle_at xyz corners) (face_count corners) ∷ [])

unfoldable pub volume_centroid_call : List Float → List ℕ → Answer
volume_centroid_call xyz corners =
    answered (mesh_check (length xyz) corners)
    (point_values (volume_centroid (triangle_at xyz corners) (face_count corners)))

unfoldable pub field_mass_call : List Float → List ℕ → List Float → Answer
field_mass_call xyz corners kernels =
    answered (field_check (length xyz) corners kernels)
    (field_mass (triangle_at xyz corners) (face_count corners) kernels ∷ [])
