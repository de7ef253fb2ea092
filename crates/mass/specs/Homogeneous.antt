-- 01, "Remainder": `homogeneous` of native density.rs, on a mesh. Definitions only.
use Rattle.std.specs.Prelude.{ℕ, List, length, Float, Result}
use Rattle.base.specs.Answers.{Answer, accepted, answer_by, answered}
use Rattle.base.specs.declared.refusal.Refusal.{Refusal}
use Rattle.mesh.specs.Triangles.{triangle_at, face_count}
use Rattle.mesh.specs.Checks.{mesh_check}
use Rattle.volume.specs.Volume.{body_volume}
use Rattle.density.specs.declared.report.MassReport.{MassReport}
use Rattle.density.specs.Reports.{report_values, homogeneous_of}

-- the report's values, or the refusal's number
abbrev pub reported_as : Result MassReport Refusal → Answer
reported_as = answer_by (λ m. accepted (report_values m))

-- refusals 1 to 3 of the mesh; else the report of the bulk density and the enclosed volume
unfoldable pub homogeneous_call : Float → List Float → List ℕ → Answer
homogeneous_call bulk xyz corners =
    answered (mesh_check (length xyz) corners)
    (report_values (homogeneous_of bulk (body_volume (triangle_at xyz corners) (face_count corners))))
