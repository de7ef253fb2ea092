use Prim.Native.Nat.{◌+◌, ◌-◌}
use Rattle.mesh.specs.Meshes.{face_count_of, triangles_of}
use Rattle.advance.proofs.Steps.{Going}
use Rattle.advance.proofs.work.run_place.Given as goal

abbrev pub invariant-loop-r : goal.invariant-loop-r
invariant-loop-r l =
    Going (triangles_of l.mesh) l.initial.floats (face_count_of l.mesh) l.i l.count l.initial.r.finished
    l.initial.r.done l.initial.r.budget l.floats l.r.finished l.r.done l.r.budget

abbrev pub decreases-loop-r : goal.decreases-loop-r
decreases-loop-r l = l.r.budget + l.count - l.r.finished
