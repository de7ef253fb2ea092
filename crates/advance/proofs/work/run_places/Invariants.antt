use Rattle.mesh.specs.Meshes.{face_count_of, triangles_of}
use Rattle.advance.proofs.Places.{Sweep}
use Rattle.advance.proofs.work.run_places.Given as goal

abbrev pub invariant-loop-i : goal.invariant-loop-i
invariant-loop-i l =
    Sweep (triangles_of l.mesh) l.initial.floats l.initial.words (face_count_of l.mesh) l.budget l.floats l.words l.rest
    l.i
