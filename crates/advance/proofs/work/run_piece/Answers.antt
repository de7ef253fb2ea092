-- `advance::work::run_piece` meets its contract. Assumes nothing.
use mathlib.Core.Path.{sym, ap, ◌∙◌}
use mathlib.Core.List.{List}
use Prim.Native.Nat.{◌+◌, ◌-◌, ◌*◌, ◌<◌}
use native.Mathlib.Omega.{arith}
use lib.Ieee.{Float}
use Rattle.mesh.specs.Meshes.{face_count_of, triangles_of}
use Rattle.advance.specs.Steps.{work}
use Rattle.advance.proofs.Steps.{piece_end, piece_more, left_chunk}
use Rattle.advance.proofs.work.run_piece.Goals as goal

pub returns-then-k-room : goal.returns-then-k-room
returns-then-k-room c =
    let a = c.args in
    let s = c.args.start in
    let k = c.min-k.result in
    let r = left_chunk (triangles_of a.mesh) a.floats.now _ (face_count_of a.mesh) a.c (225 + 48 * a.i) s.finished
    s.done k c.chunk.ensures in
    let d : s.done < face_count_of a.mesh = c.requires.fact_2.part (omega arith) in
    ap (λ (x : List Float). work x (s.finished + 1) 0 (s.budget - k)) r
    ∙ sym
    (piece_end (triangles_of a.mesh) a.c (face_count_of a.mesh) (225 + 48 * a.i) a.floats.now s.finished s.done
    s.budget d (omega (arith, c.requires.fact_2)) k (omega (arith, c.if-k-room.true)) (omega arith))

pub returns : goal.returns
returns c =
    let a = c.args in
    let s = c.args.start in
    let k = c.min-k.result in
    let r = left_chunk (triangles_of a.mesh) a.floats.now _ (face_count_of a.mesh) a.c (225 + 48 * a.i) s.finished
    s.done k c.chunk.ensures in
    let d : s.done < face_count_of a.mesh = c.requires.fact_2.part (omega arith) in
    let n = c.if-k-room.false in
    ap (λ (x : List Float). work x s.finished (s.done + k) (s.budget - k)) r
    ∙ sym
    (piece_more (triangles_of a.mesh) a.c (face_count_of a.mesh) (225 + 48 * a.i) a.floats.now s.finished s.done
    s.budget d (omega (arith, c.requires.fact_2)) k (omega (arith, n)) (omega (arith, n)))
