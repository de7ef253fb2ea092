-- One more line, and its three numbers stored. Assumes nothing.
use Rattle.std.proofs.Common.{◌≡◌, ◌*◌, ◌+◌, ◌-◌, length, refl, arith}
use Rattle.session.proofs.Taken.{stored, face_room}
use Rattle.session.proofs.take.add_face.Goals as goal

pub returns : goal.returns
returns c =
    let a = c.args in
    let at = 3 * a.o.faces_read in
    let room = face_room a.o (c.requires.fact_1, c.requires.fact_2) in
    record {
      value = refl;
      corners_after = rw c.copy_from_slice.ensures.after (stored a.corners.now a.face at (at + 3 - at) (omega arith) (omega (arith, room)));
    }
