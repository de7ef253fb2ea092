-- One more line, and its three numbers stored. Assumes nothing.
use Rattle.std.proofs.Common.{◌≡◌, ◌*◌, ◌+◌, ◌-◌, length, refl, arith}
use Rattle.session.proofs.Taken.{stored, vert_room}
use Rattle.session.proofs.take.add_vert.Goals as goal

pub returns : goal.returns
returns c =
    let a = c.args in
    let at = 3 * a.o.verts_read in
    let room = vert_room a.o (c.requires.fact_1, c.requires.fact_2) in
    record {
      value = refl;
      coords_after = rw c.copy_from_slice.ensures.after (stored a.coords.now a.point at (at + 3 - at) (omega arith) (omega (arith, room)));
    }
