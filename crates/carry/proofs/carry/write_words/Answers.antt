-- `carry::carry::write_words` meets its contract. Assumes nothing.
use mathlib.Core.Path.{◌≡◌, refl}
use mathlib.Core.List.{[], ◌∷◌}
use Prim.Native.Nat.{◌+◌, ◌-◌, ◌*◌}
use native.Mathlib.Omega.{arith}
use lib.ListN.{length, drop, length-drop}
use lib.Seq.{length-take-le}
use Rattle.layout.specs.Layout.{place_limit, corners_from, verts_of, faces_of, corners_of}
use Rattle.layout.specs.Runs.{write}
use Rattle.layout.specs.RunLaws.{laid, sets-write}
use Rattle.carry.specs.Carry.{old_width, carried_rows}
use Rattle.carry.proofs.Carried.{rows-length}
use Rattle.carry.proofs.carry.write_words.Goals as goal

pub returns : goal.returns
returns c =
    let a = c.args in
    let r = c.write_rows in
    let u = c.args.words.now in
    let w = c.args.old_words.now in
    let n : corners_from old_width + 3 * faces_of w - corners_from old_width ≡ 3 * faces_of w = omega arith in
    let e : c.copy.new.run ≡ write r.new.words 130 (corners_of old_width w)
    = rw n at c.copy.ensures in
    let l : length (corners_of old_width w) ≡ 3 * faces_of w
    = length-take-le (3 * faces_of w) (drop 98 w) (rw length-drop (omega arith)) in
    rw (e, r.ensures, sets-write (verts_of w ∷ faces_of w ∷ []) u 0 (omega arith))
    (laid u (verts_of w ∷ faces_of w ∷ []) (carried_rows w place_limit) (corners_of old_width w) 130
    (rw (rows-length w place_limit) refl) (omega arith))
