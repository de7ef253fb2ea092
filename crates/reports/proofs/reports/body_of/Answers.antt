-- `reports::reports::body_of` meets its contract: the runs hold a sound mesh of so many faces. Assumes nothing.
use Prim.Native.Nat.{◌+◌, ◌-◌, ◌*◌, ◌/◌}
use mathlib.Core.Path.{◌≡◌}
use native.Mathlib.Omega.{arith}
use lib.ListN.{length, take, drop}
use Rattle.layout.specs.Layout.{width, coords_from, corners_from}
use Rattle.layout.specs.LeftLaws.{mesh_ready}
use Rattle.layout.specs.RunLaws.{length_part}
use Rattle.reports.proofs.reports.body_of.Goals as goal

pub invariant_of-body_volume_of : goal.invariant_of-body_volume_of
invariant_of-body_volume_of c =
    let a = c.args in
    record { sound = (mesh_ready a.floats.now a.words.now a.verts a.faces c.requires 0 a.faces (omega arith)).0 }

pub returns : goal.returns
returns c =
    let a = c.args in
    let e : coords_from + 3 * a.verts - coords_from ≡ 3 * a.verts = omega arith in
    let g : corners_from width + 3 * a.faces - corners_from width ≡ 3 * a.faces = omega arith in
    let n : length (take (3 * a.faces) (drop (corners_from width) a.words.now)) / 3 ≡ a.faces
    = omega (arith, rw g at (length_part a.words.now (corners_from width) (3 * a.faces) c.requires.words)) in
    rw (e, g, n) at c.body_volume_of.ensures
