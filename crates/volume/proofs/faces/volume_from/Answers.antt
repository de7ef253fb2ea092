-- `volume::faces::volume_from` meets its contract: whole blocks, then the faces that are left, by sigma's absolute
-- value. Assumes nothing.
use mathlib.Core.Path.{sym, ◌∙◌}
use Prim.Native.Nat.{◌+◌, ◌*◌, ◌-◌, ◌/◌}
use native.Mathlib.Omega.{arith}
use borrow.Author.Rules.{rules}
use Rattle.mesh.specs.Meshes.{triangles_of}
use Rattle.base.specs.Floats.{abs}
use Rattle.volume.specs.Laws.{volume_more}
use Rattle.volume.specs.EvenLaws.{from-abs}
use Rattle.volume.proofs.faces.volume_from.Goals as goal

pub returns : goal.returns
returns c =
    let a = c.args in
    let t = triangles_of a.mesh in
    let mid = a.from + 4 * ((a.to - a.from) / 4) in
    rw (c.volume_faces-2.ensures, c.volume_blocks-blocks.ensures, c.abs-size.ensures)
    (volume_more t a.c (abs a.sigma) a.from mid a.to a.sum (omega arith) (omega arith)
    ∙ from-abs t a.c a.sigma a.from a.to a.sum
    (record { held = search rules; plus = sym c.is_minus_zero.ensures ∙ c.if-is_minus_zero.false }))
