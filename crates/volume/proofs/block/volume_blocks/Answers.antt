-- `volume::block::volume_blocks` meets its contract: after i turns the sum is that of i blocks, and a turn is 28
-- points, their factors, 28 additions. Assumes nothing.
use borrow.Author.Rules.{rules}
use Prim.Native.Nat.{◌+◌, ◌*◌}
use mathlib.Core.Path.{◌≡◌, sym, ◌∙◌}
use native.Mathlib.Omega.{arith}
use Rattle.mesh.specs.Meshes.{triangles_of}
use Rattle.volume.proofs.Blocks.{four_faces, no_block, one_block}
use Rattle.volume.proofs.block.volume_blocks.Goals as goal

pub loop-i-init : goal.loop-i-init
loop-i-init c =
    let a = c.args in (
      search rules,
      sym (no_block (triangles_of a.mesh) a.c a.sigma a.from a.sum),
      search rules,
      search rules,
    )

pub set_faces-requires : goal.set_faces-requires
set_faces-requires c =
    (search rules, c.loop-i.invariant.2, c.loop-i.invariant.3)

pub loop-i-preserved : goal.loop-i-preserved
loop-i-preserved c =
    let a = c.args in
    let t = triangles_of a.mesh in
    let e = c.set_faces.ensures in
    let k = a.from + 4 * c.loop-i.i in (
      search rules,
      one_block t a.c a.sigma a.from c.loop-i.i a.sum c.loop-i.invariant.1
          (c.all_shares-sum.ensures ∙ four_faces t a.c a.sigma k e.0 c.factors.ensures e.1 _),
      e.0.long,
      e.1.long,
    )

pub returns : goal.returns
returns c =
    let l = c.loop-i in
    let h : l.i ≡ c.args.n = omega arith in
    rw h at l.invariant.1
