-- `along::densities` meets its contract: a block more a turn. Assumes nothing.
use native.Mathlib.Omega.{arith}
use Rattle.kernel.specs.Kernels.{kernel_at}
use Rattle.density.specs.Densitize.{densitize_of}
use Rattle.along.specs.AlongLaws.{none_traced, more_traced}
use Rattle.along.proofs.along.densities.Goals as goal

pub loop-at-preserved : goal.loop-at-preserved
loop-at-preserved c =
    let a = c.args in
    let l = c.loop-at in
    let m = c.share-m in (
      omega (arith, m.ensures.1),
      more_traced (densitize_of (kernel_at a.kernels.now) a.n) a.track.now a.out.now l.at m.result
          l.invariant.1 (omega (arith, m.ensures.1)) c.block.ensures,
    )

pub loop-at-init : goal.loop-at-init
loop-at-init c = (omega arith, none_traced _ _ _)
