-- `add_pairs` meets its contract: at each point the kernels that are left, added to the sum so far, give the
-- density. Assumes nothing.
use Rattle.std.proofs.Common.{◌≡◌, ◌+◌, ◌*◌, arith}
use Rattle.kernel.specs.Kernels.{kernel_at}
use Rattle.along.specs.AlongLaws.{no_sums, more_sums, all_sums}
use Rattle.along.proofs.along.add_pairs.Goals as goal

pub loop-j-init : goal.loop-j-init
loop-j-init c =
    let a = c.args in
    let p = a.points.now in
    no_sums (kernel_at a.kernels.now) (2 * a.pairs) p.count p.x p.y p.z a.rho.now c.requires.1

pub loop-j-preserved : goal.loop-j-preserved
loop-j-preserved c =
    let a = c.args in
    let p = a.points.now in
    let l = c.loop-j in
    let e : 2 * (l.j + 1) ≡ 2 * l.j + 2 = omega arith in
    rw e
    (more_sums (kernel_at a.kernels.now) (2 * a.pairs) p.count p.x p.y p.z l.invariant (omega arith)
    (rw (c.kernel_at-k.ensures, c.kernel_at-l.ensures) at c.add_both.ensures))

pub returns : goal.returns
returns c =
    let a = c.args in
    let p = a.points.now in
    all_sums (kernel_at a.kernels.now) (2 * a.pairs) p.count p.x p.y p.z c.loop-j.invariant (omega arith)
