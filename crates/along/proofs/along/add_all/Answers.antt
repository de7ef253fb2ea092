-- `add_all` meets its contract: the pairs, then the last one of an odd number. Assumes nothing.
use Rattle.std.proofs.Common.{◌≡◌, suc, ◌*◌, ◌/◌, arith}
use Rattle.kernel.specs.Kernels.{kernel_at}
use Rattle.along.specs.AlongLaws.{last_sum}
use Rattle.along.proofs.along.add_all.Goals as goal

pub returns-then-n-eq1 : goal.returns-then-n-eq1
returns-then-n-eq1 c =
    let a = c.args in
    let p = a.points.now in
    let n = 2 * (a.n / 2) in
    let e : a.n ≡ suc n = omega arith in
    rw e
    (last_sum (kernel_at a.kernels.now) n p.count p.x p.y p.z c.add_pairs.ensures
    (rw c.kernel_at.ensures at c.add_kernel.ensures))
