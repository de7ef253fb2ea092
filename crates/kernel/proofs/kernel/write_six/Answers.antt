-- `kernel::kernel::write_six` meets its contract: the six floats in the part that is written. Assumes nothing.
use Rattle.std.proofs.Common.{◌≡◌, ◌+◌, ◌-◌, take, drop, sym, arith}
use Rattle.std.proofs.Math.Path.{◌∙◌}
use Rattle.std.proofs.Math.Seq.{sets-eq, drop-drop}
use mathlib.Core.List.{append_assoc}
use Rattle.kernel.specs.Kernels.{six}
use Rattle.kernel.proofs.kernel.write_six.Goals as goal

pub returns : goal.returns
returns c =
    let a = c.args in
    let l = a.floats.now in
    let e : a.at + 6 - a.at ≡ 6 = omega arith in
    rw (c.copy_from_slice.ensures.after, e, drop-drop)
    (sym (sets-eq (six a.k) l a.at (omega arith) ∙ append_assoc (take a.at l) (six a.k) (drop (a.at + 6) l)))
