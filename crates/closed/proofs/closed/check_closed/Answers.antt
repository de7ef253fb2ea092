-- `closed::closed::check_closed` meets its contract: the corners of a mesh that passes are few, and below 1,048,576.
-- Assumes nothing.
use Rattle.std.proofs.Common.{sym}
use Rattle.mesh.specs.Corners.{below-greater}
use Rattle.closed.specs.ClosedLaws.{passed_below, passed_limits}
use Rattle.closed.proofs.closed.check_closed.Goals as goal

pub invariant_of-corners : goal.invariant_of-corners
invariant_of-corners c =
    let e = sym c.in_ok-check_mesh.ensures in
    let l = passed_limits _ _ e in record { few = l.1; below = below-greater (passed_below _ _ e) l.0 }

pub passes-requires : goal.passes-requires
passes-requires c =
    let e = sym c.in_ok-check_mesh.ensures in ((passed_limits _ _ e).0, passed_below _ _ e)
