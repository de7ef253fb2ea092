-- `store::open::write_floats` meets its contract. Assumes nothing.
use mathlib.Core.Path.{refl}
use mathlib.Core.List.{[], ◌∷◌}
use native.Mathlib.Omega.{arith}
use lib.ListN.{replicate}
use Rattle.base.specs.Floats.{+0}
use Rattle.layout.specs.RunLaws.{laid, sets-write}
use Rattle.store.proofs.open.write_floats.Goals as goal

pub returns : goal.returns
returns c =
    let a = c.args in
    rw (
      c.copy.ensures,
      c.fill.ensures,
      sets-write (a.radius ∷ []) a.floats.now 0 (omega arith),
    ) (laid a.floats.now (a.radius ∷ []) (replicate 1760 +0) a.xyz.now 1761 refl (omega arith))
