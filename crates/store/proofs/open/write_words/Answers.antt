-- `store::open::write_words` meets its contract. Assumes nothing.
use mathlib.Core.Path.{refl}
use mathlib.Core.List.{[], ◌∷◌}
use native.Mathlib.Omega.{arith}
use lib.ListN.{replicate}
use Rattle.layout.specs.RunLaws.{laid}
use Rattle.store.proofs.open.write_words.Goals as goal

pub returns : goal.returns
returns c =
    let a = c.args in
    rw (c.copy-2.ensures, c.fill.ensures, c.copy.ensures)
    (laid a.words.now (a.verts ∷ a.faces ∷ []) (replicate 128 0) a.corners.now 130 refl (omega arith))
