-- `page::masses::place_printable`: a filled place is printable by its mass. Assumes nothing.
use Prim.Native.Nat.{◌-◌}
use mathlib.Core.Path.{◌≡◌, refl}
use Rattle.layout.specs.Layout.{width, status_of}
use Rattle.page.proofs.Rows.{one_printable}
use Rattle.page.proofs.masses.place_printable.Goals as goal

pub returns-else-status_at-eq0 : goal.returns-else-status_at-eq0
returns-else-status_at-eq0 c =
    let a = c.args in
    let s = status_of width a.places.words.now a.i in
    let filled : s ≡ 0 → ⊥ = rw c.status_at.ensures at c.if-status_at-eq0.false in
    one_printable a.places.floats.now a.i s (s - 1) filled refl _ c.mass_with.ensures _ c.abs.ensures
