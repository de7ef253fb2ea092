-- Many hands: a store that an opening, a carry or lines began holds its machine, and so does one after any list of
-- events whose adoptions are from such stores. Assumes nothing.
use mathlib.Core.Path.{◌≡◌, sym, subst}
use mathlib.Core.List.{List}
use Prim.Native.Nat.{ℕ}
use lib.Ieee.{Float}
use Rattle.layout.specs.Layout.{width}
use Rattle.carry.specs.Carry.{old_width}
use Rattle.machine.specs.Machine.{carried, Machine}
use Rattle.machine.specs.Holding.{excess_f, excess_w}
use Rattle.machine.specs.Calls.{Store}
use Rattle.machine.specs.Events.{Event}
use Rattle.machine.specs.Bills.{Every}
use Rattle.machine.specs.Beginnings.{Begun, by-opening, by-carry, by_lines, Came, none, a_call, an-adoption}
use Rattle.machine.proofs.Rows.{width3, Layered, formed}
use Rattle.machine.proofs.Adopting.{Holds, Brought, last}
use Rattle.machine.proofs.Opened.{holds}
use Rattle.machine.proofs.OldCalls.{old_all, brought_puts}
use Rattle.machine.proofs.Carrying.{carried_holds}
use Rattle.machine.proofs.Loading.{scripted-holds}

-- with whatever excess
abbrev Held : ℕ → Machine → Store → Type 0
Held wd m s = (xs : List Float) × (ys : List ℕ) × Holds wd m s xs ys

at_width : {wd : ℕ} {m : Machine} {s : Store} → wd ≡ width → Held width m s → Held wd m s
at_width {m = m} {s = s} e h = subst (λ (x : ℕ). Held x m s) (sym e) h

module _ (wd : ℕ) (ly : Layered wd) where
  begun-holds : {m : Machine} {s : Store} → Begun wd m s → Held wd m s
  begun-holds (by-opening r xs ks fs ws h) = (excess_f xs fs, excess_w wd ks ws, holds wd (formed ly) r xs ks fs ws h)
  begun-holds (by-carry r xs ks fs ws cs gs us q h fitting n) =
      let old = old_all carried cs (brought_puts cs fitting) (holds old_width width3 r xs ks fs ws h) in
      at_width q (_, _, carried_holds old gs us n)
  begun-holds (by_lines fs ws s h) = (_, _, scripted-holds wd ly fs ws s h)

  pub came_brought : {es : List Event} → Came wd es → Every (Brought wd) es
  came_brought none = tt {0}
  came_brought (a_call c) = (tt {0}, came_brought c)
  came_brought (an-adoption {ds = ds} b d c) =
      let h = begun-holds b in
      ((h.0, h.1, last wd ly h.0 h.1 ds (came_brought d) h.2), came_brought c)
