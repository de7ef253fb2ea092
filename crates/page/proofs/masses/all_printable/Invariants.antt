use mathlib.Core.Path.{◌≡◌}
use Rattle.layout.specs.Layout.{width}
use Rattle.page.specs.Page.{all_printable, held_rows}
use Rattle.page.proofs.masses.all_printable.Given as goal

abbrev pub invariant-loop-i : goal.invariant-loop-i
invariant-loop-i l = l.good ≡ all_printable (held_rows width l.places.floats.now l.places.words.now l.i)
