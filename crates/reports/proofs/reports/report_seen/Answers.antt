-- `reports::reports::report_seen` meets its contract. Assumes nothing.
use mathlib.Core.Path.{refl}
use Rattle.layout.specs.Layout.{width}
use Rattle.readings.specs.Readings.{held_all_lem}
use Rattle.readings.specs.FoldLaws.{mass_sum, origin_sum}
use Rattle.readings.specs.Lists.{all_length}
use Rattle.reports.proofs.reports.report_seen.Goals as goal

pub returns : goal.returns
returns c =
    let a = c.args in
    let h = held_all_lem width a.seen.floats.now a.seen.words.now 32 in
    rw (
      mass_sum h,
      origin_sum h,
      ← c.mass.ensures,
      ← c.origin_density.ensures,
      ← c.report_of.ensures,
      all_length width a.seen.floats.now a.seen.words.now 32,
      ← c.pieces.ensures.0,
      ← c.filled.ensures.0,
      ← c.worst_error.ensures,
    ) refl
