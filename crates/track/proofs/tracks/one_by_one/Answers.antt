-- `track::tracks::one_by_one` meets its contract: a point more a turn, as a single reading sums it. Assumes nothing.
use mathlib.Core.Path.{sym, ◌∙◌}
use native.Mathlib.Omega.{arith}
use Rattle.layout.specs.Layout.{width}
use Rattle.along.specs.AlongLaws.{none_traced, one_traced}
use Rattle.readings.specs.Readings.{held_all_lem}
use Rattle.readings.specs.FoldLaws.{scaled_sum}
use Rattle.track.proofs.tracks.one_by_one.Goals as goal

pub loop-i-init : goal.loop-i-init
loop-i-init c = none_traced _ _ _

pub loop-i-preserved : goal.loop-i-preserved
loop-i-preserved c =
    let l = c.loop-i in
    let a = c.args in
    one_traced _ _ _ _ l.invariant (omega arith)
    (c.density.ensures ∙ sym (scaled_sum a.s _ (held_all_lem width a.seen.floats.now a.seen.words.now 32)))
