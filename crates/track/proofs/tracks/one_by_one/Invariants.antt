use mathlib.Core.List.{map}
use Rattle.layout.specs.Layout.{width, place_limit}
use Rattle.along.specs.AlongLaws.{Traced}
use Rattle.readings.specs.Readings.{bare, rescaled, density_at, held_all_lem}
use Rattle.track.proofs.tracks.one_by_one.Given as goal

abbrev pub invariant-loop-i : goal.invariant-loop-i
invariant-loop-i l =
    Traced (density_at (map (rescaled l.s)
    (map bare (held_all_lem width l.seen.floats.now l.seen.words.now place_limit))))
    l.points l.initial.out l.i l.out
