-- `track::tracks::side_by_side` meets its contract: the pieces that are laid down have the pieces' density.
-- Assumes nothing.
use mathlib.Core.Path.{sym, ap, ◌∙◌}
use mathlib.Core.List.{List, map}
use lib.Ieee.{Float}
use Rattle.kernel.specs.Kernels.{kernel_at}
use Rattle.density.specs.Densitize.{densitize_of}
use Rattle.layout.specs.Layout.{width}
use Rattle.layout.specs.Runs.{write}
use Rattle.along.specs.AlongLaws.{stretch-same}
use Rattle.readings.specs.Readings.{bare, rescaled, density_at, held_all_lem}
use Rattle.readings.specs.Lists.{all_length}
use Rattle.track.specs.TrackLaws.{rescaled_density}
use Rattle.track.proofs.tracks.side_by_side.Goals as goal

pub returns : goal.returns
returns c =
    let a = c.args in
    let n = c.pieces-n in
    let h = held_all_lem width a.seen.floats.now a.seen.words.now 32 in
    let l = c.write_list in
    c.densities.ensures
    ∙ ap (write a.out.now 0)
    (stretch-same _ (density_at (map (rescaled a.s) (map bare h)))
    (λ x. ap (λ (ks : List Float). densitize_of (kernel_at ks) n.result x) l.ensures
    ∙ rescaled_density _ a.s h n.result
    (n.ensures.0 ∙ sym (all_length width a.seen.floats.now a.seen.words.now 32)) x) a.points.now 0 a.count)
