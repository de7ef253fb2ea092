-- `track::tracks::track` meets its contract: its check, then its scale, then its answer. Assumes nothing.
use Rattle.std.proofs.lemmas.Result.{err_from_is_err_and}
use Rattle.base.specs.Answers.{passed}
use mathlib.Core.List.{map}
use lib.Ieee.{Float}
use mathlib.Core.Path.{◌≡◌, sym, ap, ◌∙◌}
use native.Mathlib.Omega.{arith}
use Rattle.layout.specs.Layout.{width}
use Rattle.readings.specs.Readings.{track, tracking, by_mass, bare, held_all_lem}
use Rattle.readings.specs.Checks.{read_check}
use Rattle.readings.specs.ReadLaws.{read_refused}
use Rattle.readings.specs.SeenLaws.{read_seen}
use Rattle.track.proofs.tracks.track.Goals as goal

pub returns-in_err-check_read : goal.returns-in_err-check_read
returns-in_err-check_read c =
    let a = c.args in
    let e = err_from_is_err_and c.from_residual.result c.from_residual.ensures.1 in
    rw (e.1, e.2)
    (sym (read_refused width a.floats.now a.words.now a.layers (track a.v a.points.now a.out.now) _
    (rw c.by_mass.ensures at (sym c.check_read.ensures.refusal ∙ c.in_err-check_read.was))))

pub returns : goal.returns
returns c =
    let a = c.args in
    let f = c.args.floats.now in
    let w = c.args.words.now in
    let p : read_check width f w a.layers (by_mass a.v) ≡ passed
    = ap (read_check width f w a.layers) (sym c.by_mass.ensures)
    ∙ (sym c.check_read.ensures.refusal ∙ c.in_ok-check_read.was) in
    let ks = map bare (held_all_lem width f c.seen_places-seen.result 32) in
    c.track_points.ensures
    ∙ (ap (λ (s : Float). tracking s ks a.points.now a.out.now) c.scale.ensures
    ∙ sym
    (read_seen width f w a.layers (track a.v a.points.now a.out.now) (omega arith) p _
    c.seen_places-seen.ensures.seen))
