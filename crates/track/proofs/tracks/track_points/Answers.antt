-- `track::tracks::track_points` meets its contract: refused, or traced. Assumes nothing.
use mathlib.Core.Path.{sym, ◌∙◌}
use native.Mathlib.Omega.{arith}
use Rattle.track.specs.TrackLaws.{trackable}
use Rattle.track.proofs.tracks.track_points.Goals as goal

pub trace-requires : goal.trace-requires
trace-requires c =
    let t = trackable _ _ (sym c.check_track.ensures ∙ c.in_ok-check_track.was) in
    (omega arith, omega (arith, t.fits))

pub overflow_cast-result : goal.overflow_cast-result
overflow_cast-result c = omega (arith, (trackable _ _ (sym c.check_track.ensures ∙ c.in_ok-check_track.was)).few)
