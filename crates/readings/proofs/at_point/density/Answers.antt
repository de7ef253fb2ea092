-- `readings::at_point::density`: its check, then its scale, then its answer. Assumes nothing.
use Rattle.std.specs.Prelude.{Float}
use Rattle.std.proofs.Common.{◌≡◌, sym, ap, ◌∙◌, arith, [], ◌∷◌}
use Rattle.std.proofs.lemmas.Result.{err_from_is_err_and}
use mathlib.Core.List.{map}
use Rattle.base.specs.Answers.{accepted, outcome, passed}
use Rattle.layout.specs.Layout.{width}
use Rattle.readings.specs.Readings.{density, by_mass, applied, bare, rescaled, density_at, held_all_lem}
use Rattle.readings.specs.Checks.{read_check}
use Rattle.readings.specs.FoldLaws.{scaled_sum}
use Rattle.readings.specs.ReadLaws.{read_refused}
use Rattle.readings.specs.SeenLaws.{read_seen}
use Rattle.readings.proofs.at_point.density.Goals as goal

pub returns-in_err-check_read : goal.returns-in_err-check_read
returns-in_err-check_read c =
    let a = c.args in
    let e = err_from_is_err_and c.from_residual.result c.from_residual.ensures.1 in
    rw (e.1, e.2)
    (sym (read_refused width a.floats.now a.words.now a.layers (density a.v a.point) _
    (rw c.by_mass.ensures at (sym c.check_read.ensures.refusal ∙ c.in_err-check_read.was))))

pub returns : goal.returns
returns c =
    let a = c.args in
    let f = c.args.floats.now in
    let w = c.args.words.now in
    let p : read_check width f w a.layers (by_mass a.v) ≡ passed
    = ap (read_check width f w a.layers) (sym c.by_mass.ensures)
    ∙ (sym c.check_read.ensures.refusal ∙ c.in_ok-check_read.was) in
    let h = held_all_lem width f c.seen_places-seen.result 32 in
    let d : c.density.result ≡ density_at (map (rescaled (applied a.v h)) (map bare h)) a.point
    = c.density.ensures
    ∙ (sym (scaled_sum c.scale.result a.point h)
    ∙ ap (λ (s : Float). density_at (map (rescaled s) (map bare h)) a.point)
    c.scale.ensures) in
    ap (λ (x : Float). outcome (accepted (x ∷ [])) []) d
    ∙ sym (read_seen width f w a.layers (density a.v a.point) (omega arith) p _ c.seen_places-seen.ensures.seen)
