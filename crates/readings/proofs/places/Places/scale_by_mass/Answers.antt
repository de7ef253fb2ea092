-- `readings::shared::scale_by_mass` meets its contract. Assumes nothing.
use mathlib.Core.Path.{ap}
use lib.Ieee.{Float}
use Rattle.base.specs.Floats.{◌⊘◌}
use Rattle.density.specs.Laws.{scaled_mass, unscaled_mass}
use Rattle.layout.specs.Layout.{width}
use Rattle.readings.specs.Readings.{held_all_lem}
use Rattle.readings.specs.FoldLaws.{mass_sum, origin_sum}
use Rattle.readings.proofs.places.Places.scale_by_mass.Goals as goal

pub returns-then-scalable : goal.returns-then-scalable
returns-then-scalable c =
    let a = c.args in
    let h = held_all_lem width a.self.floats.now a.self.words.now 32 in
    rw (
      mass_sum h,
      ← c.mass-mass.ensures,
      scaled_mass a.target a.bulk c.mass-mass.result _
          (rw (← c.target_of-aim.ensures, ← c.scalable.ensures) c.if-scalable.true),
    ) (ap (λ (t : Float). t ⊘ c.mass-mass.result) c.target_of-aim.ensures)

pub returns : goal.returns
returns c =
    let a = c.args in
    let h = held_all_lem width a.self.floats.now a.self.words.now 32 in
    rw (
      mass_sum h,
      origin_sum h,
      ← c.mass-mass.ensures,
      ← c.origin_density.ensures,
      ← c.bulk_of.ensures,
      unscaled_mass a.target a.bulk c.mass-mass.result _
          (rw (← c.target_of-aim.ensures, ← c.scalable.ensures) c.if-scalable.false),
    ) c.rho0_scale.ensures
