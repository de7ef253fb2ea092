-- 01, "Volume, mass, weights": the mass report; "Remainder": `homogeneous`. Native density.rs. Definitions only.
use Rattle.std.specs.Prelude.{List, [], ◌∷◌, Float}
use Rattle.base.specs.Floats.{◌⊗◌, +0}
use Rattle.base.specs.Constants.{one}
use Rattle.density.specs.declared.convention.Convention.{Convention}
use Rattle.density.specs.declared.report.MassReport.{MassReport}
use Rattle.density.specs.Conventions.{bulk_of, target_of, rho0_scale_lem, applied_scale_lem}

-- "report fields are those of `from_toml_impl`": of the raw mass, the density at the origin and the mesh's volume
unfoldable pub report_of : Convention → Float → Float → Float → MassReport
report_of v raw rho0 volume =
    let scale = rho0_scale_lem (bulk_of v) rho0 in
    let applied = applied_scale_lem v raw scale in
    record {
      raw_mass = raw;
      rho0_scale = scale;
      rho0_mass = raw ⊗ scale;
      applied_scale = applied;
      applied_mass = raw ⊗ applied;
      target_mass = target_of v;
      volume = volume;
    }

-- its values: "the first seven in `MassReport` order"
abbrev pub report_values : MassReport → List Float
report_values m =
    m.raw_mass
    ∷ m.rho0_scale
    ∷ m.rho0_mass
    ∷ m.applied_scale
    ∷ m.applied_mass
    ∷ m.target_mass
    ∷ m.volume
    ∷ []

-- `homogeneous`: the bulk density is taken as given
unfoldable pub homogeneous_of : Float → Float → MassReport
homogeneous_of bulk volume =
    record {
      raw_mass = bulk ⊗ volume;
      rho0_scale = one;
      rho0_mass = bulk ⊗ volume;
      applied_scale = one;
      applied_mass = bulk ⊗ volume;
      target_mass = +0;
      volume = volume;
    }
