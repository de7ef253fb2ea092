-- What crosses to C of a call's answer: 01's number, then each value, +0 where the answer has none. Definitions only.
use Rattle.std.specs.Prelude.{get_or}
use Rattle.base.specs.Floats.{+0}
use Rattle.base.specs.Answers.{Answer}
use Rattle.density.specs.declared.report.MassReport.{MassReport}
use Rattle.crossing.specs.declared.volumes.CauchyValue.{CauchyValue}
use Rattle.crossing.specs.declared.volumes.CauchyPoint.{CauchyPoint}
use Rattle.crossing.specs.declared.volumes.CauchyReport.{CauchyReport}

-- an answer of one float
abbrev pub value_from : Answer → CauchyValue
value_from a = record { no = a.refusal; value = get_or a.floats 0 +0 }

-- an answer of a point's three
abbrev pub point_from : Answer → CauchyPoint
point_from a =
    record {
      no = a.refusal;
      at = record { x = get_or a.floats 0 +0; y = get_or a.floats 1 +0; z = get_or a.floats 2 +0 };
    }

-- an answer of a report's seven, "in `MassReport` order"
abbrev pub mass_from : Answer → MassReport
mass_from a =
    record {
      raw_mass = get_or a.floats 0 +0;
      rho0_scale = get_or a.floats 1 +0;
      rho0_mass = get_or a.floats 2 +0;
      applied_scale = get_or a.floats 3 +0;
      applied_mass = get_or a.floats 4 +0;
      target_mass = get_or a.floats 5 +0;
      volume = get_or a.floats 6 +0;
    }

-- the report beside a refusal
abbrev pub no_report : MassReport
no_report =
    record {
      raw_mass = +0;
      rho0_scale = +0;
      rho0_mass = +0;
      applied_scale = +0;
      applied_mass = +0;
      target_mass = +0;
      volume = +0;
    }

abbrev pub report_from : Answer → CauchyReport
report_from a = record { no = a.refusal; report = mass_from a }
