-- 01's number and values for each case of a report's answer. Definitions only.
use Rattle.std.specs.Prelude.{Result}
use Rattle.base.specs.Answers.{Answer, answer_by}
use Rattle.base.specs.declared.refusal.Refusal.{Refusal}
use Rattle.readings.specs.Readings.{reported}
use Rattle.reports.specs.declared.reports.Totals.{Totals}

-- what it tells of the places that it covers
abbrev pub totals_read : Totals → Answer
totals_read t = reported t.mass t.filled t.pieces t.error

abbrev pub report_read : Result Totals Refusal → Answer
report_read = answer_by totals_read
