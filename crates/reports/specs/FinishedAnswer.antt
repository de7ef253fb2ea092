-- 01's number and values for each case of the answer of a report of what is finished. Definitions only.
use Rattle.std.specs.Prelude.{Result}
use Rattle.base.specs.Answers.{Answer, answer_by}
use Rattle.base.specs.declared.refusal.Refusal.{Refusal}
use Rattle.readings.specs.Finished.{beside}
use Rattle.reports.specs.ReportAnswer.{totals_read}
use Rattle.reports.specs.declared.reports.Finished.{Finished}

abbrev pub finished_read : Result Finished Refusal → Answer
finished_read = answer_by (λ f. beside f.passed (totals_read f.totals))
