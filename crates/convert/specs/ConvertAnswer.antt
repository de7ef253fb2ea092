-- 02's number and value for each case of a converter's answer. Definitions only.
use Rattle.std.specs.Prelude.{ℕ, Result}
use Rattle.base.specs.Answers.{Answer, counted_as}
use Rattle.base.specs.declared.refusal.Refusal.{Refusal}

abbrev pub converted_as : Result ℕ Refusal → Answer
converted_as = counted_as
