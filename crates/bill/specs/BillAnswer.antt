-- The number and the values of each case of a bill's answer. Definitions only.
use Rattle.std.specs.Prelude.{[], ◌∷◌, Result}
use Rattle.base.specs.Answers.{Answer, answer_by, counted}
use Rattle.base.specs.declared.refusal.Refusal.{Refusal}
use Rattle.bill.specs.declared.Billed.{Billed}

abbrev pub billed : Result Billed Refusal → Answer
billed = answer_by (λ b. counted (b.steps ∷ b.floats ∷ []))
