-- 01's number and values for each case of an advance's answer. Definitions only.
use Rattle.std.specs.Prelude.{[], ◌∷◌, Result}
use Rattle.base.specs.Answers.{Answer, answer_by, counted}
use Rattle.base.specs.declared.refusal.Refusal.{Refusal}
use Rattle.advance.specs.declared.advance.Advanced.{Advanced}

-- "done and left"
abbrev pub advanced : Result Advanced Refusal → Answer
advanced = answer_by (λ a. counted (a.done ∷ a.left ∷ []))
