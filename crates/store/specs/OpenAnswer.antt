-- 01's number and values for each case of an opening's answer. Definitions only.
use Rattle.std.specs.Prelude.{[], ◌∷◌, Result}
use Rattle.base.specs.Answers.{Answer, answer_by, counted}
use Rattle.base.specs.declared.refusal.Refusal.{Refusal}
use Rattle.store.specs.declared.open.Opened.{Opened}

-- "prints vertices and faces"
abbrev pub opened : Result Opened Refusal → Answer
opened = answer_by (λ m. counted (m.verts ∷ m.faces ∷ []))
