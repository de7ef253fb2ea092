-- 01's number and values for each case of a put's answer. Definitions only.
use Rattle.std.specs.Prelude.{Result}
use Rattle.base.specs.Answers.{Answer, answer_by}
use Rattle.base.specs.declared.refusal.Refusal.{Refusal}
use Rattle.store.specs.Puts.{placed_with}
use Rattle.store.specs.declared.put.Placed.{Placed}

abbrev pub placed : Result Placed Refusal → Answer
placed = answer_by (λ p. placed_with p.pieces p.steps p.fit)
