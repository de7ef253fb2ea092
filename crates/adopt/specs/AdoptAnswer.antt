-- The papers' number and the values for each case of an adoption's answer. Definitions only.
use Rattle.std.specs.Prelude.{Option, Some, None, Result}
use Rattle.base.specs.Answers.{Answer, answer_by}
use Rattle.base.specs.declared.refusal.Refusal.{Refusal}
use Rattle.adopt.specs.Adopt.{adopted, another}
use Rattle.adopt.specs.declared.adopt.Adopted.{Adopted}

-- a place that came across, or none of another body
abbrev pub adopted_as : Option Adopted → Answer
adopted_as (Some a) = adopted a.pieces a.left
adopted_as None = another

abbrev pub adopting : Result (Option Adopted) Refusal → Answer
adopting = answer_by adopted_as
